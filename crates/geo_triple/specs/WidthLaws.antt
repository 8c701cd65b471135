-- The limits of both widths are within that of 128 bits.
use Rattle.std.specs.Prelude.{◌≤◌}
use Rattle.std.proofs.Common.{arith}
use Rattle.geo_triple.specs.declared.limits.TheConstants.{SHORT_LIMIT, STATEMENT_LIMIT}

pub wide_within : STATEMENT_LIMIT ≤ STATEMENT_LIMIT
wide_within = omega arith

pub narrow_within : SHORT_LIMIT ≤ STATEMENT_LIMIT
narrow_within = omega arith
