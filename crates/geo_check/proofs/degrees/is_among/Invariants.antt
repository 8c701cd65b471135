use Rattle.std.proofs.Common.{◌≡◌, drop}
use Rattle.geo_check.specs.Degrees.{is_among}
use Rattle.geo_check.proofs.degrees.is_among.Given as goal

abbrev pub invariant-loop-q : goal.invariant-loop-q
invariant-loop-q l = is_among (drop l.q-index l.parameters) l.p ≡ is_among l.parameters l.p
