use Rattle.std.proofs.Common.{rules, unsigned_abs}
use Rattle.std.specs.Prelude.{FitsSigned}
use Rattle.std.specs.Int.{w64}
use Rattle.std.proofs.lemmas.Int.{to_z-of_z}
use Rattle.geo_guess.proofs.LowTriples.{cut_within}
use Rattle.geo_guess.proofs.samples.low_cut.Goals as goal

pub cut-requires : goal.cut-requires
cut-requires c =
    let fits : FitsSigned w64 c.args.by = search rules in
    rw (to_z-of_z w64 c.args.by fits) (cut_within c.args.t.now (unsigned_abs c.args.by) c.requires.low c.requires.small)
