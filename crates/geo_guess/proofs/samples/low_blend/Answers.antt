use Rattle.std.proofs.Common.{rules, unsigned_abs}
use Rattle.std.specs.Prelude.{FitsSigned}
use Rattle.std.specs.Int.{w64}
use Rattle.std.proofs.lemmas.Int.{to_z-of_z}
use Rattle.geo_guess.proofs.LowTriples.{blend_within}
use Rattle.geo_guess.proofs.samples.low_blend.Goals as goal

pub blend-requires : goal.blend-requires
blend-requires c =
    let fits : FitsSigned w64 c.args.by = search rules in
    rw (to_z-of_z w64 c.args.by fits) (blend_within c.args.s.now c.args.t.now (unsigned_abs c.args.by) c.requires.first c.requires.second c.requires.small)
