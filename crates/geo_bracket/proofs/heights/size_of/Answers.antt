use Rattle.std.proofs.Common.{◌≡◌, ◌∙◌, ap, sym, max, unsigned_abs, Some, arith}
use Rattle.std.proofs.lemmas.Int.{to_z-of_z}
use Rattle.geo_height.proofs.CappedLaws.{near}
use Rattle.geo_bracket.proofs.heights.size_of.Goals as goal

pub returns : goal.returns
returns c =
    let value = simp (to_z-of_z, c.ranges.number) at c.unsigned_abs.ensures.value in
    let same : max 1 (unsigned_abs c.args.number) ≡ c.from.result = omega arith in
    sym (near (max 1 (unsigned_abs c.args.number)) (omega arith) ∙ ap Some same)
