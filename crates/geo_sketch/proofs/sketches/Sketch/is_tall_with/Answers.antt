use Rattle.std.proofs.Common.{sym, subst, ℕ, ◌≤◌, List}
use Rattle.geo_sketch.specs.declared.elements.Element.{Element}
use Rattle.geo_sketch.specs.PlainHeights.{plain_height_of, threes}
use Rattle.geo_sketch.specs.declared.limits.TheConstants.{HEIGHT_LIMIT}
use Rattle.geo_sketch.specs.Constructions.{IsConstruction}
use Rattle.geo_sketch.proofs.SketchLaws.{construction}
use Rattle.geo_sketch.proofs.PlainHeightLaws.{low}
use Rattle.geo_sketch.proofs.sketches.Sketch.is_tall_with.Goals as goal

pub plain_height_of_new-requires-clause-construction : goal.plain_height_of_new-requires-clause-construction
plain_height_of_new-requires-clause-construction c = subst (λ (es : List Element). IsConstruction es) (sym c.deref.ensures.value) (construction _ _ _ c.self.invariant)

pub plain_height_of_new-requires-clause-low : goal.plain_height_of_new-requires-clause-low
plain_height_of_new-requires-clause-low c = subst (λ (es : List Element). (n : ℕ) → plain_height_of es n threes ≤ HEIGHT_LIMIT) (sym c.deref.ensures.value) (low _ _ _ c.self.invariant)
