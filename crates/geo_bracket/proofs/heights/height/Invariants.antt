use Rattle.std.proofs.Common.{◌≡◌, ℕ, ◌+◌, drop}
use Rattle.geo_height.specs.Bounds.{magnitude_of}
use Rattle.geo_height.specs.Capped.{within_limit}
use Rattle.geo_bracket.specs.Expressions.{expression_height}
use Rattle.geo_bracket.proofs.heights.height.Given as goal

abbrev pub invariant-loop-term : goal.invariant-loop-term
invariant-loop-term l =
    (s : ℕ) × (l.sum ≡ within_limit s) × (s + expression_height l.sketch.elements (drop l.term-index l.terms) (magnitude_of l.magnitudes) ≡ expression_height l.sketch.elements l.terms (magnitude_of l.magnitudes))
