use Rattle.std.proofs.Common.{◌≡◌, ◌≤◌, ◌*◌, ℕ, drop}
use Rattle.geo_height.specs.Bounds.{magnitude_of}
use Rattle.geo_height.specs.Capped.{within_limit}
use Rattle.geo_bracket.specs.Expressions.{bracket_height}
use Rattle.geo_bracket.specs.Terms.{height_of_product, height_of_term}
use Rattle.geo_bracket.proofs.heights.height_of_term.Given as goal

abbrev pub invariant-loop-bracket : goal.invariant-loop-bracket
invariant-loop-bracket l =
    (p : ℕ) × (l.product ≡ within_limit p) × (1 ≤ p) × (p * height_of_product (bracket_height l.sketch.elements (magnitude_of l.magnitudes)) (drop l.bracket-index l.term.brackets) ≡ height_of_term (bracket_height l.sketch.elements (magnitude_of l.magnitudes)) l.term)
