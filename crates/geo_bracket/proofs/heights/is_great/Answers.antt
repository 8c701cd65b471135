use Rattle.std.proofs.Common.{◌≡◌, ◌∙◌, ◌<◌, ◌≤◌, ap, inl, inr, refl, ℕ, Bool, true, false, Option, None, Some, arith}
use Rattle.std.specs.Prelude.{is_some, not}
use Rattle.std.proofs.lemmas.Bool.{cases_lt}
use Rattle.geo_sketch.specs.PlainHeights.{threes}
use Rattle.geo_sketch.proofs.SketchLaws.{constructed}
use Rattle.geo_height.specs.Bounds.{magnitude_of}
use Rattle.geo_height.specs.Capped.{within_limit}
use Rattle.geo_triple.specs.declared.limits.TheConstants.{STATEMENT_LIMIT}
use Rattle.geo_height.proofs.CappedLaws.{far, near}
use Rattle.geo_bracket.specs.Expressions.{expression_height}
use Rattle.geo_bracket.proofs.ThreeLaws.{expression_same}
use Rattle.geo_bracket.proofs.heights.is_great.Goals as goal

pub height-requires : goal.height-requires
height-requires c = rw c.terms.ensures.terms c.requires

by_none : (r : Bool) → false ≡ not r → r ≡ true
by_none true e = refl
by_none false e = absurd cc

by_some : (r : Bool) → true ≡ not r → ¬ (r ≡ true)
by_some true e t = absurd cc
by_some false e t = absurd cc

tells : (h : ℕ) (o : Option ℕ) (r : Bool) → o ≡ within_limit h → is_some o ≡ not r → (r ≡ true → STATEMENT_LIMIT < h) × (STATEMENT_LIMIT < h → r ≡ true)
tells h None r kept told =
    elim (cases_lt STATEMENT_LIMIT h) [
      | inl past ↦ (λ t. past, λ p. by_none r told)
      | inr low ↦ absurd (let some = near h low in cc)
    ]
tells h (Some x) r kept told =
    elim (cases_lt STATEMENT_LIMIT h) [
      | inl past ↦ absurd (let none = far h past in cc)
      | inr low ↦ (λ t. absurd (by_some r told t), λ p. absurd (omega (arith, p, low)))
    ]

pub returns : goal.returns
returns c =
    let es = c.args.sketch.now.elements in
    let ts = c.args.expression.now in
    let same = expression_same es (constructed c.args.sketch.now c.all_threes.ensures.drawn) (magnitude_of c.all_threes.result) threes c.all_threes.ensures.threes ts in
    let value = rw c.terms.ensures.terms at c.height.ensures in
    tells (expression_height es ts threes) c.height.result c.is_none.result (value ∙ ap within_limit same) c.is_none.ensures
