-- Heights of brackets about live elements: each is at least 1, so that each is at most the expression's, and so are the heights of the elements.
use Rattle.std.proofs.Common.{◌≡◌, ℕ, ◌+◌, ◌*◌, ◌<◌, ◌≤◌, Option, None, Some, List, length, get_or, le_refl, le_trans, mul-le-mul, arith}
use Rattle.std.specs.Prelude.{All, nat_lt}
use Rattle.std.proofs.lemmas.Bool.{cond_both, ltb-false, ltb-true}
use Rattle.geo_triple.proofs.Sums.{a-largest}
use Rattle.geo_sketch.specs.declared.elements.Element.{Element}
use Rattle.geo_sketch.specs.Constructions.{IsConstruction}
use Rattle.geo_sketch.specs.Heights.{height_of, heights_at}
use Rattle.geo_sketch.specs.Lookups.{IsLive}
use Rattle.geo_height.specs.Capped.{within_limit}
use Rattle.geo_triple.specs.declared.limits.TheConstants.{STATEMENT_LIMIT}
use Rattle.geo_height.proofs.HeightLaws.{named_in_statement, positive}
use Rattle.geo_height.proofs.CappedLaws.{far}
use Rattle.geo_height.proofs.SumLaws.{grows, largest-determinant}
use Rattle.geo_bracket.specs.declared.expressions.Bracket.{Bracket}
use Rattle.geo_bracket.specs.Expressions.{Terms, bracket_height, expression_height, statement_of}
use Rattle.geo_bracket.specs.Terms.{AtBracket, AtEach, AtProduct}
use Rattle.geo_bracket.proofs.FactorLaws.{factor_below, product_below, term_below}

module _ (es : List Element) (c : IsConstruction es) (m : ℕ → ℕ) where
  pub bracket_positive : (b : Bracket ℕ) → AtBracket (IsLive es) b → 1 ≤ bracket_height es m b
  bracket_positive b live =
      let g = positive es c m b.first live.0 in
      omega (arith, g.a, a-largest (heights_at es b.first m), largest-determinant (heights_at es b.first m) (heights_at es b.second m) (heights_at es b.third m) (positive es c m b.second live.1) (positive es c m b.third live.2))

  pub brackets_positive : (bs : List (Bracket ℕ)) → AtProduct (IsLive es) bs → All (λ b. 1 ≤ bracket_height es m b) bs
  brackets_positive bs live k d l = bracket_positive (get_or bs k d) (live k d l)

  pub elements_low : (ts : Terms) → AtEach (IsLive es) ts → AtEach (λ n. height_of es n m ≤ expression_height es ts m) ts
  elements_low ts live i t l j d k =
      let u = get_or ts i t in
      let b = get_or u.brackets j d in
      let below = named_in_statement es c m (statement_of b) (live i t l j d k) in
      let h = bracket_height es m in
      let whole : bracket_height es m b ≤ expression_height es ts m = le_trans (factor_below h u.brackets j d (brackets_positive u.brackets (live i t l)) k) (le_trans (product_below h u) (term_below h ts i t l)) in
      (le_trans below.0 whole, le_trans below.1 whole, le_trans below.2 whole)

-- ---- what is kept of a height is the height, which is then within the limit
pub kept_height : (h x : ℕ) → Some x ≡ within_limit h → (x ≡ h) × (h ≤ STATEMENT_LIMIT)
kept_height h x = cond_both (nat_lt STATEMENT_LIMIT h) None (Some h) (λ o. Some x ≡ o → (x ≡ h) × (h ≤ STATEMENT_LIMIT)) (λ t e. cc) (λ t e. let same : x ≡ h = cc in (same, ltb-false STATEMENT_LIMIT h t))

pub past_height : (h : ℕ) → None ≡ within_limit h → STATEMENT_LIMIT < h
past_height h = cond_both (nat_lt STATEMENT_LIMIT h) None (Some h) (λ (o : Option ℕ). None ≡ o → STATEMENT_LIMIT < h) (λ t e. ltb-true STATEMENT_LIMIT h t) (λ t e. cc)

-- what is past the limit stays so, with more added and times what is at least 1
pub sum_past_left : (g h : ℕ) → None ≡ within_limit g → within_limit (g + h) ≡ None
sum_past_left g h none = far (g + h) (omega (arith, past_height g none))

pub sum_past_right : (g h : ℕ) → None ≡ within_limit h → within_limit (g + h) ≡ None
sum_past_right g h none = far (g + h) (omega (arith, past_height h none))

pub product_past_left : (g h : ℕ) → 1 ≤ h → None ≡ within_limit g → within_limit (g * h) ≡ None
product_past_left g h one none = far (g * h) (omega (arith, past_height g none, mul-le-mul (le_refl g) one))

pub product_past_right : (g h : ℕ) → 1 ≤ g → None ≡ within_limit h → within_limit (g * h) ≡ None
product_past_right g h one none = far (g * h) (omega (arith, past_height h none, grows g h one))
