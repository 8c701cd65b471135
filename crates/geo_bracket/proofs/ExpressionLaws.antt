-- An expression asks what a grid can answer, and it is 0 where it is 0 at all values of its axes.
-- lemmas for other crates
use Rattle.std.proofs.Common.{◌≡◌, ◌∙◌, sym, ap, ap₂, subst, refl, ℕ, zero, suc, ◌+◌, ◌*◌, ◌/◌, ◌<◌, ◌≤◌, max, ⊎_elim, inl, inr, ◌⊎◌, List, [], ◌∷◌, length, get_or, set, map, All, AllPairs, Contains, ℤ, pos, ◌+ℤ◌, ◌*ℤ◌, unsigned_abs, if◌then◌else◌, ◌^◌, arith}
use Rattle.std.specs.List.{AllZip}
use Rattle.std.specs.Prelude.{◌==◌}
use Rattle.std.proofs.lemmas.Bool.{cond_both}
use Rattle.std.proofs.lemmas.List.{get_or_default, length-map}
use Rattle.std.proofs.lemmas.List.Elements.{All-weaker}
use Rattle.geo_law.specs.Coefficients.{value_at}
use Rattle.geo_law.specs.Tables.{value_of_table, IsTriangle}
use Rattle.geo_sketch.specs.declared.elements.Element.{Element}
use Rattle.geo_sketch.specs.Assignments.{assignment_of}
use Rattle.geo_sketch.specs.Constructions.{IsConstruction}
use Rattle.geo_sketch.specs.PlainHeights.{threes}
use Rattle.geo_sketch.specs.Sketches.{Drawing, IsDrawn}
use Rattle.geo_sketch.specs.declared.limits.TheConstants.{NUMBER_LIMIT}
use Rattle.geo_sketch.specs.Statements.{parts_at}
use Rattle.geo_sketch.proofs.SketchLaws.{constructed}
use Rattle.geo_sketch.proofs.TableLaws.{number_at}
use Rattle.geo_height.proofs.HeightLaws.{statement_height_grows}
use Rattle.geo_degree.specs.declared.grids.Axis.{Axis}
use Rattle.geo_degree.specs.Degrees.{statement_degree}
use Rattle.geo_degree.specs.Grids.{at_axes, axes_of, axis, parameters_of, values_on}
use Rattle.geo_degree.specs.Questions.{IsForm, IsZeroEverywhere, pairs, part}
use Rattle.geo_degree.specs.Verdicts.{ArePaired, IsAmong, coefficients_over, named, table_over}
use Rattle.geo_degree.proofs.AgreementLaws.{parts_agree}
use Rattle.geo_degree.proofs.AxisLaws.{axes_by_degree, is_axis, statement_parameter}
use Rattle.geo_degree.proofs.FormLaws.{statement_form}
use Rattle.geo_degree.proofs.OverLaws.{agrees_over, at_axes_related, at_own_axes, bounded_over, low_over, pairs_agree_over, short_over}
use Rattle.geo_degree.proofs.PairLaws.{same_statement_degree}
use Rattle.geo_bracket.specs.declared.expressions.Bracket.{Bracket}
use Rattle.geo_bracket.specs.Expressions.{IsPosedExpression, IsZeroExpression, Terms, bracket_degree, bracket_height, bracket_value, expression_degree, expression_height, expression_value, statement_of}
use Rattle.geo_bracket.specs.Questions.{expression_axes, expression_blocks, expression_question, expression_table_over, list_over, value_over}
use Rattle.geo_bracket.specs.Terms.{Product, degree_of_product, degree_of_sum, product_of, sum_of}
use Rattle.geo_bracket.proofs.AxesInOrder.{all_rise, is_among}
use Rattle.geo_bracket.proofs.BlocksInOrder.{Match, blocks_match, match_degrees, pair_parameters}
use Rattle.geo_bracket.proofs.SumLaws.{sum_bounded, sum_grows, sum_low, sum_short, sum_table, sum_value}

-- ---- a degree above 0 is that of a bracket
either : {Q : Type 0} (a b : ℕ) → (0 < a → Q) → (0 < b → Q) → 0 < a + b → Q
either zero b f g h = g (omega arith)
either (suc a) b f g h = f (omega arith)

module _ {Q : Type 0} (degree : Bracket ℕ → ℕ) (found : (b : Bracket ℕ) → 0 < degree b → Q) where
  of_product : (bs : List (Bracket ℕ)) → 0 < degree_of_product degree bs → Q
  of_product [] h = absurd (omega arith)
  of_product (b ∷ bs) h = either (degree b) (degree_of_product degree bs) (found b) (of_product bs) h

  of_sum : (ts : Terms) → 0 < degree_of_sum degree ts → Q
  of_sum [] h = absurd (omega arith)
  of_sum (t ∷ ts) h = either (degree_of_product degree t.brackets) (degree_of_sum degree ts) (of_product t.brackets) (of_sum ts) (omega (arith, h))

at_most_three : (axes : List Axis) (p : ℕ) → at_axes 0 axes (map (λ (a : Axis). 3) axes) p ≤ 3
at_most_three [] p = omega arith
at_most_three (a ∷ axes) p =
    let low : 3 ≤ 3 = omega arith in
    cond_both (a.param == p) 3 (at_axes 0 axes (map (λ (b : Axis). 3) axes) p) (λ (m : ℕ). m ≤ 3) (λ t. low) (λ t. at_most_three axes p)

-- the assignment of the values that are named is that of the axes
at_named_axes : (axes : List Axis) (xs : List ℤ) (p : ℕ) → assignment_of (named axes xs) p ≡ at_axes (pos 0) axes xs p
at_named_axes [] xs p = refl
at_named_axes (a ∷ axes) [] p = refl
at_named_axes (a ∷ axes) (x ∷ xs) p = ap (λ y. if a.param == p then x else y) (at_named_axes axes xs p)

pub named_axes : (axes : List Axis) (xs : List ℤ) → assignment_of (named axes xs) ≡ at_axes (pos 0) axes xs
named_axes axes xs i p = at_named_axes axes xs p i

module _ (es : List Element) (c : IsConstruction es) where
  pub expression_grows : (ts : Terms) (m n : ℕ → ℕ) → ((p : ℕ) → m p ≤ n p) → expression_height es ts m ≤ expression_height es ts n
  expression_grows ts m n h = sum_grows (bracket_height es m) (bracket_height es n) (λ b. statement_height_grows es c m n h (statement_of b)) ts

  -- ---- by the parameters in which it has a degree
  module _ (v w : ℕ → ℤ) where
    bracket_agrees : (b : Bracket ℕ) → ((p : ℕ) → 0 < bracket_degree es p b → v p ≡ w p) → bracket_value es v b ≡ bracket_value es w b
    bracket_agrees b agree = ap (λ zs. get_or zs 0 (pos 0)) (parts_agree es c v w (statement_of b) agree)

    product_agrees : (bs : List (Bracket ℕ)) → ((p : ℕ) → 0 < degree_of_product (bracket_degree es p) bs → v p ≡ w p) → product_of (bracket_value es v) bs ≡ product_of (bracket_value es w) bs
    product_agrees [] agree = refl
    product_agrees (b ∷ bs) agree = ap₂ (λ x y. x *ℤ y) (bracket_agrees b (λ p h. agree p (omega (arith, h)))) (product_agrees bs (λ p h. agree p (omega (arith, h))))

    pub value_agrees : (ts : Terms) → ((p : ℕ) → 0 < expression_degree es ts p → v p ≡ w p) → expression_value es ts v ≡ expression_value es ts w
    value_agrees [] agree = refl
    value_agrees (t ∷ ts) agree = ap₂ (λ x y. t.number *ℤ x +ℤ y) (product_agrees t.brackets (λ p h. agree p (omega (arith, h)))) (value_agrees ts (λ p h. agree p (omega (arith, h))))

  all_among : (ts : Terms) (p : ℕ) → 0 < expression_degree es ts p → IsAmong (expression_axes es ts) p
  all_among ts p h = is_among (expression_degree es ts) (parameters_of es) p (of_sum (bracket_degree es p) (λ b. statement_parameter es c (statement_of b) p) ts h) h

  pub value_by_axes : (ts : Terms) (v : ℕ → ℤ) → expression_value es ts v ≡ value_over es ts (expression_axes es ts) (values_on (expression_axes es ts) v)
  value_by_axes ts v =
      let axes = expression_axes es ts in
      value_agrees v (at_axes (pos 0) axes (values_on axes v)) ts (λ p h. sym (at_own_axes axes v p (all_among ts p h)))

  -- ---- at every assignment
  pub zero_where_holds : (ts : Terms) → IsZeroExpression es ts → IsZeroEverywhere (expression_question es ts)
  zero_where_holds ts holds xs l = (sym (ap (expression_value es ts) (named_axes (expression_axes es ts) xs)) ∙ holds (named (expression_axes es ts) xs), tt)

  pub holds_where_zero : (ts : Terms) → IsZeroEverywhere (expression_question es ts) → IsZeroExpression es ts
  holds_where_zero ts clear entries =
      let v = assignment_of entries in
      value_by_axes ts v ∙ (clear (values_on (expression_axes es ts) v) (length-map (expression_axes es ts) (λ (a : Axis). v a.param))).0

-- ---- what a grid can answer
module _ (drawing : Drawing) (drawn : IsDrawn drawing) (ts : Terms) where
  abbrev es : List Element
  es = drawing.elements

  abbrev axes : List Axis
  axes = expression_axes drawing.elements ts

  c : IsConstruction es
  c = constructed drawing drawn

  pub axes_rise : AllPairs (λ (a b : Axis). a.param < b.param) axes
  axes_rise = all_rise (expression_degree es ts) es drawn.rising

  by_degree : All (λ (a : Axis). (a.degree ≡ expression_degree es ts a.param) × (0 < a.degree)) axes
  by_degree = axes_by_degree (expression_degree es ts) (parameters_of es)

  low_parameter : (p : ℕ) → 0 < expression_degree es ts p → p < 2 * NUMBER_LIMIT
  low_parameter p h =
      of_sum (bracket_degree es p)
      (λ b g.
      let at = is_axis es c (statement_of b) p g in
      let d = axis p (bracket_degree es p b) in
      let low : (get_or (axes_of es (statement_of b)) at.0 d).param < 2 * NUMBER_LIMIT = ((statement_form drawing drawn (statement_of b)).parameters at.0 d at.1).0 in
      let same : (get_or (axes_of es (statement_of b)) at.0 d).param ≡ p = ap (λ (a : Axis). a.param) at.2 in
      omega (arith, low, same)) ts h

  matched : Match (expression_blocks es ts) axes
  matched =
      blocks_match (expression_degree es ts) es
      (λ i x l free.
      let e = get_or es i x in
      ap (λ (degree : Bracket ℕ → ℕ). degree_of_sum degree ts) (λ j b. same_statement_degree es c e.number e (number_at 0 es i x drawn.rising l).0 free (statement_of b) j))

  paired : (p : ℕ × ℕ) → Contains (pairs (expression_question es ts)) p → ArePaired axes p
  paired p h =
      let at = pair_parameters (expression_blocks es ts) axes 0 p (axis 0 0) matched h in
      let first : p.0 ≡ at.0 = omega (arith, at.1) in
      let second : p.1 ≡ suc at.0 = omega (arith, at.2) in
      (omega (arith, first, at.3), omega (arith, second, at.3), (at.4.0, ap (λ n. (get_or axes n (axis 0 0)).param) first ∙ at.4.1, ap (λ n. (get_or axes n (axis 0 0)).param) second ∙ at.4.2))

  agrees : (xs : List ℤ) (k place : ℕ) (x : ℤ) → length xs ≡ length axes → place < length axes → part (expression_question es ts) k (set xs place x) ≡ value_at (get_or (list_over es ts axes xs place ∷ []) k []) x
  agrees xs zero place x l m =
      sum_value (bracket_value es (at_axes (pos 0) axes (set xs place x))) (λ b. coefficients_over es (statement_of b) axes xs 0 place) x
      (λ b. agrees_over es c (statement_of b) axes axes_rise xs 0 place x l m) ts
  agrees xs (suc k) place x l m = refl

  short : (xs : List ℤ) (k place : ℕ) (a : Axis) → length xs ≡ length axes → place < length axes → length (get_or (list_over es ts axes xs place ∷ []) k []) ≤ (get_or axes place a).degree + 1
  short xs zero place a l m =
      let same : get_or axes place a ≡ get_or axes place (axis 0 0) = get_or_default axes place a (axis 0 0) m in
      let p = (get_or axes place (axis 0 0)).param in
      rw same (omega (arith, (by_degree place (axis 0 0) m).0, sum_short (λ b. coefficients_over es (statement_of b) axes xs 0 place) (bracket_degree es p) (λ b. short_over es c (statement_of b) axes xs 0 place) ts))
  short xs (suc k) place a l m = omega arith

  pairs_agree : (xs : List ℤ) (k : ℕ) (p : ℕ × ℕ) (x y : ℤ) → length xs ≡ length axes → Contains (pairs (expression_question es ts)) p → part (expression_question es ts) k (set (set xs p.0 x) p.1 y) ≡ value_of_table (get_or (expression_table_over es ts axes xs p ∷ []) k []) x y
  pairs_agree xs zero p x y l h =
      sum_table (bracket_value es (at_axes (pos 0) axes (set (set xs p.0 x) p.1 y))) (λ b. table_over es (statement_of b) axes xs 0 p) x y
      (λ b. pairs_agree_over es c (statement_of b) axes axes_rise xs 0 p x y l (paired p h)) ts
  pairs_agree xs (suc k) p x y l h = refl

  low : (xs : List ℤ) (k : ℕ) (p : ℕ × ℕ) (a : Axis) → length xs ≡ length axes → Contains (pairs (expression_question es ts)) p → IsTriangle (suc (get_or axes p.0 a).degree) (get_or (expression_table_over es ts axes xs p ∷ []) k [])
  low xs zero p a l h =
      let at = paired p h in
      let q = (get_or axes p.0 (axis 0 0)).param in
      let degree : expression_degree es ts q ≡ (get_or axes p.0 a).degree = sym (by_degree p.0 (axis 0 0) at.0).0 ∙ ap (λ (b : Axis). b.degree) (get_or_default axes p.0 (axis 0 0) a at.0) in
      subst (λ n. IsTriangle (suc n) (expression_table_over es ts axes xs p)) degree
      (sum_low (λ b. table_over es (statement_of b) axes xs 0 p) (bracket_degree es q) (λ b. low_over es c (statement_of b) axes xs 0 p at) ts)
  low xs (suc k) p a l h = tt

  bounded : (xs : List ℤ) (ms : List ℕ) (k : ℕ) → AllZip (λ x m. unsigned_abs x ≤ m) xs ms → unsigned_abs (part (expression_question es ts) k xs) ≤ expression_height es ts (at_axes 0 axes ms)
  bounded xs ms zero within =
      sum_bounded (bracket_value es (at_axes (pos 0) axes xs)) (bracket_height es (at_axes 0 axes ms))
      (λ b. bounded_over es c (statement_of b) axes xs ms 0 within) ts
  bounded xs ms (suc k) within = omega arith

  pub expression_form : expression_height es ts threes ≤ 2 ^ 126 → IsForm (expression_question es ts)
  expression_form modest = record {
    parameters = All-weaker (λ (a : Axis). (a.degree ≡ expression_degree es ts a.param) × (0 < a.degree)) (λ (a : Axis). (a.param < 2 * NUMBER_LIMIT) × (0 < a.degree))
        (λ a h. (low_parameter a.param (omega (arith, h.0, h.1)), h.1)) axes by_degree;
    agrees = agrees;
    short = short;
    covered = match_degrees (expression_blocks es ts) axes matched;
    pairs_agree = pairs_agree;
    low = low;
    bounded = λ xs ms k l within. bounded xs ms k within;
    modest = omega (arith, expression_grows es c ts (at_axes 0 axes (map (λ (a : Axis). 3) axes)) threes (at_most_three axes), modest);
    rises = λ ms ns l h. expression_grows es c ts (at_axes 0 axes ms) (at_axes 0 axes ns) (at_axes_related (λ m n. m ≤ n) 0 0 (omega arith) axes ms ns h);
  }
