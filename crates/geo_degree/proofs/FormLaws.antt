-- A statement that is posed in a sketch asks what a grid can answer.
-- lemmas for other crates
use Rattle.std.proofs.Common.{◌≡◌, ◌∙◌, sym, ap, subst, refl, ℕ, suc, ◌+◌, ◌*◌, ◌/◌, ◌<◌, ◌≤◌, Option, None, Some, List, [], ◌∷◌, length, get_or, map, All, AllPairs, Contains, ℤ, arith}
use Rattle.std.specs.Prelude.{◌==◌}
use Rattle.std.proofs.lemmas.Bool.{cond_both}
use Rattle.std.proofs.lemmas.List.{get_or_default}
use Rattle.std.proofs.lemmas.List.Elements.{All-weaker}
use Rattle.geo_law.specs.Tables.{IsTriangle}
use Rattle.geo_sketch.specs.declared.elements.Element.{Element}
use Rattle.geo_sketch.specs.declared.statements.Statement.{Statement}
use Rattle.geo_sketch.specs.declared.statements.Statement.TheVariants as statement
use Rattle.geo_sketch.specs.Heights.{statement_height}
use Rattle.geo_sketch.specs.PlainHeights.{threes}
use Rattle.geo_sketch.specs.Sketches.{other, Drawing, IsDrawn, IsPosed}
use Rattle.geo_sketch.specs.declared.limits.TheConstants.{NUMBER_LIMIT}
use Rattle.geo_sketch.specs.Lookups.{numbered, IsLive}
use Rattle.geo_sketch.specs.Constructions.{IsConstruction}
use Rattle.geo_sketch.proofs.SketchLaws.{live, constructed}
use Rattle.geo_sketch.proofs.TableLaws.{number_at}
use Rattle.geo_sketch.specs.Needs.{AtStated}
use Rattle.geo_height.proofs.HeightLaws.{statement_height_grows, statement_low}
use Rattle.geo_degree.specs.declared.grids.Axis.{Axis}
use Rattle.geo_degree.specs.Degrees.{statement_degree}
use Rattle.geo_degree.specs.Blocks.{blocks_of}
use Rattle.geo_degree.specs.Grids.{at_axes, axis, axes_of, parameters_of}
use Rattle.geo_degree.specs.Questions.{IsForm, pairs}
use Rattle.geo_degree.specs.Verdicts.{question_of, ArePaired, statement_coefficients, statement_table}
use Rattle.geo_degree.proofs.AxisLaws.{axes_by_degree, statement_axes_rise}
use Rattle.geo_degree.proofs.DegreeLaws.{degree_foreign}
use Rattle.geo_degree.proofs.OverLaws.{agrees_over, at_axes_related, bounded_over, low_over, pairs_agree_over, short_over}
use Rattle.geo_degree.proofs.PairLaws.{same_statement_degree}
use Rattle.geo_degree.proofs.StatementBlocks.{Match, blocks_match, match_degrees, pair_parameters}

-- ---- a posed statement
pub posed_live : (es : List Element) (s : Statement) → IsPosed es s → AtStated s (IsLive es)
posed_live es (statement.Null n) h = live es n h.0 h.1
posed_live es (statement.Same n m) (less, (kind, (p, q))) = (live es n kind p, live es m kind q)
posed_live es (statement.On n m) (less, (kind, (p, q))) = (live es n kind p, live es m (other kind) q)
posed_live es (statement.Triple n m k) (less, more, (kind, (p, q, r))) = (live es n kind p, live es m kind q, live es k kind r)

-- a parameter of what is no element has degree 0
statement_foreign : (es : List Element) → IsConstruction es → (p : ℕ) → numbered es (p / 2) ≡ None → (s : Statement) → statement_degree es s p ≡ 0
statement_foreign es c p none (statement.Null n) = degree_foreign es c p n none
statement_foreign es c p none (statement.Same n m) = omega (arith, degree_foreign es c p n none, degree_foreign es c p m none)
statement_foreign es c p none (statement.On n m) = omega (arith, degree_foreign es c p n none, degree_foreign es c p m none)
statement_foreign es c p none (statement.Triple n m k) = omega (arith, degree_foreign es c p n none, degree_foreign es c p m none, degree_foreign es c p k none)

at_most_three : (axes : List Axis) (p : ℕ) → at_axes 0 axes (map (λ (a : Axis). 3) axes) p ≤ 3
at_most_three [] p = omega arith
at_most_three (a ∷ axes) p =
    let low : 3 ≤ 3 = omega arith in
    cond_both (a.param == p) 3 (at_axes 0 axes (map (λ (b : Axis). 3) axes) p) (λ (m : ℕ). m ≤ 3) (λ t. low) (λ t. at_most_three axes p)

module _ (drawing : Drawing) (drawn : IsDrawn drawing) (s : Statement) where
  abbrev axes : List Axis
  axes = axes_of drawing.elements s

  low_parameter : (p : ℕ) → 0 < statement_degree drawing.elements s p → p < 2 * NUMBER_LIMIT
  low_parameter p h = by_found (numbered drawing.elements (p / 2)) refl
    where
      by_found : (o : Option Element) → numbered drawing.elements (p / 2) ≡ o → p < 2 * NUMBER_LIMIT
      by_found None none = absurd (omega (arith, h, statement_foreign drawing.elements (constructed drawing drawn) p none s))
      by_found (Some e) q = omega (arith, drawn.given (p / 2) e q, drawn.numbers_room)

  parameters : All (λ (a : Axis). (a.param < 2 * NUMBER_LIMIT) × (0 < a.degree)) axes
  parameters =
      All-weaker (λ (a : Axis). (a.degree ≡ statement_degree drawing.elements s a.param) × (0 < a.degree)) (λ (a : Axis). (a.param < 2 * NUMBER_LIMIT) × (0 < a.degree))
      (λ a h. (low_parameter a.param (omega (arith, h.0, h.1)), h.1)) axes (axes_by_degree (statement_degree drawing.elements s) (parameters_of drawing.elements))

  construction : IsConstruction drawing.elements
  construction = constructed drawing drawn

  rise : AllPairs (λ (a b : Axis). a.param < b.param) axes
  rise = statement_axes_rise drawing.elements s drawn.rising

  short : (xs : List ℤ) (k place : ℕ) (a : Axis) → length xs ≡ length axes → place < length axes → length (statement_coefficients drawing.elements s xs k place) ≤ (get_or axes place a).degree + 1
  short xs k place a l m =
      let same : get_or axes place a ≡ get_or axes place (axis 0 0) = get_or_default axes place a (axis 0 0) m in
      let degree = (axes_by_degree (statement_degree drawing.elements s) (parameters_of drawing.elements) place (axis 0 0) m).0 in
      rw same (omega (arith, degree, short_over drawing.elements construction s axes xs k place))

  matched : Match (blocks_of drawing.elements s) axes
  matched =
      blocks_match (statement_degree drawing.elements s) drawing.elements
      (λ i x l free.
      let e = get_or drawing.elements i x in
      same_statement_degree drawing.elements construction e.number e (number_at 0 drawing.elements i x drawn.rising l).0 free s)

  -- the two axes of a pair are the parameters of one element
  of_pair : (p : ℕ × ℕ) → Contains (pairs (question_of drawing.elements s)) p → ArePaired axes p
  of_pair p h =
      let at = pair_parameters (blocks_of drawing.elements s) axes 0 p (axis 0 0) matched h in
      let first : p.0 ≡ at.0 = omega (arith, at.1) in
      let second : p.1 ≡ suc at.0 = omega (arith, at.2) in
      let m = at.4.0 in
      let even : (get_or axes p.0 (axis 0 0)).param ≡ 2 * m = ap (λ n. (get_or axes n (axis 0 0)).param) first ∙ at.4.1 in
      let odd : (get_or axes p.1 (axis 0 0)).param ≡ 2 * m + 1 = ap (λ n. (get_or axes n (axis 0 0)).param) second ∙ at.4.2 in
      (omega (arith, first, at.3), omega (arith, second, at.3), (m, even, odd))

  low : (xs : List ℤ) (k : ℕ) (p : ℕ × ℕ) (a : Axis) → length xs ≡ length axes → Contains (pairs (question_of drawing.elements s)) p → IsTriangle (suc (get_or axes p.0 a).degree) (statement_table drawing.elements s xs k p)
  low xs k p a l h =
      let at = of_pair p h in
      let d = axis 0 0 in
      let own = (axes_by_degree (statement_degree drawing.elements s) (parameters_of drawing.elements) p.0 d at.0).0 in
      let degree : statement_degree drawing.elements s (get_or axes p.0 d).param ≡ (get_or axes p.0 a).degree = sym own ∙ ap (λ (b : Axis). b.degree) (get_or_default axes p.0 d a at.0) in
      subst (λ n. IsTriangle (suc n) (statement_table drawing.elements s xs k p)) degree (low_over drawing.elements construction s axes xs k p at)

  grows : (m n : ℕ → ℕ) → ((p : ℕ) → m p ≤ n p) → statement_height drawing.elements s m ≤ statement_height drawing.elements s n
  grows m n h = statement_height_grows drawing.elements construction m n h s

  pub statement_form : IsForm (question_of drawing.elements s)
  statement_form = record {
    parameters = parameters;
    agrees = agrees_over drawing.elements construction s axes rise;
    short = short;
    covered = match_degrees (blocks_of drawing.elements s) axes matched;
    pairs_agree = λ xs k p x y l h. pairs_agree_over drawing.elements construction s axes rise xs k p x y l (of_pair p h);
    low = low;
    bounded = λ xs ms k l within. bounded_over drawing.elements construction s axes xs ms k within;
    modest = omega (arith, grows (at_axes 0 axes (map (λ (a : Axis). 3) axes)) threes (at_most_three axes), statement_low drawing drawn s);
    rises = λ ms ns l h. grows (at_axes 0 axes ms) (at_axes 0 axes ns) (at_axes_related (λ m n. m ≤ n) 0 0 (omega arith) axes ms ns h);
  }
