-- An expression has at most as many axes as a sketch may have parameters, and one degree in both parameters of a free element.
use Rattle.std.proofs.Common.{◌≡◌, ◌∙◌, ap, sym, refl, ℕ, suc, ◌+◌, ◌<◌, ◌≤◌, Some, List, [], ◌∷◌, ◌++◌, append_assoc, length, length-append, get_or, drop, arith}
use Rattle.std.specs.Prelude.{nat_lt, sum_by}
use Rattle.std.proofs.lemmas.Bool.{cond_both}
use Rattle.std.proofs.lemmas.List.{append-nil, at_drop_all, at_drop_more}
use Rattle.std.proofs.lemmas.List.Sums.{sum_by-cons}
use Rattle.geo_sketch.specs.declared.elements.Def.{Def}
use Rattle.geo_sketch.specs.declared.elements.Def.TheVariants.{Free, Fixed, Cut, Blend, Cross}
use Rattle.geo_sketch.specs.declared.elements.Element.{Element}
use Rattle.geo_sketch.specs.Assignments.{first_parameter, second_parameter, own_parameters}
use Rattle.geo_sketch.specs.Lookups.{numbered}
use Rattle.geo_sketch.specs.Sketches.{Drawing, IsDrawn, element_parameters, parameter_count}
use Rattle.geo_sketch.specs.declared.limits.TheConstants.{NUMBER_LIMIT, PARAMETER_LIMIT}
use Rattle.geo_sketch.proofs.SketchLaws.{constructed}
use Rattle.geo_sketch.proofs.TableLaws.{number_at}
use Rattle.geo_degree.specs.declared.grids.Axis.{Axis}
use Rattle.geo_degree.specs.declared.grids.Block.{Block}
use Rattle.geo_degree.specs.Blocks.{blocks_among, own_blocks}
use Rattle.geo_degree.specs.Grids.{axes_among, axis, parameters_of}
use Rattle.geo_degree.proofs.PairLaws.{same_statement_degree}
use Rattle.geo_grid.specs.Plans.{Planned}
use Rattle.geo_bracket.specs.declared.expressions.Bracket.{Bracket}
use Rattle.geo_bracket.specs.Expressions.{Terms, expression_degree, statement_of}
use Rattle.geo_bracket.specs.Posing.{named_in, planned_expression}
use Rattle.geo_bracket.specs.Questions.{expression_axes}
use Rattle.geo_bracket.specs.Terms.{degree_of_sum}

axes_few : (degree : ℕ → ℕ) (ps : List ℕ) → length (axes_among degree ps) ≤ length ps
axes_few degree [] = omega arith
axes_few degree (p ∷ ps) =
    let rest = axes_few degree ps in
    cond_both (nat_lt 0 (degree p)) (axis p (degree p) ∷ axes_among degree ps) (axes_among degree ps) (λ (axes : List Axis). length axes ≤ suc (length ps)) (λ t. omega (arith, rest)) (λ t. omega (arith, rest))

own_count : (n : ℕ) (d : Def) → length (own_parameters n d) ≡ parameter_count d
own_count n Free = refl
own_count n (Fixed a b c) = refl
own_count n (Cut k) = refl
own_count n (Blend k m) = refl
own_count n (Cross k m) = refl

parameters_counted : (es : List Element) → length (parameters_of es) ≡ sum_by element_parameters es
parameters_counted [] = refl
parameters_counted (e ∷ es) = length-append (own_parameters e.number e.def) (parameters_of es) ∙ omega (arith, own_count e.number e.def, parameters_counted es, sum_by-cons element_parameters e es)

pub few_axes : (drawing : Drawing) (ts : Terms) → IsDrawn drawing → length (expression_axes drawing.elements ts) ≤ PARAMETER_LIMIT
few_axes drawing ts drawn = omega (arith, axes_few (expression_degree drawing.elements ts) (parameters_of drawing.elements), parameters_counted drawing.elements, drawn.parameters_room)

pub same_degrees : (drawing : Drawing) → IsDrawn drawing → (i : ℕ) (x : Element) → i < length drawing.elements → x ≡ get_or drawing.elements i x → x.def ≡ Free → (ts : Terms) → expression_degree drawing.elements ts (first_parameter x.number) ≡ expression_degree drawing.elements ts (second_parameter x.number)
same_degrees drawing drawn i x within same free ts =
    let there = (number_at 0 drawing.elements i x drawn.rising within).0 in
    let found : numbered drawing.elements x.number ≡ Some x = rw (sym same) at there in
    ap (λ (degree : Bracket ℕ → ℕ). degree_of_sum degree ts) (λ j b. same_statement_degree drawing.elements (constructed drawing drawn) x.number x found free (statement_of b) j)

-- what is made for the elements and the axes of an expression
pub planned_is : (drawing : Drawing) (ts : Terms) (p : Planned) (named : List ℕ) (axes : List Axis) → p ≡ record { drawing = drawing; named = named; axes = axes } → named ≡ named_in ts → axes ≡ expression_axes drawing.elements ts → p ≡ planned_expression drawing ts
planned_is drawing ts p named axes same names at = same ∙ (λ i. record { drawing = drawing; named = names i; axes = at i })

pub number_low : (drawing : Drawing) (i : ℕ) (x : Element) → IsDrawn drawing → i < length drawing.elements → x ≡ get_or drawing.elements i x → x.number < NUMBER_LIMIT
number_low drawing i x drawn within same =
    let there = number_at 0 drawing.elements i x drawn.rising within in
    let given : (get_or drawing.elements i x).number < length drawing.settings = drawn.given _ _ there.0 in
    omega (arith, given, drawn.numbers_room, ap (λ (y : Element). y.number) same)

-- ---- element by element, with those that are left
module _ (degree : ℕ → ℕ) where
  axes_append : (ps qs : List ℕ) → axes_among degree (ps ++ qs) ≡ axes_among degree ps ++ axes_among degree qs
  axes_append [] qs = refl
  axes_append (p ∷ ps) qs =
      let rest = axes_append ps qs in
      cond_both (nat_lt 0 (degree p)) (axis p (degree p) ∷ axes_among degree ps) (axes_among degree ps) (λ axes. axes_among degree (p ∷ ps ++ qs) ≡ axes ++ axes_among degree qs)
      (λ t. rw t (ap (λ axes. axis p (degree p) ∷ axes) rest))
      (λ t. rw t rest)

  abbrev axes_in : List Element → List Axis
  axes_in es = axes_among degree (parameters_of es)

  module _ (es : List Element) (i : ℕ) (x : Element) (within : i < length es) (same : x ≡ get_or es i x) where
    pub axes_step : (found whole : List Axis) → found ++ axes_among degree (parameters_of (drop i es)) ≡ whole → (found ++ axes_among degree (own_parameters x.number x.def)) ++ axes_among degree (parameters_of (drop (i + 1) es)) ≡ whole
    axes_step found whole done =
        let own = axes_among degree (own_parameters x.number x.def) in
        let rest = axes_in (drop (i + 1) es) in
        let here : axes_among degree (parameters_of (drop i es)) ≡ axes_among degree (own_parameters x.number x.def) ++ axes_among degree (parameters_of (drop (i + 1) es)) = at_drop_more axes_in es i x within ∙ ap (λ (e : Element). axes_in (e ∷ drop (i + 1) es)) (sym same) ∙ axes_append (own_parameters x.number x.def) (parameters_of (drop (i + 1) es)) in
        append_assoc found own rest ∙ ap (λ axes. found ++ axes) (sym here) ∙ done

    pub blocks_step : (found whole : List Block) → found ++ blocks_among degree (drop i es) ≡ whole → (found ++ own_blocks degree x.number x.def) ++ blocks_among degree (drop (i + 1) es) ≡ whole
    blocks_step found whole done =
        let own = own_blocks degree x.number x.def in
        let here : blocks_among degree (drop i es) ≡ own_blocks degree x.number x.def ++ blocks_among degree (drop (i + 1) es) = at_drop_more (blocks_among degree) es i x within ∙ ap (λ (e : Element). blocks_among degree (e ∷ drop (i + 1) es)) (sym same) in
        append_assoc found own (blocks_among degree (drop (i + 1) es)) ∙ ap (λ blocks. found ++ blocks) (sym here) ∙ done

  pub axes_end : (es : List Element) (i : ℕ) (found whole : List Axis) → length es ≤ i → found ++ axes_among degree (parameters_of (drop i es)) ≡ whole → found ≡ whole
  axes_end es i found whole past done = sym (append-nil found) ∙ ap (λ axes. found ++ axes) (sym (at_drop_all axes_in es i past)) ∙ done

  pub blocks_end : (es : List Element) (i : ℕ) (found whole : List Block) → length es ≤ i → found ++ blocks_among degree (drop i es) ≡ whole → found ≡ whole
  blocks_end es i found whole past done = sym (append-nil found) ∙ ap (λ blocks. found ++ blocks) (sym (at_drop_all (blocks_among degree) es i past)) ∙ done
