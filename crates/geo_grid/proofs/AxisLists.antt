-- The axes of the first so many elements, and the numbers of elements in a sketch.
use Rattle.std.proofs.Common.{◌≡◌, ◌∙◌, sym, ap, refl, ℕ, ◌+◌, ◌<◌, Some, List, [], ◌∷◌, ◌++◌, length, get_or, take, append_assoc, arith}
use Rattle.std.specs.Prelude.{nat_lt}
use Rattle.std.proofs.lemmas.Bool.{cond_both}
use Rattle.std.proofs.lemmas.List.{append-nil, take_more}
use Rattle.geo_sketch.specs.declared.elements.Def.TheVariants.{Free}
use Rattle.geo_sketch.specs.declared.elements.Element.{Element}
use Rattle.geo_sketch.specs.declared.statements.Statement.{Statement}
use Rattle.geo_sketch.specs.Assignments.{first_parameter, second_parameter, own_parameters}
use Rattle.geo_sketch.specs.Sketches.{Drawing, IsDrawn}
use Rattle.geo_sketch.specs.declared.limits.TheConstants.{NUMBER_LIMIT}
use Rattle.geo_sketch.specs.Lookups.{numbered}
use Rattle.geo_sketch.proofs.TableLaws.{number_at}
use Rattle.geo_sketch.proofs.SketchLaws.{constructed}
use Rattle.geo_degree.specs.Blocks.{blocks_among, own_blocks}
use Rattle.geo_degree.specs.Degrees.{statement_degree}
use Rattle.geo_degree.proofs.PairLaws.{same_statement_degree}
use Rattle.geo_degree.specs.Grids.{axes_among, axis, parameters_of}

axes_among-append : (degree : ℕ → ℕ) (ps qs : List ℕ) → axes_among degree (ps ++ qs) ≡ axes_among degree ps ++ axes_among degree qs
axes_among-append degree [] qs = refl
axes_among-append degree (p ∷ ps) qs =
    let rest = axes_among-append degree ps qs in
    cond_both (nat_lt 0 (degree p)) (axis p (degree p) ∷ axes_among degree ps) (axes_among degree ps) (λ axes. axes_among degree (p ∷ ps ++ qs) ≡ axes ++ axes_among degree qs)
    (λ t. rw t (ap (λ axes. axis p (degree p) ∷ axes) rest))
    (λ t. rw t rest)

parameters_of-append : (es fs : List Element) → parameters_of (es ++ fs) ≡ parameters_of es ++ parameters_of fs
parameters_of-append [] fs = refl
parameters_of-append (e ∷ es) fs = ap (λ ps. own_parameters e.number e.def ++ ps) (parameters_of-append es fs) ∙ sym (append_assoc (own_parameters e.number e.def) (parameters_of es) (parameters_of fs))

-- one more element
pub axes_more : (degree : ℕ → ℕ) (es : List Element) (i : ℕ) (x : Element) → i < length es → x ≡ get_or es i x → axes_among degree (parameters_of (take (i + 1) es)) ≡ axes_among degree (parameters_of (take i es)) ++ axes_among degree (own_parameters x.number x.def)
axes_more degree es i x within same =
    let more : take (i + 1) es ≡ take i es ++ x ∷ [] = take_more es i x within ∙ ap (λ (y : Element). take i es ++ y ∷ []) (sym same) in
    let own : parameters_of (x ∷ []) ≡ own_parameters x.number x.def = append-nil (own_parameters x.number x.def) in
    ap (λ xs. axes_among degree (parameters_of xs)) more
    ∙ ap (axes_among degree) (parameters_of-append (take i es) (x ∷ []) ∙ ap (λ ps. parameters_of (take i es) ++ ps) own)
    ∙ axes_among-append degree (parameters_of (take i es)) (own_parameters x.number x.def)

blocks_among-append : (degree : ℕ → ℕ) (es fs : List Element) → blocks_among degree (es ++ fs) ≡ blocks_among degree es ++ blocks_among degree fs
blocks_among-append degree [] fs = refl
blocks_among-append degree (e ∷ es) fs = ap (λ bs. own_blocks degree e.number e.def ++ bs) (blocks_among-append degree es fs) ∙ sym (append_assoc (own_blocks degree e.number e.def) (blocks_among degree es) (blocks_among degree fs))

pub blocks_more : (degree : ℕ → ℕ) (es : List Element) (i : ℕ) (x : Element) → i < length es → x ≡ get_or es i x → blocks_among degree (take (i + 1) es) ≡ blocks_among degree (take i es) ++ own_blocks degree x.number x.def
blocks_more degree es i x within same =
    let more : take (i + 1) es ≡ take i es ++ x ∷ [] = take_more es i x within ∙ ap (λ (y : Element). take i es ++ y ∷ []) (sym same) in
    ap (blocks_among degree) more ∙ blocks_among-append degree (take i es) (x ∷ []) ∙ ap (λ bs. blocks_among degree (take i es) ++ bs) (append-nil (own_blocks degree x.number x.def))

-- numbers are below the limit
pub number_low : (drawing : Drawing) (i : ℕ) (x : Element) → IsDrawn drawing → i < length drawing.elements → x ≡ get_or drawing.elements i x → x.number < NUMBER_LIMIT
number_low drawing i x drawn within same =
    let there = number_at 0 drawing.elements i x drawn.rising within in
    let given : (get_or drawing.elements i x).number < length drawing.settings = drawn.given _ _ there.0 in
    omega (arith, given, drawn.numbers_room, ap (λ (y : Element). y.number) same)

-- the two parameters of a free element have one degree
pub same_degrees : (drawing : Drawing) → IsDrawn drawing → (i : ℕ) (x : Element) → i < length drawing.elements → x ≡ get_or drawing.elements i x → x.def ≡ Free → (s : Statement) → statement_degree drawing.elements s (first_parameter x.number) ≡ statement_degree drawing.elements s (second_parameter x.number)
same_degrees drawing drawn i x within same free s =
    let there = (number_at 0 drawing.elements i x drawn.rising within).0 in
    let found : numbered drawing.elements x.number ≡ Some x = rw (sym same) at there in
    same_statement_degree drawing.elements (constructed drawing drawn) x.number x found free s
