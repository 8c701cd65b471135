-- Lists that are made of the elements of a sketch, one after another.
use Rattle.std.proofs.Common.{◌≡◌, ◌∙◌, sym, ap, refl, ℕ, ℤ, ◌+◌, ◌<◌, ◌++◌, Option, None, Some, List, [], ◌∷◌, length, get_or, take, map, arith}
use Rattle.std.specs.Prelude.{Bool, true, false, filter, if◌then◌else◌, slice_get}
use Rattle.std.specs.List.{cons_option, filter_map}
use Rattle.std.specs.Option.{option_to_list}
use Rattle.std.proofs.lemmas.List.{append-nil, map-append, take_more}
use Rattle.std.proofs.lemmas.List.Elements.{filter_map-append, filter_more}
use Rattle.std.proofs.lemmas.Option.{get_or_from_slice_get}
use Rattle.geo_sketch.specs.declared.elements.Element.{Element}
use Rattle.geo_sketch.specs.Needs.{entry_of}
use Rattle.geo_sketch.specs.Sketches.{Drawing, IsDrawn}
use Rattle.geo_sketch.specs.declared.limits.TheConstants.{NUMBER_LIMIT}
use Rattle.geo_sketch.proofs.TableLaws.{number_at}

-- ---- what a partial function gives of one more item
one_of : {Y : Type 0} (o : Option Y) → cons_option o [] ≡ option_to_list o
one_of None = refl
one_of (Some y) = refl

pub gives_more : {X Y : Type 0} (h : X → Option Y) (xs : List X) (i : ℕ) (x : X) → i < length xs → x ≡ get_or xs i x → filter_map h (take (i + 1) xs) ≡ filter_map h (take i xs) ++ option_to_list (h x)
gives_more h xs i x within same =
    let more : take (i + 1) xs ≡ take i xs ++ x ∷ [] = take_more xs i x within ∙ ap (λ y. take i xs ++ y ∷ []) (sym same) in
    ap (filter_map h) more ∙ filter_map-append h (take i xs) (x ∷ []) ∙ ap (λ ys. filter_map h (take i xs) ++ ys) (one_of (h x))

-- ---- the entry of one more element, where it passes a test
entry_if : (b : Bool) (e : Element) → map entry_of (if b then e ∷ [] else []) ≡ (if b then entry_of e ∷ [] else [])
entry_if true e = refl
entry_if false e = refl

pub entries_more : (test : Element → Bool) (es : List Element) (i : ℕ) (x : Element) → i < length es → x ≡ get_or es i x → map entry_of (filter test (take (i + 1) es)) ≡ map entry_of (filter test (take i es)) ++ (if test x then entry_of x ∷ [] else [])
entries_more test es i x within same =
    ap (map entry_of) (filter_more test es i x within)
    ∙ map-append entry_of (filter test (take i es)) (if test (get_or es i x) then get_or es i x ∷ [] else [])
    ∙ ap (λ ys. map entry_of (filter test (take i es)) ++ ys) (entry_if (test (get_or es i x)) (get_or es i x) ∙ ap (λ (y : Element). if test y then entry_of y ∷ [] else []) (sym same))

-- ---- one more value
pub value_more : (xs ys : List (ℕ × ℤ)) (k : ℕ) (x : ℕ × ℤ) → k < length xs → slice_get xs k ≡ Some x → ys ≡ take k xs → ys ++ x ∷ [] ≡ take (k + 1) xs
value_more xs ys k x within found e = ap (λ (zs : List (ℕ × ℤ)). zs ++ x ∷ []) e ∙ ap (λ (y : ℕ × ℤ). take k xs ++ y ∷ []) (sym (get_or_from_slice_get xs k x x found)) ∙ sym (take_more xs k x within)

-- ---- numbers are below the limit
pub number_low : (drawing : Drawing) (i : ℕ) (x : Element) → IsDrawn drawing → i < length drawing.elements → x ≡ get_or drawing.elements i x → x.number < NUMBER_LIMIT
number_low drawing i x drawn within same =
    let there = number_at 0 drawing.elements i x drawn.rising within in
    let given : (get_or drawing.elements i x).number < length drawing.settings = drawn.given _ _ there.0 in
    omega (arith, given, drawn.numbers_room, ap (λ (y : Element). y.number) same)
