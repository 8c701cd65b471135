-- Values that are set one after the other, and the grids on which they are set.
use Rattle.std.proofs.Common.{◌≡◌, ◌≢◌, ◌∙◌, sym, ap, subst, refl, ℕ, zero, suc, ◌+◌, ◌*◌, ◌-◌, ◌/◌, ◌<◌, ◌≤◌, ◌==◌, Bool, true, false, List, [], ◌∷◌, ◌++◌, length, get_or, set, take, drop, replicate, ℤ, pos, unsigned_abs, le_trans, arith, length-set, drop-cons, add-one}
use Rattle.std.specs.Prelude.{◌&&◌, ◌||◌, not}
use Rattle.std.specs.List.{list_all, AllByRecursion}
use Rattle.std.proofs.lemmas.Bool.{and_parts, cond_both, eqb-true, eqb-false}
use Rattle.std.proofs.lemmas.List.{get_or-set_same, get_or-set_other, length-replicate, set-set, set-get_or}
use Rattle.std.proofs.lemmas.List.Elements.{recursion_from_All}
use Rattle.geo_sketch.specs.declared.elements.Element.{Element}
use Rattle.geo_sketch.specs.declared.elements.Def.{Def}
use Rattle.geo_sketch.specs.declared.elements.Def.TheVariants.{Free, Fixed, Cut, Blend, Cross}
use Rattle.geo_sketch.specs.declared.statements.Statement.{Statement}
use Rattle.geo_sketch.specs.Assignments.{magnitudes, own_parameters}
use Rattle.geo_sketch.specs.Heights.{statement_height}
use Rattle.geo_sketch.specs.Sketches.{Drawing, IsDrawn}
use Rattle.geo_sketch.specs.declared.limits.TheConstants.{NUMBER_LIMIT}
use Rattle.geo_sketch.proofs.SketchLaws.{constructed}
use Rattle.geo_sketch.proofs.TableLaws.{number_at}
use Rattle.geo_height.specs.Bounds.{magnitude_of}
use Rattle.geo_triple.specs.declared.limits.TheConstants.{STATEMENT_LIMIT}
use Rattle.geo_height.proofs.HeightLaws.{statement_height_grows}
use Rattle.geo_degree.specs.Grids.{parameters_of}
use Rattle.geo_degree.specs.Polynomials.{with_value}
use Rattle.geo_cert.specs.declared.degree_lists.DegreeEntry.{DegreeEntry}
use Rattle.geo_cert.specs.Grids.{Grid, one, two}
use Rattle.geo_check.specs.Degrees.{are_apart, are_right, is_among}
use Rattle.geo_check.specs.Grids.{are_for, largest, magnitudes_in, points_in}
use Rattle.geo_check.specs.Instances.{assigned, nothing_set, on_triangle}
use Rattle.geo_check.specs.Positions.{IsModest, IsModestEntry, IsPosition, IsWalkable}
use Rattle.geo_check.proofs.EnoughLaws.{enough, named_in_elements, right_apart}
use Rattle.geo_check.proofs.EvaluationLaws.{numbers_low}
use Rattle.geo_check.proofs.ZeroLaws.{parameters_on, HasEnough}

-- ---- one value
pub assigned_set : (values : List ℤ) (p : ℕ) (x : ℤ) → p < length values → assigned (set values p x) ≡ with_value (assigned values) p x
assigned_set values p x l = λ i r. there r i
  where
    there : (r : ℕ) → assigned (set values p x) r ≡ with_value (assigned values) p x r
    there r =
        cond_both (r == p) x (assigned values r) (λ z. assigned (set values p x) r ≡ z)
        (λ t. ap (assigned (set values p x)) (eqb-true r p t) ∙ get_or-set_same values p x (pos 0) l)
        (λ t. get_or-set_other values p r x (pos 0) (eqb-false r p t))

pub position_set : (gs : List Grid) (values : List ℤ) (p : ℕ) (x : ℤ) → IsPosition gs values → p < 2 * NUMBER_LIMIT → unsigned_abs x ≤ magnitude_of (magnitudes_in gs) p → IsPosition gs (set values p x)
position_set gs values p x h l m = record {
  room = length-set values p x ∙ h.room;
  within = λ r. subst (λ z. unsigned_abs z ≤ magnitude_of (magnitudes_in gs) r) (sym (ap (λ f. f r) (assigned_set values p x (omega (arith, h.room, l))))) (cond_both (r == p) x (assigned values r) (λ z. unsigned_abs z ≤ magnitude_of (magnitudes_in gs) r) (λ t. subst (λ (q : ℕ). unsigned_abs x ≤ magnitude_of (magnitudes_in gs) q) (sym (eqb-true r p t)) m) (λ t. h.within r));
}

pub value_bound : (bound : ℕ) (xs : List ℤ) (i : ℕ) (d : ℤ) → AllByRecursion (λ x. unsigned_abs x ≤ bound) xs → i < length xs → unsigned_abs (get_or xs i d) ≤ bound
value_bound bound [] i d h l = absurd (omega arith)
value_bound bound (x ∷ xs) zero d h l = h.0
value_bound bound (x ∷ xs) (suc i) d h l = value_bound bound xs i d h.1 (omega arith)

pub bound_taken : (bound : ℕ) (xs : List ℤ) (count : ℕ) → AllByRecursion (λ x. unsigned_abs x ≤ bound) xs → AllByRecursion (λ x. unsigned_abs x ≤ bound) (take count xs)
bound_taken bound [] zero h = tt
bound_taken bound [] (suc count) h = tt
bound_taken bound (x ∷ xs) zero h = tt
bound_taken bound (x ∷ xs) (suc count) h = (h.0, bound_taken bound xs count h.1)

-- a height at a position is within the limit
pub position_low : (drawing : Drawing) → IsDrawn drawing → (s : Statement) (gs : List Grid) (values : List ℤ) → IsWalkable drawing.elements s gs → IsPosition gs values → statement_height drawing.elements s (magnitudes (assigned values)) ≤ STATEMENT_LIMIT
position_low drawing drawn s gs values walk at =
    le_trans (statement_height_grows drawing.elements (constructed drawing drawn) (magnitudes (assigned values)) (magnitude_of (magnitudes_in gs)) at.within s) walk.low

-- ---- where nothing is set
pub blank_assigned : (count : ℕ) → assigned (replicate count (pos 0)) ≡ nothing_set
blank_assigned count = λ i r. there count r i
  where
    there : (count r : ℕ) → get_or (replicate count (pos 0)) r (pos 0) ≡ pos 0
    there zero r = refl
    there (suc count) zero = refl
    there (suc count) (suc r) = there count r

pub blank_position : (gs : List Grid) (values : List ℤ) → values ≡ replicate (2 * NUMBER_LIMIT) (pos 0) → IsPosition gs values
blank_position gs values same = record {
  room = ap (λ vs. length vs) same ∙ length-replicate (2 * NUMBER_LIMIT) (pos 0);
  within = λ p. subst (λ f. unsigned_abs (f p) ≤ magnitude_of (magnitudes_in gs) p) (sym (ap assigned same ∙ blank_assigned (2 * NUMBER_LIMIT))) (omega arith);
}

-- ---- tests over the rest of a list
pub all_step : {X : Type 0} (f : X → Bool) (xs : List X) (i : ℕ) (d : X) → i < length xs → list_all f (drop i xs) ≡ (f (get_or xs i d) && list_all f (drop (i + 1) xs))
all_step f xs i d l = ap (list_all f) (drop-cons xs i d l) ∙ ap (λ n. f (get_or xs i d) && list_all f (drop n xs)) (sym (add-one i))

length_dropped : {X : Type 0} (xs : List X) (i : ℕ) → length (drop i xs) ≡ length xs - i
length_dropped [] zero = refl
length_dropped [] (suc i) = omega arith
length_dropped (x ∷ xs) zero = omega arith
length_dropped (x ∷ xs) (suc i) = omega (arith, length_dropped xs i)

pub triangle_step : (f : ℤ → ℤ → Bool) (xs ys : List ℤ) (i : ℕ) (d : ℤ) → i < length xs → on_triangle f (drop i xs) ys ≡ (list_all (f (get_or xs i d)) (take (length xs - i) ys) && on_triangle f (drop (i + 1) xs) ys)
triangle_step f xs ys i d l =
    let count : suc (length (drop (suc i) xs)) ≡ length xs - i = omega (arith, length_dropped xs (suc i)) in
    ap (λ zs. on_triangle f zs ys) (drop-cons xs i d l)
    ∙ ap (λ n. list_all (f (get_or xs i d)) (take n ys) && on_triangle f (drop (suc i) xs) ys) count
    ∙ ap (λ n. list_all (f (get_or xs i d)) (take (length xs - i) ys) && on_triangle f (drop n xs) ys) (sym (add-one i))

-- ---- magnitudes
bound_more : (m n : ℕ) (xs : List ℤ) → m ≤ n → AllByRecursion (λ x. unsigned_abs x ≤ m) xs → AllByRecursion (λ x. unsigned_abs x ≤ n) xs
bound_more m n [] l h = tt
bound_more m n (x ∷ xs) l h = (omega (arith, h.0), bound_more m n xs l h.1)

within_largest : (xs : List ℤ) → AllByRecursion (λ x. unsigned_abs x ≤ largest xs) xs
within_largest [] = tt
within_largest (x ∷ xs) = (omega arith, bound_more (largest xs) (largest (x ∷ xs)) xs (omega arith) (within_largest xs))

modest_same : (m n : ℕ → ℕ) (p : ℕ) (xs : List ℤ) → m p ≡ n p → IsModest m p xs → IsModest n p xs
modest_same m n p xs e h = record { parameter = h.parameter; values = subst (λ (k : ℕ). AllByRecursion (λ x. unsigned_abs x ≤ k) xs) e h.values }

first_magnitude : (p k : ℕ) (rest : List (ℕ × ℕ)) → magnitude_of ((p, k) ∷ rest) p ≡ k
first_magnitude p k rest = cond_both (p == p) k (magnitude_of rest p) (λ n. n ≡ k) (λ t. refl) (λ t. absurd (eqb-false p p t refl))

later_magnitude : (p q k : ℕ) (rest : List (ℕ × ℕ)) → p ≢ q → magnitude_of ((p, k) ∷ rest) q ≡ magnitude_of rest q
later_magnitude p q k rest ne = cond_both (p == q) k (magnitude_of rest q) (λ n. n ≡ magnitude_of rest q) (λ t. absurd (ne (eqb-true p q t))) (λ t. refl)

not_true : (b : Bool) → not b ≡ true → b ≡ false
not_true true t = cc
not_true false t = refl

-- what stands among some is none that does not
apart_from : (ps : List ℕ) (p q : ℕ) → is_among ps p ≡ false → is_among ps q ≡ true → p ≢ q
apart_from ps p q t u e = let same : is_among ps q ≡ false = subst (λ (r : ℕ). is_among ps r ≡ false) e t in cc

pub first_in : (p : ℕ) (ps : List ℕ) → is_among (p ∷ ps) p ≡ true
first_in p ps = by_same (p == p) refl
  where
    by_same : (b : Bool) → (p == p) ≡ b → (b || is_among ps p) ≡ true
    by_same true e = refl
    by_same false e = absurd (eqb-false p p e refl)

pub later_in : (p q : ℕ) (ps : List ℕ) → is_among ps q ≡ true → is_among (p ∷ ps) q ≡ true
later_in p q ps t = by_first (p == q)
  where
    by_first : (b : Bool) → (b || is_among ps q) ≡ true
    by_first true = refl
    by_first false = t

entries_same : (m n : ℕ → ℕ) (gs : List Grid) → ((p : ℕ) → is_among (parameters_on gs) p ≡ true → m p ≡ n p) → AllByRecursion (IsModestEntry m) gs → AllByRecursion (IsModestEntry n) gs
entries_same m n [] same h = tt
entries_same m n (one p xs ∷ gs) same h = (modest_same m n p xs (same p (first_in p (parameters_on gs))) h.0, entries_same m n gs (λ q t. same q (later_in p q (parameters_on gs) t)) h.1)
entries_same m n (two p r xs ys ∷ gs) same h = (
  (modest_same m n p xs (same p (first_in p (r ∷ parameters_on gs))) h.0.0, modest_same m n r ys (same r (later_in p r (r ∷ parameters_on gs) (first_in r (parameters_on gs)))) h.0.1, h.0.2),
  entries_same m n gs (λ q t. same q (later_in p q (r ∷ parameters_on gs) (later_in r q (parameters_on gs) t))) h.1,
)

-- a list of values for each parameter that a sketch may have, where no parameter stands twice
pub modest_entries : (es : List Element) (s : Statement) (gs : List Grid) → are_apart (parameters_on gs) ≡ true → AllByRecursion (HasEnough es s) gs → ((p : ℕ) → is_among (parameters_on gs) p ≡ true → p < 2 * NUMBER_LIMIT) → AllByRecursion (IsModestEntry (magnitude_of (magnitudes_in gs))) gs
modest_entries es s [] apart h low = tt
modest_entries es s (one p xs ∷ gs) apart h low =
    let other = not_true _ (and_parts _ _ apart).0 in
    let m = magnitude_of (magnitudes_in (one p xs ∷ gs)) in
    let rest = modest_entries es s gs (and_parts _ _ apart).1 h.1 (λ q t. low q (later_in p q (parameters_on gs) t)) in (
      record { parameter = low p (first_in p (parameters_on gs)); values = subst (λ (k : ℕ). AllByRecursion (λ x. unsigned_abs x ≤ k) xs) (sym (first_magnitude p (largest xs) (magnitudes_in gs))) (within_largest xs) },
      entries_same (magnitude_of (magnitudes_in gs)) m gs (λ q t. sym (later_magnitude p q (largest xs) (magnitudes_in gs) (apart_from (parameters_on gs) p q other t))) rest,
    )
modest_entries es s (two p r xs ys ∷ gs) apart h low =
    let first = and_parts _ _ apart in
    let second = and_parts _ _ first.1 in
    let not_first = not_true _ first.0 in
    let not_second = not_true _ second.0 in
    let differ : p ≢ r = apart_from (r ∷ parameters_on gs) p r not_first (first_in r (parameters_on gs)) in
    let tail = (r, largest ys) ∷ magnitudes_in gs in
    let m = magnitude_of (magnitudes_in (two p r xs ys ∷ gs)) in
    let rest = modest_entries es s gs second.1 h.1 (λ q t. low q (later_in p q (r ∷ parameters_on gs) (later_in r q (parameters_on gs) t))) in
    let second_is : m r ≡ largest ys = later_magnitude p r (largest xs) tail differ ∙ first_magnitude r (largest ys) (magnitudes_in gs) in (
      (
        record { parameter = low p (first_in p (r ∷ parameters_on gs)); values = subst (λ (k : ℕ). AllByRecursion (λ x. unsigned_abs x ≤ k) xs) (sym (first_magnitude p (largest xs) tail)) (within_largest xs) },
        record { parameter = low r (later_in p r (r ∷ parameters_on gs) (first_in r (parameters_on gs))); values = subst (λ (k : ℕ). AllByRecursion (λ x. unsigned_abs x ≤ k) ys) (sym second_is) (within_largest ys) },
        h.0.2,
      ),
      entries_same (magnitude_of (magnitudes_in gs)) m gs
          (λ q t. sym (later_magnitude p q (largest xs) tail (apart_from (r ∷ parameters_on gs) p q not_first (later_in r q (parameters_on gs) t)) ∙ later_magnitude r q (largest ys) (magnitudes_in gs) (apart_from (parameters_on gs) r q not_second t))) rest,
    )

-- ---- parameters
own_low : (n : ℕ) (d : Def) (p : ℕ) → n < NUMBER_LIMIT → is_among (own_parameters n d) p ≡ true → p < 2 * NUMBER_LIMIT
own_low n Free p l t = two_low (2 * n == p) (2 * n + 1 == p) refl refl t
  where
    two_low : (a b : Bool) → (2 * n == p) ≡ a → (2 * n + 1 == p) ≡ b → (a || (b || false)) ≡ true → p < 2 * NUMBER_LIMIT
    two_low true b e f u = omega (arith, l, eqb-true (2 * n) p e)
    two_low false true e f u = omega (arith, l, eqb-true (2 * n + 1) p f)
    two_low false false e f u = cc
own_low n (Fixed a b c) p l t = cc
own_low n (Cut k) p l t = one_low (2 * n == p) refl t
  where
    one_low : (a : Bool) → (2 * n == p) ≡ a → (a || false) ≡ true → p < 2 * NUMBER_LIMIT
    one_low true e u = omega (arith, l, eqb-true (2 * n) p e)
    one_low false e u = cc
own_low n (Blend k m) p l t = one_low (2 * n == p) refl t
  where
    one_low : (a : Bool) → (2 * n == p) ≡ a → (a || false) ≡ true → p < 2 * NUMBER_LIMIT
    one_low true e u = omega (arith, l, eqb-true (2 * n) p e)
    one_low false e u = cc
own_low n (Cross k m) p l t = cc

-- what stands among two lists stands in one of them
either_list : {P : Type 0} (ps qs : List ℕ) (p : ℕ) → (is_among ps p ≡ true → P) → (is_among qs p ≡ true → P) → is_among (ps ++ qs) p ≡ true → P
either_list [] qs p f g t = g t
either_list {P} (r ∷ ps) qs p f g t = by_first (r == p) refl (either_list ps qs p (λ v. f (later_in r p ps v)) g) t
  where
    by_first : (b : Bool) → (r == p) ≡ b → (is_among (ps ++ qs) p ≡ true → P) → (b || is_among (ps ++ qs) p) ≡ true → P
    by_first true e rest u = f (subst (λ (b : Bool). (b || is_among ps p) ≡ true) (sym e) refl)
    by_first false e rest u = rest u

all_low : (es : List Element) (p : ℕ) → AllByRecursion (λ (e : Element). e.number < NUMBER_LIMIT) es → is_among (parameters_of es) p ≡ true → p < 2 * NUMBER_LIMIT
all_low [] p h t = cc
all_low (e ∷ es) p h t = either_list (own_parameters e.number e.def) (parameters_of es) p (own_low e.number e.def p h.0) (all_low es p h.1) t

pub parameters_low : (drawing : Drawing) → IsDrawn drawing → (p : ℕ) → is_among (parameters_of drawing.elements) p ≡ true → p < 2 * NUMBER_LIMIT
parameters_low drawing drawn p t =
    all_low drawing.elements p (recursion_from_All (λ (e : Element). e.number < NUMBER_LIMIT) drawing.elements (λ i d l. numbers_low drawing drawn _ _ (number_at 0 drawing.elements i d drawn.rising l).0)) t

some_point : (m : ℕ) → 1 ≤ m → 1 ≤ m * (m + 1) / 2
some_point zero l = absurd (omega arith)
some_point (suc m) l = omega arith

-- ---- a grid for right degrees
module _ (drawing : Drawing) (drawn : IsDrawn drawing) (s : Statement) (ds : List DegreeEntry) (gs : List Grid) (right : are_right drawing.elements s ds ≡ true) (for : are_for ds gs ≡ true) where
  pub grid_modest : AllByRecursion (IsModestEntry (magnitude_of (magnitudes_in gs))) gs
  grid_modest =
      let has = enough drawing.elements s ds right gs for in
      modest_entries drawing.elements s gs (subst (λ (ps : List ℕ). are_apart ps ≡ true) (sym has.1) (right_apart drawing.elements s ds right)) has.0
      (λ p t. parameters_low drawing drawn p (named_in_elements drawing.elements s ds right p (subst (λ (ps : List ℕ). is_among ps p ≡ true) has.1 t)))

  -- each entry has a point
  pub grid_points : AllByRecursion (λ (g : Grid). 1 ≤ points_in g) gs
  grid_points = points_of gs (enough drawing.elements s ds right gs for).0
    where
      points_of : (gs : List Grid) → AllByRecursion (HasEnough drawing.elements s) gs → AllByRecursion (λ (g : Grid). 1 ≤ points_in g) gs
      points_of [] h = tt
      points_of (one p xs ∷ gs) h = (omega (arith, h.0.1), points_of gs h.1)
      points_of (two p q xs ys ∷ gs) h = (some_point (length xs) (omega (arith, h.0.3)), points_of gs h.1)

-- ---- one parameter after the other
pub assigned_there : (start values : List ℤ) (p : ℕ) (x : ℤ) → p < length start → set values p x ≡ set start p x → assigned (set values p x) ≡ with_value (assigned start) p x
assigned_there start values p x l same = ap assigned same ∙ assigned_set start p x l

pub others_next : (start values : List ℤ) (p : ℕ) (x : ℤ) → ((y : ℤ) → set values p y ≡ set start p y) → (y : ℤ) → set (set values p x) p y ≡ set start p y
others_next start values p x same y = set-set values p x y ∙ same y

pub restored : (start values : List ℤ) (p : ℕ) (d : ℤ) → ((y : ℤ) → set values p y ≡ set start p y) → set values p (get_or start p d) ≡ start
restored start values p d same = same (get_or start p d) ∙ set-get_or start p d

pub all_go_on : {X : Type 0} (f : X → Bool) (xs : List X) (i : ℕ) (d : X) (r : Bool) → i < length xs → list_all f (drop i xs) ≡ r → f (get_or xs i d) ≡ true → list_all f (drop (i + 1) xs) ≡ r
all_go_on f xs i d r l h t = sym (ap (λ b. b && list_all f (drop (i + 1) xs)) t) ∙ sym (all_step f xs i d l) ∙ h

pub all_stop : {X : Type 0} (f : X → Bool) (xs : List X) (i : ℕ) (d : X) (r : Bool) → i < length xs → list_all f (drop i xs) ≡ r → f (get_or xs i d) ≡ false → false ≡ r
all_stop f xs i d r l h t = sym (ap (λ b. b && list_all f (drop (i + 1) xs)) t) ∙ sym (all_step f xs i d l) ∙ h

pub triangle_go_on : (f : ℤ → ℤ → Bool) (xs ys : List ℤ) (i : ℕ) (d : ℤ) (r : Bool) → i < length xs → on_triangle f (drop i xs) ys ≡ r → list_all (f (get_or xs i d)) (take (length xs - i) ys) ≡ true → on_triangle f (drop (i + 1) xs) ys ≡ r
triangle_go_on f xs ys i d r l h t = sym (ap (λ b. b && on_triangle f (drop (i + 1) xs) ys) t) ∙ sym (triangle_step f xs ys i d l) ∙ h

pub triangle_stop : (f : ℤ → ℤ → Bool) (xs ys : List ℤ) (i : ℕ) (d : ℤ) (r : Bool) → i < length xs → on_triangle f (drop i xs) ys ≡ r → list_all (f (get_or xs i d)) (take (length xs - i) ys) ≡ false → false ≡ r
triangle_stop f xs ys i d r l h t = sym (ap (λ b. b && on_triangle f (drop (i + 1) xs) ys) t) ∙ sym (triangle_step f xs ys i d l) ∙ h
