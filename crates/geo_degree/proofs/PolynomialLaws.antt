-- The coefficient lists of an element have the values of its coordinates, and are no longer than its degree allows.
-- lemmas for other crates
use Rattle.std.proofs.Common.{◌≡◌, ◌∙◌, ap, ap₂, refl, inl, inr, ℕ, ◌+◌, ◌*◌, ◌≤◌, max, List, [], ◌∷◌, length, ℤ, pos, negsuc, ◌+ℤ◌, ◌*ℤ◌, neg_ℤ, arith, if◌then◌else◌}
use Rattle.std.specs.Prelude.{◌==◌, ◌||◌, false, ◌⊎◌}
use Rattle.std.proofs.lemmas.Bool.{cond_both, eqb-true}
use Rattle.std.proofs.lemmas.Bool.Decides.{nat_tests}
use Rattle.std.proofs.lemmas.Int.{ints}
use Rattle.geo_law.specs.Coefficients.{value_at, sum_of_lists, multiple_of_list, product_of_lists}
use Rattle.geo_law.proofs.CoefficientLaws.{value-sum, length-sum, value-multiple, length-multiple, value-product, length-product, value-constant, value-variable, value-minor, length-minor}
use Rattle.geo_triple.specs.declared.Triple.{Triple}
use Rattle.geo_triple.specs.Triple.{cross_of, dot_of, determinant_of, blend_of, cut_of}
use Rattle.geo_sketch.specs.declared.elements.Def.{Def}
use Rattle.geo_sketch.specs.declared.elements.Def.TheVariants.{Free, Fixed, Cut, Blend, Cross}
use Rattle.geo_sketch.specs.declared.elements.Element.{Element}
use Rattle.geo_sketch.specs.declared.statements.Statement.{Statement}
use Rattle.geo_sketch.specs.declared.statements.Statement.TheVariants as statement
use Rattle.geo_sketch.specs.Constructions.{by_def, computed, AtNamed, IsConstruction}
use Rattle.geo_sketch.specs.Triples.{triple_algebra, triple_at, of_coordinates}
use Rattle.geo_sketch.specs.Statements.{parts_at}
use Rattle.geo_triple.specs.Zero.{coordinates}
use Rattle.geo_sketch.proofs.ConstructionLaws.{at_named}
use Rattle.geo_sketch.proofs.LiveElements.{related}
use Rattle.geo_degree.specs.Degrees.{degree_algebra, degree_of, statement_degree}
use Rattle.geo_degree.specs.Polynomials.{Lists, of_lists, cross_of_lists, dot_of_lists, determinant_of_lists, blend_of_lists, cut_of_lists, assignment_on, curve_algebra, lists_along, lists_of, parameter_list, coordinate_lists, part_lists, parts_along, values_at, AreShort, with_value}
use Rattle.geo_degree.proofs.DegreeLaws.{degree_later}

-- ---- values
abbrev pub at : Lists → ℤ → Triple
at s x = of_coordinates (value_at s.a x) (value_at s.b x) (value_at s.c x)

pub same_triple : {a b c d e f : ℤ} → a ≡ d → b ≡ e → c ≡ f → of_coordinates a b c ≡ of_coordinates d e f
same_triple p q r = λ i. of_coordinates (p i) (q i) (r i)

at-cross : (s t : Lists) (x : ℤ) → at (cross_of_lists s t) x ≡ cross_of (at s x) (at t x)
unfolding cross_of
at-cross s t x = same_triple (value-minor s.b t.c s.c t.b x) (value-minor s.c t.a s.a t.c x) (value-minor s.a t.b s.b t.a x)

value-dot : (s t : Lists) (x : ℤ) → value_at (dot_of_lists s t) x ≡ dot_of (at s x) (at t x)
value-dot s t x =
    value-sum (sum_of_lists (product_of_lists s.a t.a) (product_of_lists s.b t.b)) (product_of_lists s.c t.c) x
    ∙ ap₂ (λ u v. u +ℤ v) (value-sum (product_of_lists s.a t.a) (product_of_lists s.b t.b) x ∙ ap₂ (λ u v. u +ℤ v) (value-product s.a t.a x) (value-product s.b t.b x)) (value-product s.c t.c x)

value-determinant : (s t u : Lists) (x : ℤ) → value_at (determinant_of_lists s t u) x ≡ determinant_of (at s x) (at t x) (at u x)
unfolding determinant_of
value-determinant s t u x = value-dot s (cross_of_lists t u) x ∙ ap (dot_of (at s x)) (at-cross t u x)

value-blended : (p q by : List ℤ) (x : ℤ) → value_at (sum_of_lists p (product_of_lists by q)) x ≡ value_at p x +ℤ value_at by x *ℤ value_at q x
value-blended p q by x = value-sum p (product_of_lists by q) x ∙ ap (λ v. value_at p x +ℤ v) (value-product by q x)

at-blend : (s t : Lists) (by : List ℤ) (x : ℤ) → at (blend_of_lists s t by) x ≡ blend_of (at s x) (at t x) (value_at by x)
unfolding blend_of
at-blend s t by x = same_triple (value-blended s.a t.a by x) (value-blended s.b t.b by x) (value-blended s.c t.c by x)

at-cut : (s : Lists) (by : List ℤ) (x : ℤ) → at (cut_of_lists s by) x ≡ cut_of (at s x) (value_at by x)
unfolding cut_of
at-cut s by x =
    let minus : value_at (multiple_of_list (negsuc 0) by) x ≡ neg_ℤ (value_at by x) = omega (arith, ints, value-multiple (negsuc 0) by x) in
    at-cross s (of_lists (pos 1 ∷ []) (pos 0 ∷ []) (multiple_of_list (negsuc 0) by)) x ∙ ap (cross_of (at s x)) (same_triple (value-constant (pos 1) x) (value-constant (pos 0) x) minus)

made_value : (d : Def) (n : ℕ) (curve : ℕ → List ℤ) (x : ℤ) (f : ℕ → Lists) (g : ℕ → Triple) → AtNamed d (λ k. at (f k) x ≡ g k) → at (by_def (curve_algebra curve) n d f) x ≡ by_def (triple_algebra (assignment_on curve x)) n d g
made_value Free n curve x f g s = same_triple refl refl (value-constant (pos 1) x)
made_value (Fixed a b c) n curve x f g s = same_triple (value-constant a x) (value-constant b x) (value-constant c x)
made_value (Cut k) n curve x f g s = at-cut (f k) (curve (2 * n)) x ∙ ap (λ t. cut_of t (assignment_on curve x (2 * n))) s
made_value (Blend k m) n curve x f g s = at-blend (f k) (f m) (curve (2 * n)) x ∙ (λ i. blend_of (s.0 i) (s.1 i) (assignment_on curve x (2 * n)))
made_value (Cross k m) n curve x f g s = at-cross (f k) (f m) x ∙ ap₂ cross_of s.0 s.1

module _ (es : List Element) (c : IsConstruction es) (curve : ℕ → List ℤ) (x : ℤ) where
  -- each coordinate is the value of its list
  value_along : (n : ℕ) → at (lists_along es n curve) x ≡ triple_at es n (assignment_on curve x)
  value_along =
      related es c (curve_algebra curve) (triple_algebra (assignment_on curve x)) (λ n l t. at l x ≡ t) (λ n q. refl)
      (λ n e q s. made_value e.def n curve x (computed (curve_algebra curve) es) (computed (triple_algebra (assignment_on curve x)) es) (at_named _ (λ k. at (lists_along es k curve) x ≡ triple_at es k (assignment_on curve x)) e.def (λ k r. r.2) s))

  pub coordinates_along : (n : ℕ) → values_at (coordinate_lists (lists_along es n curve)) x ≡ coordinates (triple_at es n (assignment_on curve x))
  coordinates_along n = ap coordinates (value_along n)

  -- and so is each part of a statement
  pub values_along : (s : Statement) → values_at (parts_along es s curve) x ≡ parts_at es s (assignment_on curve x)
  values_along (statement.Null n) = coordinates_along n
  values_along (statement.Same n m) = ap coordinates (at-cross (lists_along es n curve) (lists_along es m curve) x ∙ ap₂ cross_of (value_along n) (value_along m))
  values_along (statement.On n m) = ap (λ z. z ∷ []) (value-dot (lists_along es n curve) (lists_along es m curve) x ∙ ap₂ (λ s t. dot_of s t) (value_along n) (value_along m))
  values_along (statement.Triple n m k) =
      ap (λ z. z ∷ []) (value-determinant (lists_along es n curve) (lists_along es m curve) (lists_along es k curve) x ∙ (λ i. determinant_of (value_along n i) (value_along m i) (value_along k i)))

-- where the curve is one parameter, with all others fixed, it makes the assignment with another value of it
value-parameter : (v : ℕ → ℤ) (p q : ℕ) (x : ℤ) → value_at (parameter_list v p q) x ≡ with_value v p x q
value-parameter v p q x =
    cond_both (q == p) (pos 0 ∷ pos 1 ∷ []) (v q ∷ []) (λ l. value_at l x ≡ with_value v p x q)
    (λ t. value-variable x ∙ rw t refl)
    (λ t. value-constant (v q) x ∙ rw t refl)

on_parameter : (v : ℕ → ℤ) (p : ℕ) (x : ℤ) → assignment_on (parameter_list v p) x ≡ with_value v p x
on_parameter v p x = λ i q. value-parameter v p q x i

-- ---- lengths
pub record AreWithin (count : ℕ) (s : Lists) : Type 0 where
  pub a : length s.a ≤ count
  pub b : length s.b ≤ count
  pub c : length s.c ≤ count

wider : (l m : ℕ) (s : Lists) → l ≤ m → AreWithin l s → AreWithin m s
wider l m s h w = record { a = omega (arith, w.a, h); b = omega (arith, w.b, h); c = omega (arith, w.c, h) }

within-cross : (s t : Lists) (m n : ℕ) → AreWithin (m + 1) s → AreWithin (n + 1) t → AreWithin (m + n + 1) (cross_of_lists s t)
within-cross s t m n p q = record {
  a = length-minor s.b t.c s.c t.b m n p.b q.c p.c q.b;
  b = length-minor s.c t.a s.a t.c m n p.c q.a p.a q.c;
  c = length-minor s.a t.b s.b t.a m n p.a q.b p.b q.a;
}

length-dot : (s t : Lists) (m n : ℕ) → AreWithin (m + 1) s → AreWithin (n + 1) t → length (dot_of_lists s t) ≤ m + n + 1
length-dot s t m n p q =
    omega (
      arith,
      length-sum (sum_of_lists (product_of_lists s.a t.a) (product_of_lists s.b t.b)) (product_of_lists s.c t.c),
      length-sum (product_of_lists s.a t.a) (product_of_lists s.b t.b),
      length-product s.a t.a m n p.a q.a,
      length-product s.b t.b m n p.b q.b,
      length-product s.c t.c m n p.c q.c,
    )

length-blended : (p q by : List ℤ) (l m n : ℕ) → length p ≤ l + 1 → length by ≤ m + 1 → length q ≤ n + 1 → length (sum_of_lists p (product_of_lists by q)) ≤ max l (m + n) + 1
length-blended p q by l m n f g h = omega (arith, length-sum p (product_of_lists by q), length-product by q m n g h)

within-blend : (s t : Lists) (by : List ℤ) (l m n : ℕ) → AreWithin (l + 1) s → length by ≤ m + 1 → AreWithin (n + 1) t → AreWithin (max l (m + n) + 1) (blend_of_lists s t by)
within-blend s t by l m n p h q = record {
  a = length-blended s.a t.a by l m n p.a h q.a;
  b = length-blended s.b t.b by l m n p.b h q.b;
  c = length-blended s.c t.c by l m n p.c h q.c;
}

within-cut : (s : Lists) (by : List ℤ) (m n : ℕ) → AreWithin (m + 1) s → length by ≤ n + 1 → AreWithin (m + n + 1) (cut_of_lists s by)
within-cut s by m n p h =
    within-cross s (of_lists (pos 1 ∷ []) (pos 0 ∷ []) (multiple_of_list (negsuc 0) by)) m n p (record { a = omega arith; b = omega arith; c = omega (arith, h, length-multiple (negsuc 0) by) })

-- a parameter has degree 1 in itself
length-parameter : (v : ℕ → ℤ) (p q d : ℕ) → (q ≡ p → 1 ≤ d) → length (parameter_list v p q) ≤ d + 1
length-parameter v p q d h = cond_both (q == p) (pos 0 ∷ pos 1 ∷ []) (v q ∷ []) (λ l. length l ≤ d + 1) (λ t. omega (arith, h (eqb-true q p t))) (λ t. omega arith)

length-other : (v : ℕ → ℤ) (p q : ℕ) → (q == p) ≡ false → length (parameter_list v p q) ≤ 0 + 1
length-other v p q t = rw t (omega arith)

own_degree : (n p q : ℕ) → (q ≡ 2 * n) ⊎ (q ≡ 2 * n + 1) → q ≡ p → 1 ≤ (if 2 * n == p || 2 * n + 1 == p then 1 else 0)
own_degree n p q h e = grind (arith, nat_tests)

made_within : (d : Def) (n p : ℕ) (v : ℕ → ℤ) (f : ℕ → Lists) (g : ℕ → ℕ) → (2 * n ≡ p → AtNamed d (λ k. g k ≡ 0)) → AtNamed d (λ k. AreWithin (g k + 1) (f k)) → AreWithin (by_def (degree_algebra p) n d g + 1) (by_def (curve_algebra (parameter_list v p)) n d f)
made_within Free n p v f g own s = record {
  a = length-parameter v p (2 * n) _ (own_degree n p (2 * n) (inl refl));
  b = length-parameter v p (2 * n + 1) _ (own_degree n p (2 * n + 1) (inr refl));
  c = omega arith;
}
made_within (Fixed a b c) n p v f g own s = record { a = omega arith; b = omega arith; c = omega arith }
made_within (Cut k) n p v f g own s =
    cond_both (2 * n == p) 1 (g k) (λ d. AreWithin (d + 1) (cut_of_lists (f k) (parameter_list v p (2 * n))))
    (λ t. wider (g k + 1 + 1) 2 _ (omega (arith, own (eqb-true (2 * n) p t))) (within-cut (f k) (parameter_list v p (2 * n)) (g k) 1 s (length-parameter v p (2 * n) 1 (λ q. omega arith))))
    (λ t. wider (g k + 0 + 1) (g k + 1) _ (omega arith) (within-cut (f k) (parameter_list v p (2 * n)) (g k) 0 s (length-other v p (2 * n) t)))
made_within (Blend k m) n p v f g own s =
    cond_both (2 * n == p) 1 (max (g k) (g m)) (λ d. AreWithin (d + 1) (blend_of_lists (f k) (f m) (parameter_list v p (2 * n))))
    (λ t. let zero = own (eqb-true (2 * n) p t) in
    wider (max (g k) (1 + g m) + 1) 2 _ (omega (arith, zero.0, zero.1)) (within-blend (f k) (f m) (parameter_list v p (2 * n)) (g k) 1 (g m) s.0 (length-parameter v p (2 * n) 1 (λ q. omega arith)) s.1))
    (λ t. wider (max (g k) (0 + g m) + 1) (max (g k) (g m) + 1) _ (omega arith) (within-blend (f k) (f m) (parameter_list v p (2 * n)) (g k) 0 (g m) s.0 (length-other v p (2 * n) t) s.1))
made_within (Cross k m) n p v f g own s = within-cross (f k) (f m) (g k) (g m) s.0 s.1

module _ (es : List Element) (c : IsConstruction es) (v : ℕ → ℤ) (p : ℕ) where
  -- no list has more entries than the degree and 1
  lists_within : (n : ℕ) → AreWithin (degree_of es n p + 1) (lists_of es n v p)
  lists_within =
      related es c (curve_algebra (parameter_list v p)) (degree_algebra p) (λ n l d. AreWithin (d + 1) l) (λ n q. record { a = omega arith; b = omega arith; c = omega arith })
      (λ n e q s. made_within e.def n p v (computed (curve_algebra (parameter_list v p)) es) (computed (degree_algebra p) es)
      (λ own. at_named _ (λ k. degree_of es k p ≡ 0) e.def (λ k r. degree_later es c p k (omega (arith, r.0, own))) s)
      (at_named _ (λ k. AreWithin (degree_of es k p + 1) (lists_of es k v p)) e.def (λ k r. r.2) s))

  pub coordinate_values : (x : ℤ) (n : ℕ) → values_at (coordinate_lists (lists_of es n v p)) x ≡ coordinates (triple_at es n (with_value v p x))
  coordinate_values x n = coordinates_along es c (parameter_list v p) x n ∙ ap (λ w. coordinates (triple_at es n w)) (on_parameter v p x)

  pub part_values : (x : ℤ) (s : Statement) → values_at (part_lists es s v p) x ≡ parts_at es s (with_value v p x)
  part_values x s = values_along es c (parameter_list v p) x s ∙ ap (parts_at es s) (on_parameter v p x)

  coordinates_short : (count : ℕ) (s : Lists) → AreWithin count s → AreShort count (coordinate_lists s)
  coordinates_short count s w = (w.a, (w.b, (w.c, tt)))

  pub coordinate_lengths : (n : ℕ) → AreShort (degree_of es n p + 1) (coordinate_lists (lists_of es n v p))
  coordinate_lengths n = coordinates_short _ _ (lists_within n)

  pub part_lengths : (s : Statement) → AreShort (statement_degree es s p + 1) (part_lists es s v p)
  part_lengths (statement.Null n) = coordinate_lengths n
  part_lengths (statement.Same n m) = coordinates_short _ _ (within-cross (lists_of es n v p) (lists_of es m v p) (degree_of es n p) (degree_of es m p) (lists_within n) (lists_within m))
  part_lengths (statement.On n m) = (length-dot (lists_of es n v p) (lists_of es m v p) (degree_of es n p) (degree_of es m p) (lists_within n) (lists_within m), tt)
  part_lengths (statement.Triple n m k) =
      (omega (arith, length-dot (lists_of es n v p) (cross_of_lists (lists_of es m v p) (lists_of es k v p)) (degree_of es n p) (degree_of es m p + degree_of es k p) (lists_within n) (within-cross (lists_of es m v p) (lists_of es k v p) (degree_of es m p) (degree_of es k p) (lists_within m) (lists_within k))), tt)
