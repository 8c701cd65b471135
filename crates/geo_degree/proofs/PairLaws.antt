-- Each coordinate and each part is the value of its table in the two parameters of an element, and the degree bounds the total degree of the table.
-- lemmas for other crates
use Rattle.std.proofs.Common.{◌≡◌, ◌∙◌, ap, ap₂, refl, inl, inr, ◌⊎◌, ℕ, suc, ◌+◌, ◌*◌, ◌≤◌, max, false, if◌then◌else◌, Some, List, [], ◌∷◌, ℤ, pos, negsuc, ◌+ℤ◌, ◌*ℤ◌, neg_ℤ, arith}
use Rattle.std.specs.Prelude.{◌==◌, ◌||◌}
use Rattle.std.proofs.lemmas.Bool.{cond_both, eqb-true}
use Rattle.std.proofs.lemmas.Bool.Decides.{nat_tests}
use Rattle.std.proofs.lemmas.Int.{ints}
use Rattle.geo_law.specs.Tables.{value_of_table, IsTriangle, sum_of_tables, multiple_of_table, product_of_tables}
use Rattle.geo_law.proofs.TableLaws.{table-sum, table-multiple, table-product, table-constant, table-first, table-second, table-minor, triangle_wider, triangle-sum, triangle-multiple, triangle-product, triangle-minor}
use Rattle.geo_triple.specs.declared.Triple.{Triple}
use Rattle.geo_triple.specs.Triple.{cross_of, dot_of, determinant_of, blend_of, cut_of}
use Rattle.geo_sketch.specs.declared.elements.Def.{Def}
use Rattle.geo_sketch.specs.declared.elements.Def.TheVariants.{Free, Fixed, Cut, Blend, Cross}
use Rattle.geo_sketch.specs.declared.elements.Element.{Element}
use Rattle.geo_sketch.specs.declared.statements.Statement.{Statement}
use Rattle.geo_sketch.specs.declared.statements.Statement.TheVariants as statement
use Rattle.geo_sketch.specs.Constructions.{by_def, computed, AtNamed, IsConstruction}
use Rattle.geo_sketch.specs.Lookups.{numbered}
use Rattle.geo_sketch.specs.Triples.{triple_algebra, triple_at, of_coordinates}
use Rattle.geo_sketch.specs.Statements.{parts_at}
use Rattle.geo_triple.specs.Zero.{coordinates}
use Rattle.geo_sketch.proofs.ConstructionLaws.{at_named}
use Rattle.geo_sketch.proofs.LiveElements.{related}
use Rattle.geo_degree.specs.Degrees.{degree_algebra, degree_of, statement_degree}
use Rattle.geo_degree.specs.PairPolynomials.{Tables, AreTriangles, blend_of_tables, constant_table, coordinate_tables, cross_of_tables, cut_of_tables, determinant_of_tables, dot_of_tables, first_table, of_tables, parameter_table, part_tables, second_table, table_algebra, tables_of, values_of_tables, with_pair}
use Rattle.geo_degree.proofs.DegreeLaws.{degree_later}
use Rattle.geo_degree.proofs.PolynomialLaws.{same_triple}

-- ---- values
abbrev pub at : Tables → ℤ → ℤ → Triple
at s x y = of_coordinates (value_of_table s.a x y) (value_of_table s.b x y) (value_of_table s.c x y)

at-cross : (s t : Tables) (x y : ℤ) → at (cross_of_tables s t) x y ≡ cross_of (at s x y) (at t x y)
unfolding cross_of
at-cross s t x y = same_triple (table-minor s.b t.c s.c t.b x y) (table-minor s.c t.a s.a t.c x y) (table-minor s.a t.b s.b t.a x y)

table-dot : (s t : Tables) (x y : ℤ) → value_of_table (dot_of_tables s t) x y ≡ dot_of (at s x y) (at t x y)
table-dot s t x y =
    table-sum (sum_of_tables (product_of_tables s.a t.a) (product_of_tables s.b t.b)) (product_of_tables s.c t.c) x y
    ∙ ap₂ (λ u v. u +ℤ v) (table-sum (product_of_tables s.a t.a) (product_of_tables s.b t.b) x y ∙ ap₂ (λ u v. u +ℤ v) (table-product s.a t.a x y) (table-product s.b t.b x y)) (table-product s.c t.c x y)

table-determinant : (s t u : Tables) (x y : ℤ) → value_of_table (determinant_of_tables s t u) x y ≡ determinant_of (at s x y) (at t x y) (at u x y)
unfolding determinant_of
table-determinant s t u x y = table-dot s (cross_of_tables t u) x y ∙ ap (dot_of (at s x y)) (at-cross t u x y)

table-blended : (p q by : List (List ℤ)) (x y : ℤ) → value_of_table (sum_of_tables p (product_of_tables by q)) x y ≡ value_of_table p x y +ℤ value_of_table by x y *ℤ value_of_table q x y
table-blended p q by x y = table-sum p (product_of_tables by q) x y ∙ ap (λ v. value_of_table p x y +ℤ v) (table-product by q x y)

at-blend : (s t : Tables) (by : List (List ℤ)) (x y : ℤ) → at (blend_of_tables s t by) x y ≡ blend_of (at s x y) (at t x y) (value_of_table by x y)
unfolding blend_of
at-blend s t by x y = same_triple (table-blended s.a t.a by x y) (table-blended s.b t.b by x y) (table-blended s.c t.c by x y)

-- the line that a cut meets
line_of : List (List ℤ) → Tables
line_of by = of_tables (constant_table (pos 1)) (constant_table (pos 0)) (multiple_of_table (negsuc 0) by)

at-cut : (s : Tables) (by : List (List ℤ)) (x y : ℤ) → at (cut_of_tables s by) x y ≡ cut_of (at s x y) (value_of_table by x y)
unfolding cut_of line_of
at-cut s by x y =
    let minus : value_of_table (multiple_of_table (negsuc 0) by) x y ≡ neg_ℤ (value_of_table by x y) = omega (arith, ints, table-multiple (negsuc 0) by x y) in
    at-cross s (line_of by) x y ∙ ap (cross_of (at s x y)) (same_triple (table-constant (pos 1) x y) (table-constant (pos 0) x y) minus)

table-parameter : (v : ℕ → ℤ) (m q : ℕ) (x y : ℤ) → value_of_table (parameter_table v m q) x y ≡ with_pair v m x y q
table-parameter v m q x y =
    cond_both (q == 2 * m + 1) second_table (if q == 2 * m then first_table else constant_table (v q)) (λ t. value_of_table t x y ≡ with_pair v m x y q)
    (λ t. table-second x y ∙ rw t refl)
    (λ t. cond_both (q == 2 * m) first_table (constant_table (v q)) (λ u. value_of_table u x y ≡ with_pair v m x y q) (λ u. table-first x y ∙ rw (t, u) refl) (λ u. table-constant (v q) x y ∙ rw (t, u) refl))

made_value : (d : Def) (n m : ℕ) (v : ℕ → ℤ) (x y : ℤ) (f : ℕ → Tables) (g : ℕ → Triple) → AtNamed d (λ k. at (f k) x y ≡ g k) → at (by_def (table_algebra v m) n d f) x y ≡ by_def (triple_algebra (with_pair v m x y)) n d g
made_value Free n m v x y f g s = same_triple (table-parameter v m (2 * n) x y) (table-parameter v m (2 * n + 1) x y) (table-constant (pos 1) x y)
made_value (Fixed a b c) n m v x y f g s = same_triple (table-constant a x y) (table-constant b x y) (table-constant c x y)
made_value (Cut k) n m v x y f g s = at-cut (f k) (parameter_table v m (2 * n)) x y ∙ ap₂ cut_of s (table-parameter v m (2 * n) x y)
made_value (Blend k l) n m v x y f g s =
    at-blend (f k) (f l) (parameter_table v m (2 * n)) x y ∙ (λ i. blend_of (s.0 i) (s.1 i) (table-parameter v m (2 * n) x y i))
made_value (Cross k l) n m v x y f g s = at-cross (f k) (f l) x y ∙ ap₂ cross_of s.0 s.1

-- ---- total degrees
pub record AreWithin (degree : ℕ) (s : Tables) : Type 0 where
  pub a : IsTriangle (suc degree) s.a
  pub b : IsTriangle (suc degree) s.b
  pub c : IsTriangle (suc degree) s.c

higher : (m n : ℕ) (p : List (List ℤ)) → m ≤ n → IsTriangle (suc m) p → IsTriangle (suc n) p
higher m n p l h = triangle_wider (suc m) (suc n) p (omega arith) h

wider : (m n : ℕ) (s : Tables) → m ≤ n → AreWithin m s → AreWithin n s
wider m n s l w = record { a = higher m n s.a l w.a; b = higher m n s.b l w.b; c = higher m n s.c l w.c }

within-cross : (s t : Tables) (m n : ℕ) → AreWithin m s → AreWithin n t → AreWithin (m + n) (cross_of_tables s t)
within-cross s t m n p q = record {
  a = triangle-minor m n s.b t.c s.c t.b p.b q.c p.c q.b;
  b = triangle-minor m n s.c t.a s.a t.c p.c q.a p.a q.c;
  c = triangle-minor m n s.a t.b s.b t.a p.a q.b p.b q.a;
}

triangle-dot : (s t : Tables) (m n : ℕ) → AreWithin m s → AreWithin n t → IsTriangle (suc (m + n)) (dot_of_tables s t)
triangle-dot s t m n p q =
    triangle-sum (suc (m + n)) (sum_of_tables (product_of_tables s.a t.a) (product_of_tables s.b t.b)) (product_of_tables s.c t.c)
    (triangle-sum (suc (m + n)) (product_of_tables s.a t.a) (product_of_tables s.b t.b) (triangle-product m n s.a t.a p.a q.a) (triangle-product m n s.b t.b p.b q.b))
    (triangle-product m n s.c t.c p.c q.c)

triangle-blended : (p q by : List (List ℤ)) (l m n : ℕ) → IsTriangle (suc l) p → IsTriangle (suc m) by → IsTriangle (suc n) q → IsTriangle (suc (max l (m + n))) (sum_of_tables p (product_of_tables by q))
triangle-blended p q by l m n f g h =
    triangle-sum (suc (max l (m + n))) p (product_of_tables by q) (higher l (max l (m + n)) p (omega arith) f) (higher (m + n) (max l (m + n)) (product_of_tables by q) (omega arith) (triangle-product m n by q g h))

within-blend : (s t : Tables) (by : List (List ℤ)) (l m n : ℕ) → AreWithin l s → IsTriangle (suc m) by → AreWithin n t → AreWithin (max l (m + n)) (blend_of_tables s t by)
within-blend s t by l m n p h q = record {
  a = triangle-blended s.a t.a by l m n p.a h q.a;
  b = triangle-blended s.b t.b by l m n p.b h q.b;
  c = triangle-blended s.c t.c by l m n p.c h q.c;
}

triangle-constant : (z : ℤ) (n : ℕ) → IsTriangle (suc n) (constant_table z)
triangle-constant z n = (omega arith, tt)

within-cut : (s : Tables) (by : List (List ℤ)) (m n : ℕ) → AreWithin m s → IsTriangle (suc n) by → AreWithin (m + n) (cut_of_tables s by)
unfolding line_of
within-cut s by m n p h = within-cross s (line_of by) m n p (record { a = triangle-constant (pos 1) n; b = triangle-constant (pos 0) n; c = triangle-multiple (suc n) (negsuc 0) by h })

-- the parameters of the element have degree 1
triangle-parameter : (v : ℕ → ℤ) (m q d : ℕ) → ((q ≡ 2 * m) ⊎ (q ≡ 2 * m + 1) → 1 ≤ d) → IsTriangle (suc d) (parameter_table v m q)
triangle-parameter v m q d h =
    cond_both (q == 2 * m + 1) second_table (if q == 2 * m then first_table else constant_table (v q)) (IsTriangle (suc d))
    (λ t. higher 1 d second_table (h (inr (eqb-true q (2 * m + 1) t))) (omega arith, tt))
    (λ t. cond_both (q == 2 * m) first_table (constant_table (v q)) (IsTriangle (suc d)) (λ u. higher 1 d first_table (h (inl (eqb-true q (2 * m) u))) (omega arith, (omega arith, tt))) (λ u. triangle-constant (v q) d))

triangle-other : (v : ℕ → ℤ) (n m : ℕ) → (2 * n == 2 * m) ≡ false → IsTriangle (suc 0) (parameter_table v m (2 * n))
triangle-other v n m t =
    let other : (2 * n == 2 * m + 1) ≡ false = grind (arith, nat_tests) in
    rw (other, t) (triangle-constant (v (2 * n)) 0)

own_degree : (n m q : ℕ) → (q ≡ 2 * n) ⊎ (q ≡ 2 * n + 1) → (q ≡ 2 * m) ⊎ (q ≡ 2 * m + 1) → 1 ≤ (if 2 * n == 2 * m || 2 * n + 1 == 2 * m then 1 else 0)
own_degree n m q h e = grind (arith, nat_tests)

made_within : (d : Def) (n m : ℕ) (v : ℕ → ℤ) (f : ℕ → Tables) (g : ℕ → ℕ) → (2 * n ≡ 2 * m → AtNamed d (λ k. g k ≡ 0)) → AtNamed d (λ k. AreWithin (g k) (f k)) → AreWithin (by_def (degree_algebra (2 * m)) n d g) (by_def (table_algebra v m) n d f)
made_within Free n m v f g own s = record {
  a = triangle-parameter v m (2 * n) _ (own_degree n m (2 * n) (inl refl));
  b = triangle-parameter v m (2 * n + 1) _ (own_degree n m (2 * n + 1) (inr refl));
  c = triangle-constant (pos 1) _;
}
made_within (Fixed a b c) n m v f g own s = record { a = triangle-constant a 0; b = triangle-constant b 0; c = triangle-constant c 0 }
made_within (Cut k) n m v f g own s =
    cond_both (2 * n == 2 * m) 1 (g k) (λ d. AreWithin d (cut_of_tables (f k) (parameter_table v m (2 * n))))
    (λ t. wider (g k + 1) 1 _ (omega (arith, own (eqb-true (2 * n) (2 * m) t))) (within-cut (f k) (parameter_table v m (2 * n)) (g k) 1 s (triangle-parameter v m (2 * n) 1 (λ q. omega arith))))
    (λ t. wider (g k + 0) (g k) _ (omega arith) (within-cut (f k) (parameter_table v m (2 * n)) (g k) 0 s (triangle-other v n m t)))
made_within (Blend k l) n m v f g own s =
    cond_both (2 * n == 2 * m) 1 (max (g k) (g l)) (λ d. AreWithin d (blend_of_tables (f k) (f l) (parameter_table v m (2 * n))))
    (λ t. let none = own (eqb-true (2 * n) (2 * m) t) in
    wider (max (g k) (1 + g l)) 1 _ (omega (arith, none.0, none.1)) (within-blend (f k) (f l) (parameter_table v m (2 * n)) (g k) 1 (g l) s.0 (triangle-parameter v m (2 * n) 1 (λ q. omega arith)) s.1))
    (λ t. wider (max (g k) (0 + g l)) (max (g k) (g l)) _ (omega arith) (within-blend (f k) (f l) (parameter_table v m (2 * n)) (g k) 0 (g l) s.0 (triangle-other v n m t) s.1))
made_within (Cross k l) n m v f g own s = within-cross (f k) (f l) (g k) (g l) s.0 s.1

module _ (es : List Element) (c : IsConstruction es) (v : ℕ → ℤ) (m : ℕ) where
  -- each coordinate is the value of its table
  value_of_tables : (x y : ℤ) (n : ℕ) → at (tables_of es n v m) x y ≡ triple_at es n (with_pair v m x y)
  value_of_tables x y =
      related es c (table_algebra v m) (triple_algebra (with_pair v m x y)) (λ n s t. at s x y ≡ t) (λ n q. refl)
      (λ n e q s. made_value e.def n m v x y (computed (table_algebra v m) es) (computed (triple_algebra (with_pair v m x y)) es) (at_named _ (λ k. at (tables_of es k v m) x y ≡ triple_at es k (with_pair v m x y)) e.def (λ k r. r.2) s))

  -- and its total degree is at most the degree
  tables_within : (n : ℕ) → AreWithin (degree_of es n (2 * m)) (tables_of es n v m)
  tables_within =
      related es c (table_algebra v m) (degree_algebra (2 * m)) (λ n s d. AreWithin d s) (λ n q. record { a = tt; b = tt; c = tt })
      (λ n e q s. made_within e.def n m v (computed (table_algebra v m) es) (computed (degree_algebra (2 * m)) es)
      (λ own. at_named _ (λ k. degree_of es k (2 * m) ≡ 0) e.def (λ k r. degree_later es c (2 * m) k (omega (arith, r.0, own))) s)
      (at_named _ (λ k. AreWithin (degree_of es k (2 * m)) (tables_of es k v m)) e.def (λ k r. r.2) s))

  pub coordinate_values : (x y : ℤ) (n : ℕ) → values_of_tables (coordinate_tables (tables_of es n v m)) x y ≡ coordinates (triple_at es n (with_pair v m x y))
  coordinate_values x y n = ap coordinates (value_of_tables x y n)

  pub part_values : (x y : ℤ) (s : Statement) → values_of_tables (part_tables es s v m) x y ≡ parts_at es s (with_pair v m x y)
  part_values x y (statement.Null n) = coordinate_values x y n
  part_values x y (statement.Same n k) = ap coordinates (at-cross (tables_of es n v m) (tables_of es k v m) x y ∙ ap₂ cross_of (value_of_tables x y n) (value_of_tables x y k))
  part_values x y (statement.On n k) = ap (λ z. z ∷ []) (table-dot (tables_of es n v m) (tables_of es k v m) x y ∙ ap₂ (λ s t. dot_of s t) (value_of_tables x y n) (value_of_tables x y k))
  part_values x y (statement.Triple n k l) =
      ap (λ z. z ∷ []) (table-determinant (tables_of es n v m) (tables_of es k v m) (tables_of es l v m) x y ∙ (λ i. determinant_of (value_of_tables x y n i) (value_of_tables x y k i) (value_of_tables x y l i)))

  coordinates_low : (degree : ℕ) (s : Tables) → AreWithin degree s → AreTriangles degree (coordinate_tables s)
  coordinates_low degree s w = (w.a, (w.b, (w.c, tt)))

  pub coordinate_degrees : (n : ℕ) → AreTriangles (degree_of es n (2 * m)) (coordinate_tables (tables_of es n v m))
  coordinate_degrees n = coordinates_low _ _ (tables_within n)

  pub part_degrees : (s : Statement) → AreTriangles (statement_degree es s (2 * m)) (part_tables es s v m)
  part_degrees (statement.Null n) = coordinate_degrees n
  part_degrees (statement.Same n k) = coordinates_low _ _ (within-cross (tables_of es n v m) (tables_of es k v m) (degree_of es n (2 * m)) (degree_of es k (2 * m)) (tables_within n) (tables_within k))
  part_degrees (statement.On n k) = (triangle-dot (tables_of es n v m) (tables_of es k v m) (degree_of es n (2 * m)) (degree_of es k (2 * m)) (tables_within n) (tables_within k), tt)
  part_degrees (statement.Triple n k l) =
      let p = 2 * m in
      let sum : degree_of es n p + (degree_of es k p + degree_of es l p) ≤ degree_of es n p + degree_of es k p + degree_of es l p = omega arith in
      (higher _ _ _ sum (triangle-dot (tables_of es n v m) (cross_of_tables (tables_of es k v m) (tables_of es l v m)) (degree_of es n p) (degree_of es k p + degree_of es l p) (tables_within n) (within-cross (tables_of es k v m) (tables_of es l v m) (degree_of es k p) (degree_of es l p) (tables_within k) (tables_within l))), tt)

-- ---- both parameters of a free element
same_made : (d : Def) (n m : ℕ) (f g : ℕ → ℕ) → (n ≡ m → d ≡ Free) → AtNamed d (λ k. f k ≡ g k) → by_def (degree_algebra (2 * m)) n d f ≡ by_def (degree_algebra (2 * m + 1)) n d g
same_made Free n m f g h s = grind (arith, nat_tests)
same_made (Fixed a b c) n m f g h s = refl
same_made (Cut k) n m f g h s =
    let apart : n ≡ m → ⊥ = λ e. let other = h e in cc in
    grind (arith, nat_tests)
same_made (Blend k l) n m f g h s =
    let apart : n ≡ m → ⊥ = λ e. let other = h e in cc in
    let larger : max (f k) (f l) ≡ max (g k) (g l) = ap₂ max s.0 s.1 in
    grind (arith, nat_tests)
same_made (Cross k l) n m f g h s = ap₂ (λ a b. a + b) s.0 s.1

module _ (es : List Element) (c : IsConstruction es) (m : ℕ) (x : Element) (here : numbered es m ≡ Some x) (free : x.def ≡ Free) where
  -- have one degree
  pub same_degree : (n : ℕ) → degree_of es n (2 * m) ≡ degree_of es n (2 * m + 1)
  same_degree =
      related es c (degree_algebra (2 * m)) (degree_algebra (2 * m + 1)) (λ n d e. d ≡ e) (λ n q. refl)
      (λ n e q s. same_made e.def n m (computed (degree_algebra (2 * m)) es) (computed (degree_algebra (2 * m + 1)) es)
      (λ own. let same : e ≡ x = (let there = rw own at q in cc) in ap (λ (y : Element). y.def) same ∙ free)
      (at_named _ (λ k. degree_of es k (2 * m) ≡ degree_of es k (2 * m + 1)) e.def (λ k r. r.2) s))

  pub same_statement_degree : (s : Statement) → statement_degree es s (2 * m) ≡ statement_degree es s (2 * m + 1)
  same_statement_degree (statement.Null n) = same_degree n
  same_statement_degree (statement.Same n k) = ap₂ (λ a b. a + b) (same_degree n) (same_degree k)
  same_statement_degree (statement.On n k) = ap₂ (λ a b. a + b) (same_degree n) (same_degree k)
  same_statement_degree (statement.Triple n k l) = λ i. same_degree n i + same_degree k i + same_degree l i
