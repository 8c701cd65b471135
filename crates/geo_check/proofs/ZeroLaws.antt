-- A statement that is 0 at all points of a grid with enough values is 0 everywhere: one entry after
-- the other its parameters become free, since a polynomial has no more roots than its degree.
use Rattle.std.proofs.Common.{◌≡◌, ◌∙◌, sym, ap, subst, refl, ℕ, zero, suc, ◌+◌, ◌<◌, ◌≤◌, ◌==◌, Bool, true, false, if◌then◌else◌, List, [], ◌∷◌, length, get_or, set, All, Contains, ℤ, pos, arith}
use Rattle.std.specs.List.{AllByRecursion}
use Rattle.std.proofs.lemmas.Bool.{cond_both, eqb-true, eqb-false}
use Rattle.std.specs.Prelude.{◌||◌}
use Rattle.std.proofs.lemmas.Bool.Decides.{nat_tests}
use Rattle.std.proofs.lemmas.List.Elements.{All-cons, All-from_get_or}
use Rattle.geo_law.specs.Coefficients.{value_at, AreDistinct, IsRoot}
use Rattle.geo_law.specs.Tables.{value_of_table, IsTriangle}
use Rattle.geo_law.proofs.CoefficientLaws.{value_by_roots}
use Rattle.geo_law.proofs.GridLaws.{zero_by_triangles}
use Rattle.geo_law.proofs.TableLaws.{triangle_wider}
use Rattle.geo_law.specs.ExampleLaws.{bilinear_pairs, only}
use Rattle.geo_law.specs.Triangles.{stands_in, values_for, HasEnoughForTriangles}
use Rattle.geo_sketch.specs.declared.elements.Element.{Element}
use Rattle.geo_sketch.specs.declared.statements.Statement.{Statement}
use Rattle.geo_sketch.specs.Assignments.{first_parameter, second_parameter}
use Rattle.geo_sketch.specs.Constructions.{IsConstruction}
use Rattle.geo_sketch.specs.Statements.{parts_at}
use Rattle.geo_triple.specs.Zero.{AreZero}
use Rattle.geo_degree.specs.Degrees.{statement_degree}
use Rattle.geo_degree.specs.PairPolynomials.{part_tables, values_of_tables, with_pair, AreTriangles}
use Rattle.geo_degree.specs.Polynomials.{part_lists, values_at, with_value, AreShort}
use Rattle.geo_degree.proofs.PairLaws.{part_degrees}
use Rattle.geo_degree.proofs.PairLaws as pair
use Rattle.geo_degree.proofs.PolynomialLaws.{part_lengths, part_values}
use Rattle.geo_degree.proofs.ZeroLaws.{are_zero, zero_at_place}
use Rattle.geo_cert.specs.Grids.{Grid, one, two}
use Rattle.geo_check.specs.Degrees.{is_among}
use Rattle.geo_check.specs.Instances.{is_zero_on}
use Rattle.geo_check.proofs.ListLaws.{all_pass, decides_zero, triangle_pass}

-- ---- parts by their coefficients
part_value : (ps : List (List ℤ)) (k : ℕ) (x : ℤ) → get_or (values_at ps x) k (pos 0) ≡ value_at (get_or ps k []) x
part_value [] k x = refl
part_value (p ∷ ps) zero x = refl
part_value (p ∷ ps) (suc k) x = part_value ps k x

part_short : (count : ℕ) (ps : List (List ℤ)) (k : ℕ) → AreShort count ps → length (get_or ps k []) ≤ count
part_short count [] k h = omega arith
part_short count (p ∷ ps) zero h = h.0
part_short count (p ∷ ps) (suc k) h = part_short count ps k h.1

part_of_tables : (ts : List (List (List ℤ))) (k : ℕ) (x y : ℤ) → get_or (values_of_tables ts x y) k (pos 0) ≡ value_of_table (get_or ts k []) x y
part_of_tables [] k x y = refl
part_of_tables (t ∷ ts) zero x y = refl
part_of_tables (t ∷ ts) (suc k) x y = part_of_tables ts k x y

part_triangle : (degree : ℕ) (ts : List (List (List ℤ))) (k : ℕ) → AreTriangles degree ts → IsTriangle (suc degree) (get_or ts k [])
part_triangle degree [] k h = tt
part_triangle degree (t ∷ ts) zero h = h.0
part_triangle degree (t ∷ ts) (suc k) h = part_triangle degree ts k h.1

-- ---- assignments
-- with its own value for a parameter an assignment is itself
own_value : (w : ℕ → ℤ) (p : ℕ) → with_value w p (w p) ≡ w
own_value w p = λ i r. there r i
  where
    there : (r : ℕ) → with_value w p (w p) r ≡ w r
    there r = cond_both (r == p) (w p) (w r) (λ z. z ≡ w r) (λ t. ap w (sym (eqb-true r p t))) (λ t. refl)

own_values : (w : ℕ → ℤ) (n : ℕ) → with_pair w n (w (first_parameter n)) (w (second_parameter n)) ≡ w
own_values w n = ap (λ u. with_value u (second_parameter n) (w (second_parameter n))) (own_value w (first_parameter n)) ∙ own_value w (second_parameter n)

-- w is v but for these parameters
abbrev pub IsElsewhere : (ℕ → ℤ) → (ℕ → ℤ) → List ℕ → Type 0
IsElsewhere v w ps = (r : ℕ) → is_among ps r ≡ false → w r ≡ v r

-- so it is where both have one value for a parameter
elsewhere_with : (v w : ℕ → ℤ) (p : ℕ) (ps : List ℕ) (x : ℤ) → IsElsewhere v w (p ∷ ps) → IsElsewhere (with_value v p x) (with_value w p x) ps
elsewhere_with v w p ps x off r t = by_first (r == p) (p == r) refl refl
  where
    by_first : (a b : Bool) → (r == p) ≡ a → (p == r) ≡ b → (if a then x else w r) ≡ (if a then x else v r)
    by_first true b e f = refl
    by_first false true e f = absurd (eqb-false r p e (sym (eqb-true p r f)))
    by_first false false e f = off r (subst (λ (b : Bool). (b || is_among ps r) ≡ false) (sym f) t)

-- ---- a grid
-- the parameters of its entries
abbrev pub parameters_on : List Grid → List ℕ
parameters_on [] = []
parameters_on (one p xs ∷ gs) = p ∷ parameters_on gs
parameters_on (two p q xs ys ∷ gs) = p ∷ q ∷ parameters_on gs

-- an entry has different values, more than the degree of the statement
abbrev pub HasEnough : List Element → Statement → Grid → Type 0
HasEnough es s (one p xs) = AreDistinct xs × (statement_degree es s p < length xs)
HasEnough es s (two p q xs ys) =
    AreDistinct xs × AreDistinct ys × (length xs ≡ length ys) × (statement_degree es s p < length xs) × ((n : ℕ) × ((p ≡ first_parameter n) × (q ≡ second_parameter n)))

-- ---- one part in the two parameters of an element
-- the first value again, and the second again
first_again : (w : ℕ → ℤ) (n : ℕ) (a b x : ℤ) → with_value (with_pair w n a b) (first_parameter n) x ≡ with_pair w n x b
first_again w n a b x = λ i r. there r i
  where
    there : (r : ℕ) → with_value (with_pair w n a b) (first_parameter n) x r ≡ with_pair w n x b r
    there r = grind (arith, nat_tests)

second_again : (w : ℕ → ℤ) (n : ℕ) (a b y : ℤ) → with_value (with_pair w n a b) (second_parameter n) y ≡ with_pair w n a y
second_again w n a b y = λ i r. there r i
  where
    there : (r : ℕ) → with_value (with_pair w n a b) (second_parameter n) y r ≡ with_pair w n a y r
    there r = grind (arith, nat_tests)

module _ (es : List Element) (c : IsConstruction es) (s : Statement) (n : ℕ) (w : ℕ → ℤ) (k : ℕ) where
  -- as a quantity of two variables
  abbrev first_in : List ℤ → ℤ
  first_in zs = get_or zs 0 (pos 0)

  abbrev second_in : List ℤ → ℤ
  second_in zs = get_or zs 1 (pos 0)

  abbrev value_in : List ℤ → ℤ
  value_in zs = get_or (parts_at es s (with_pair w n (first_in zs) (second_in zs))) k (pos 0)

  abbrev parameter_at : ℕ → ℕ
  parameter_at zero = first_parameter n
  parameter_at (suc place) = second_parameter n

  abbrev coefficients_in : List ℤ → ℕ → List ℤ
  coefficients_in zs place = get_or (part_lists es s (with_pair w n (first_in zs) (second_in zs)) (parameter_at place)) k []

  abbrev table_in : List ℤ → ℕ × ℕ → List (List ℤ)
  table_in zs p = get_or (part_tables es s w n) k []

  along : (u v : ℕ → ℤ) (p : ℕ) (x : ℤ) → with_value u p x ≡ v → get_or (parts_at es s v) k (pos 0) ≡ value_at (get_or (part_lists es s u p) k []) x
  along u v p x e = ap (λ t. get_or (parts_at es s t) k (pos 0)) (sym e) ∙ ap (λ zs. get_or zs k (pos 0)) (sym (part_values es c u p x s)) ∙ part_value (part_lists es s u p) k x

  agrees : (zs : List ℤ) (place : ℕ) (x : ℤ) → length zs ≡ 2 → place < 2 → value_in (set zs place x) ≡ value_at (coefficients_in zs place) x
  agrees [] place x l m = absurd (omega arith)
  agrees (a ∷ []) place x l m = absurd (omega arith)
  agrees (a ∷ b ∷ zs) zero x l m = along (with_pair w n a b) (with_pair w n x b) (first_parameter n) x (first_again w n a b x)
  agrees (a ∷ b ∷ zs) (suc zero) x l m = along (with_pair w n a b) (with_pair w n a x) (second_parameter n) x (second_again w n a b x)
  agrees (a ∷ b ∷ zs) (suc (suc place)) x l m = absurd (omega arith)

  table_value : (x y : ℤ) → get_or (parts_at es s (with_pair w n x y)) k (pos 0) ≡ value_of_table (get_or (part_tables es s w n) k []) x y
  table_value x y = ap (λ zs. get_or zs k (pos 0)) (sym (pair.part_values es c w n x y s)) ∙ part_of_tables (part_tables es s w n) k x y

  put : (zs : List ℤ) (x y : ℤ) → length zs ≡ 2 → value_in (set (set zs 0 x) 1 y) ≡ value_of_table (get_or (part_tables es s w n) k []) x y
  put [] x y l = absurd (omega arith)
  put (a ∷ []) x y l = absurd (omega arith)
  put (a ∷ b ∷ zs) x y l = table_value x y

  pairs_agree : (zs : List ℤ) (p : ℕ × ℕ) (x y : ℤ) → length zs ≡ 2 → Contains ((0, 1) ∷ []) p → value_in (set (set zs p.0 x) p.1 y) ≡ value_of_table (table_in zs p) x y
  pairs_agree zs p x y l h = subst (λ (p : ℕ × ℕ). value_in (set (set zs p.0 x) p.1 y) ≡ value_of_table (get_or (part_tables es s w n) k []) x y) (only (0, 1) p h) (put zs x y l)

  module _ (xs ys : List ℤ) (first : AreDistinct xs) (second : AreDistinct ys) (same : length xs ≡ length ys) (enough : statement_degree es s (first_parameter n) < length xs) where
    abbrev lists : List (List ℤ)
    lists = xs ∷ ys ∷ []

    low : IsTriangle (length xs) (get_or (part_tables es s w n) k [])
    low = triangle_wider (suc (statement_degree es s (first_parameter n))) (length xs) (get_or (part_tables es s w n) k []) (omega (arith, enough)) (part_triangle (statement_degree es s (first_parameter n)) (part_tables es s w n) k (part_degrees es c w n s))

    no_other : {P : Type 0} (place : ℕ) → place < 2 → stands_in ((0, 1) ∷ []) place ≡ false → P
    no_other zero l t = cc
    no_other (suc zero) l t = cc
    no_other (suc (suc place)) l t = absurd (omega arith)

    has_enough : HasEnoughForTriangles 2 ((0, 1) ∷ []) coefficients_in table_in lists
    has_enough = record {
      one_list_each = omega arith;
      distinct = All-cons AreDistinct xs (ys ∷ []) first (All-cons AreDistinct ys [] second (λ i d l. absurd (omega arith)));
      as_many = λ p h. subst (λ (p : ℕ × ℕ). length (values_for lists p.0) ≡ length (values_for lists p.1)) (only (0, 1) p h) same;
      triangles = λ zs p l h. subst (λ (p : ℕ × ℕ). IsTriangle (length (values_for lists p.0)) (get_or (part_tables es s w n) k [])) (only (0, 1) p h) low;
      enough = λ zs place l m t. no_other place m t;
    }

    -- a part that is 0 on the triangle is 0 everywhere
    pub zero_in_pair : ((i j : ℕ) → i + j < length xs → get_or (parts_at es s (with_pair w n (get_or xs i (pos 0)) (get_or ys j (pos 0)))) k (pos 0) ≡ pos 0) → (x y : ℤ) → get_or (parts_at es s (with_pair w n x y)) k (pos 0) ≡ pos 0
    zero_in_pair zeros x y =
        zero_by_triangles 2 ((0, 1) ∷ []) value_in coefficients_in table_in agrees pairs_agree lists has_enough bilinear_pairs
        (λ zs on.
        let here = on.in_pairs.0 in
        (λ i. get_or (parts_at es s (with_pair w n (here.3 i) (here.4 i))) k (pos 0)) ∙ zeros here.0 here.1 here.2)
        (x ∷ y ∷ []) (omega arith)

module _ (es : List Element) (c : IsConstruction es) (s : Statement) where
  -- 0 at enough values of one parameter
  along_one : (p : ℕ) (xs : List ℤ) (w : ℕ → ℤ) → AreDistinct xs → statement_degree es s p < length xs → ((i : ℕ) → i < length xs → AreZero (parts_at es s (with_value w p (get_or xs i (pos 0))))) → AreZero (parts_at es s w)
  along_one p xs w distinct enough zeros =
      let lists = part_lists es s w p in
      let value : (k : ℕ) (x : ℤ) → value_at (get_or lists k []) x ≡ get_or (parts_at es s (with_value w p x)) k (pos 0)
      = λ k x. sym (part_value lists k x) ∙ ap (λ zs. get_or zs k (pos 0)) (part_values es c w p x s) in
      let roots : (k : ℕ) → All (IsRoot (get_or lists k [])) xs
      = λ k. All-from_get_or (IsRoot (get_or lists k [])) xs (pos 0) (λ i l. value k (get_or xs i (pos 0)) ∙ zero_at_place (parts_at es s (with_value w p (get_or xs i (pos 0)))) k (zeros i l)) in
      are_zero (parts_at es s w) (λ k m.
      ap (λ u. get_or (parts_at es s u) k (pos 0)) (sym (own_value w p)) ∙ sym (value k (w p))
      ∙ value_by_roots (get_or lists k []) xs distinct (omega (arith, enough, part_short (statement_degree es s p + 1) lists k (part_lengths es c w p s))) (roots k) (w p))

  -- 0 on a large enough triangle in the two parameters of an element
  along_two : (n : ℕ) (xs ys : List ℤ) (w : ℕ → ℤ) → AreDistinct xs → AreDistinct ys → length xs ≡ length ys → statement_degree es s (first_parameter n) < length xs
      → ((i j : ℕ) → i + j < length xs → AreZero (parts_at es s (with_pair w n (get_or xs i (pos 0)) (get_or ys j (pos 0))))) → AreZero (parts_at es s w)
  along_two n xs ys w first second same enough zeros =
      are_zero (parts_at es s w)
      (λ k m. ap (λ u. get_or (parts_at es s u) k (pos 0)) (sym (own_values w n)) ∙ zero_in_pair es c s n w k xs ys first second same enough (λ i j l. zero_at_place (parts_at es s (with_pair w n (get_or xs i (pos 0)) (get_or ys j (pos 0)))) k (zeros i j l)) (w (first_parameter n)) (w (second_parameter n)))

  pub zero_on_all : (gs : List Grid) → AllByRecursion (HasEnough es s) gs → (v w : ℕ → ℤ) → is_zero_on es s gs v ≡ true → IsElsewhere v w (parameters_on gs) → AreZero (parts_at es s w)
  zero_on_all [] h v w t off =
      let same : w ≡ v = λ i r. off r refl i in
      subst (λ u. AreZero (parts_at es s u)) (sym same) ((decides_zero (parts_at es s v)).0 t)
  zero_on_all (one p xs ∷ gs) h v w t off =
      along_one p xs w h.0.0 h.0.1 (λ i l.
      let x = get_or xs i (pos 0) in
      zero_on_all gs h.1 (with_value v p x) (with_value w p x) (all_pass (λ x. is_zero_on es s gs (with_value v p x)) xs i (pos 0) t l) (elsewhere_with v w p (parameters_on gs) x off))
  zero_on_all (two p q xs ys ∷ gs) h v w t off =
      let n = h.0.4.0 in
      let first : p ≡ first_parameter n = h.0.4.1.0 in
      let second : q ≡ second_parameter n = h.0.4.1.1 in
      along_two n xs ys w h.0.0 h.0.1 h.0.2 (subst (λ r. statement_degree es s r < length xs) first h.0.3) (λ i j l.
      let x = get_or xs i (pos 0) in
      let y = get_or ys j (pos 0) in
      let zero = zero_on_all gs h.1 (with_value (with_value v p x) q y) (with_value (with_value w p x) q y)
      (triangle_pass (λ x y. is_zero_on es s gs (with_value (with_value v p x) q y)) xs ys i j (omega (arith, h.0.2)) t l)
      (elsewhere_with (with_value v p x) (with_value w p x) q (parameters_on gs) y (elsewhere_with v w p (q ∷ parameters_on gs) x off)) in
      subst (λ r. AreZero (parts_at es s (with_value (with_value w (first_parameter n) x) r y))) second (subst (λ r. AreZero (parts_at es s (with_value (with_value w r x) q y))) first zero))
