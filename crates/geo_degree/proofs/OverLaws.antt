-- A statement over any axes that rise: its parts are polynomials in the axes, and it holds where these are all 0.
-- lemmas for other crates
use Rattle.std.proofs.Common.{◌≡◌, ◌∙◌, sym, ap, subst, refl, ℕ, zero, suc, ◌+◌, ◌*◌, ◌/◌, ◌<◌, ◌≤◌, ⊎_elim, Bool, true, false, List, [], ◌∷◌, length, get_or, set, AllPairs, ℤ, pos, unsigned_abs, if◌then◌else◌, arith, length-set}
use Rattle.std.specs.List.{AllZip}
use Rattle.std.specs.Prelude.{◌==◌}
use Rattle.std.proofs.lemmas.Bool.{cond_both, eqb-true, eqb-false}
use Rattle.std.proofs.lemmas.Bool.Decides.{nat_tests}
use Rattle.std.proofs.lemmas.List.{length-map}
use Rattle.geo_law.specs.Coefficients.{value_at}
use Rattle.geo_law.specs.Tables.{value_of_table, IsTriangle}
use Rattle.geo_sketch.specs.declared.elements.Element.{Element}
use Rattle.geo_sketch.specs.declared.statements.Statement.{Statement}
use Rattle.geo_sketch.specs.Assignments.{assignment_of}
use Rattle.geo_sketch.specs.Constructions.{IsConstruction}
use Rattle.geo_sketch.specs.Statements.{Holds, parts_at}
use Rattle.geo_triple.specs.Zero.{AreZero}
use Rattle.geo_height.specs.Bounds.{AreAtMost}
use Rattle.geo_height.proofs.HeightLaws.{parts_bounded}
use Rattle.geo_degree.specs.declared.grids.Axis.{Axis}
use Rattle.geo_degree.specs.Degrees.{statement_degree}
use Rattle.geo_degree.specs.Grids.{at_axes, axis, values_on}
use Rattle.geo_degree.specs.PairPolynomials.{AreTriangles, part_tables, values_of_tables, with_pair}
use Rattle.geo_degree.specs.Polynomials.{part_lists, values_at, AreShort, with_value}
use Rattle.geo_degree.specs.Verdicts.{ArePaired, IsAmong, coefficients_over, height_over, parts_over, table_over}
use Rattle.geo_degree.proofs.AgreementLaws.{parts_agree}
use Rattle.geo_degree.proofs.HoldingLaws.{zero_everywhere}
use Rattle.geo_degree.proofs.PairLaws.{part_degrees}
use Rattle.geo_degree.proofs.PairLaws as pair
use Rattle.geo_degree.proofs.PolynomialLaws.{part_values, part_lengths}

-- ---- what is given for axes
chosen : {X Y : Type 0} (R : X → Y → Type 0) (b : Bool) (x u : X) (y w : Y) → R x y → R u w → R (if b then x else u) (if b then y else w)
chosen R true x u y w h g = h
chosen R false x u y w h g = g

-- where two lists are related entry by entry, so is what they give each parameter
pub at_axes_related : {X Y : Type 0} (R : X → Y → Type 0) (x : X) (y : Y) → R x y → (axes : List Axis) (xs : List X) (ys : List Y) → AllZip R xs ys → (p : ℕ) → R (at_axes x axes xs p) (at_axes y axes ys p)
at_axes_related R x y h [] xs ys z p = h
at_axes_related R x y h (a ∷ axes) [] [] z p = h
at_axes_related R x y h (a ∷ axes) [] (w ∷ ys) z p = absurd z
at_axes_related R x y h (a ∷ axes) (u ∷ xs) [] z p = absurd z
at_axes_related R x y h (a ∷ axes) (u ∷ xs) (w ∷ ys) z p =
    chosen R (a.param == p) u (at_axes x axes xs p) w (at_axes y axes ys p) z.0 (at_axes_related R x y h axes xs ys z.1 p)

-- where parameters rise, another value at a place is another value of the parameter there
pub at_axes-set : (axes : List Axis) → AllPairs (λ (a b : Axis). a.param < b.param) axes → (xs : List ℤ) (place : ℕ) (d : Axis) (x : ℤ) → length xs ≡ length axes → place < length axes → (q : ℕ) → at_axes (pos 0) axes (set xs place x) q ≡ with_value (at_axes (pos 0) axes xs) (get_or axes place d).param x q
at_axes-set [] rise xs place d x l m q = absurd (omega arith)
at_axes-set (a ∷ axes) rise [] place d x l m q = absurd (omega arith)
at_axes-set (a ∷ axes) rise (y ∷ ys) zero d x l m q = grind (arith, nat_tests)
at_axes-set (a ∷ axes) rise (y ∷ ys) (suc place) d x l m q =
    let later : AllPairs (λ (a b : Axis). a.param < b.param) axes = λ i j e g h. rise (suc i) (suc j) e (omega arith) (omega arith) in
    let above : a.param < (get_or axes place d).param = rise 0 (suc place) d (omega arith) (omega arith) in
    let rest = at_axes-set axes later ys place d x (omega arith) (omega arith) q in
    grind (arith, nat_tests)

-- ---- one of the parts
part_at_value : (ps : List (List ℤ)) (k : ℕ) (x : ℤ) → get_or (values_at ps x) k (pos 0) ≡ value_at (get_or ps k []) x
part_at_value [] k x = refl
part_at_value (p ∷ ps) zero x = refl
part_at_value (p ∷ ps) (suc k) x = part_at_value ps k x

part_short : (count : ℕ) (ps : List (List ℤ)) (k : ℕ) → AreShort count ps → length (get_or ps k []) ≤ count
part_short count [] k h = omega arith
part_short count (p ∷ ps) zero h = h.0
part_short count (p ∷ ps) (suc k) h = part_short count ps k h.1

part_within : (h : ℕ) (zs : List ℤ) (k : ℕ) → AreAtMost h zs → unsigned_abs (get_or zs k (pos 0)) ≤ h
part_within h [] k w = omega arith
part_within h (z ∷ zs) zero w = w.0
part_within h (z ∷ zs) (suc k) w = part_within h zs k w.1

part_of_tables : (ts : List (List (List ℤ))) (k : ℕ) (x y : ℤ) → get_or (values_of_tables ts x y) k (pos 0) ≡ value_of_table (get_or ts k []) x y
part_of_tables [] k x y = refl
part_of_tables (t ∷ ts) zero x y = refl
part_of_tables (t ∷ ts) (suc k) x y = part_of_tables ts k x y

part_triangle : (degree : ℕ) (ts : List (List (List ℤ))) (k : ℕ) → AreTriangles degree ts → IsTriangle (suc degree) (get_or ts k [])
part_triangle degree [] k h = tt
part_triangle degree (t ∷ ts) zero h = h.0
part_triangle degree (t ∷ ts) (suc k) h = part_triangle degree ts k h.1

-- the value of part k at xs
abbrev part_over : List Element → Statement → List Axis → ℕ → List ℤ → ℤ
part_over es s axes k xs = get_or (parts_over es s axes xs) k (pos 0)

-- ---- polynomials in the axes
module _ (es : List Element) (c : IsConstruction es) (s : Statement) (axes : List Axis) where
  pub short_over : (xs : List ℤ) (k place : ℕ) → length (coefficients_over es s axes xs k place) ≤ statement_degree es s (get_or axes place (axis 0 0)).param + 1
  short_over xs k place =
      let p = (get_or axes place (axis 0 0)).param in
      let v = at_axes (pos 0) axes xs in
      part_short (statement_degree es s p + 1) (part_lists es s v p) k (part_lengths es c v p s)

  pub low_over : (xs : List ℤ) (k : ℕ) (p : ℕ × ℕ) → ArePaired axes p → IsTriangle (suc (statement_degree es s (get_or axes p.0 (axis 0 0)).param)) (table_over es s axes xs k p)
  low_over xs k p at =
      let m = (get_or axes p.0 (axis 0 0)).param / 2 in
      let v = at_axes (pos 0) axes xs in
      let even : 2 * m ≡ (get_or axes p.0 (axis 0 0)).param = omega (arith, at.2.1) in
      subst (λ n. IsTriangle (suc n) (get_or (part_tables es s v m) k [])) (ap (statement_degree es s) even)
      (part_triangle (statement_degree es s (2 * m)) (part_tables es s v m) k (part_degrees es c v m s))

  pub bounded_over : (xs : List ℤ) (ms : List ℕ) (k : ℕ) → AllZip (λ x m. unsigned_abs x ≤ m) xs ms → unsigned_abs (part_over es s axes k xs) ≤ height_over es s axes ms
  bounded_over xs ms k within =
      part_within (height_over es s axes ms) (parts_at es s (at_axes (pos 0) axes xs)) k
      (parts_bounded es c (at_axes (pos 0) axes xs) (at_axes 0 axes ms) (at_axes_related (λ x m. unsigned_abs x ≤ m) (pos 0) 0 (omega arith) axes xs ms within) s)

module _ (es : List Element) (c : IsConstruction es) (s : Statement) (axes : List Axis) (rise : AllPairs (λ (a b : Axis). a.param < b.param) axes) where
  pub agrees_over : (xs : List ℤ) (k place : ℕ) (x : ℤ) → length xs ≡ length axes → place < length axes → part_over es s axes k (set xs place x) ≡ value_at (coefficients_over es s axes xs k place) x
  agrees_over xs k place x l m =
      let p = (get_or axes place (axis 0 0)).param in
      let v = at_axes (pos 0) axes xs in
      let same : at_axes (pos 0) axes (set xs place x) ≡ with_value v p x = λ i q. at_axes-set axes rise xs place (axis 0 0) x l m q i in
      ap (λ w. get_or (parts_at es s w) k (pos 0)) same
      ∙ ap (λ zs. get_or zs k (pos 0)) (sym (part_values es c v p x s))
      ∙ part_at_value (part_lists es s v p) k x

  pub pairs_agree_over : (xs : List ℤ) (k : ℕ) (p : ℕ × ℕ) (x y : ℤ) → length xs ≡ length axes → ArePaired axes p → part_over es s axes k (set (set xs p.0 x) p.1 y) ≡ value_of_table (table_over es s axes xs k p) x y
  pairs_agree_over xs k p x y l at =
      let d = axis 0 0 in
      let m = (get_or axes p.0 d).param / 2 in
      let v = at_axes (pos 0) axes xs in
      let even : (get_or axes p.0 d).param ≡ 2 * m = omega (arith, at.2.1) in
      let odd : (get_or axes p.1 d).param ≡ 2 * m + 1 = omega (arith, at.2.1, at.2.2) in
      let outer : at_axes (pos 0) axes (set (set xs p.0 x) p.1 y) ≡ with_value (at_axes (pos 0) axes (set xs p.0 x)) (get_or axes p.1 d).param y = λ i q. at_axes-set axes rise (set xs p.0 x) p.1 d y (length-set xs p.0 x ∙ l) at.1 q i in
      let inner : at_axes (pos 0) axes (set xs p.0 x) ≡ with_value v (get_or axes p.0 d).param x = λ i q. at_axes-set axes rise xs p.0 d x l at.0 q i in
      let same : at_axes (pos 0) axes (set (set xs p.0 x) p.1 y) ≡ with_pair v m x y = outer ∙ (λ i. with_value (inner i) (odd i) y) ∙ ap (λ n. with_value (with_value v n x) (2 * m + 1) y) even in
      ap (λ w. get_or (parts_at es s w) k (pos 0)) same
      ∙ ap (λ zs. get_or zs k (pos 0)) (sym (pair.part_values es c v m x y s))
      ∙ part_of_tables (part_tables es s v m) k x y

-- ---- where all parameters that matter are axes
-- an assignment's own values at axes give its value back at each of them
pub at_own_axes : (axes : List Axis) (v : ℕ → ℤ) (p : ℕ) → IsAmong axes p → at_axes (pos 0) axes (values_on axes v) p ≡ v p
at_own_axes [] v p h = absurd h
at_own_axes (a ∷ axes) v p h =
    cond_both (a.param == p) (v a.param) (at_axes (pos 0) axes (values_on axes v) p) (λ z. z ≡ v p) (λ t. ap v (eqb-true a.param p t))
    (λ t. ⊎_elim (λ e. absurd (eqb-false a.param p t e)) (λ g. at_own_axes axes v p g) h)

module _ (es : List Element) (c : IsConstruction es) (s : Statement) (axes : List Axis) (all : (p : ℕ) → 0 < statement_degree es s p → IsAmong axes p) where
  pub parts_by_any_axes : (v : ℕ → ℤ) → parts_at es s v ≡ parts_over es s axes (values_on axes v)
  parts_by_any_axes v = parts_agree es c v (at_axes (pos 0) axes (values_on axes v)) s (λ p h. sym (at_own_axes axes v p (all p h)))

  pub zero_over : Holds es s → (xs : List ℤ) → AreZero (parts_over es s axes xs)
  zero_over holds xs = zero_everywhere es c s holds (at_axes (pos 0) axes xs)

  pub holds_over : ((xs : List ℤ) → length xs ≡ length axes → AreZero (parts_over es s axes xs)) → Holds es s
  holds_over clear entries =
      let v = assignment_of entries in
      subst AreZero (sym (parts_by_any_axes v)) (clear (values_on axes v) (length-map axes (λ (a : Axis). v a.param)))
