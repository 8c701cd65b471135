-- A table that is 0 on a triangle of points is 0 everywhere.
use Rattle.std.proofs.Common.{◌≡◌, ◌≢◌, ℕ, zero, suc, ◌+◌, ◌<◌, ◌≤◌, List, [], ◌∷◌, length, get_or, take, ℤ, pos, ◌+ℤ◌, ◌-ℤ◌, ◌*ℤ◌, All, refl, ap, ◌∙◌, sym, arith, get_or-take, length-take}
use Rattle.std.proofs.lemmas.Int.{ints}
use Rattle.std.proofs.lemmas.List.Elements.{All-from_get_or}
use Rattle.geo_algebra.proofs.Integers.{zero_from_product}
use Rattle.geo_algebra.proofs.Ring.{ring, ring_by, reads}
use Rattle.geo_law.specs.Coefficients.{value_at, sum_of_lists, multiple_of_list, AreDistinct, IsRoot}
use Rattle.geo_law.specs.Tables.{value_of_table, IsTriangle}
use Rattle.geo_law.proofs.CoefficientLaws.{value-sum, length-sum, value-multiple, length-multiple, value_by_roots, distinct_rest}

-- the coefficients in y, at x = r
abbrev pub row_at : List (List ℤ) → ℤ → List ℤ
row_at [] r = []
row_at (row ∷ rows) r = sum_of_lists row (multiple_of_list r (row_at rows r))

value-row_at : (t : List (List ℤ)) (r y : ℤ) → value_at (row_at t r) y ≡ value_of_table t r y
value-row_at [] r y = refl
value-row_at (row ∷ rows) r y =
    value-sum row (multiple_of_list r (row_at rows r)) y
    ∙ ap (λ v. value_at row y +ℤ v) (value-multiple r (row_at rows r) y ∙ ap (λ v. r *ℤ v) (value-row_at rows r y))

length-row_at : (t : List (List ℤ)) (r : ℤ) (side : ℕ) → IsTriangle side t → length (row_at t r) ≤ side
length-row_at [] r side h = omega arith
length-row_at (row ∷ rows) r zero h = absurd h
length-row_at (row ∷ rows) r (suc d) h = omega (arith, h.0, length-row_at rows r d h.1, length-sum row (multiple_of_list r (row_at rows r)), length-multiple r (row_at rows r))

-- the quotient by x - r: the rows at r of the table and of what is left of it after each row
abbrev pub table_ends : List (List ℤ) → ℤ → List (List ℤ)
table_ends [] r = []
table_ends (row ∷ rows) r = row_at (row ∷ rows) r ∷ table_ends rows r

triangle-ends : (t : List (List ℤ)) (r : ℤ) (side : ℕ) → IsTriangle side t → IsTriangle side (table_ends t r)
triangle-ends [] r side h = tt
triangle-ends (row ∷ rows) r zero h = absurd h
triangle-ends (row ∷ rows) r (suc d) h = (length-row_at (row ∷ rows) r (suc d) h, triangle-ends rows r d h.1)

table_divided : (t : List (List ℤ)) (r x y : ℤ) → x *ℤ value_of_table t x y -ℤ r *ℤ value_of_table t r y ≡ (x -ℤ r) *ℤ value_of_table (table_ends t r) x y
table_divided [] r x y = ring (x ∷ r ∷ []) (search reads depth 40 fits 5000) tt
table_divided (row ∷ rows) r x y =
    ring_by (value_at row y ∷ r ∷ x ∷ value_of_table rows x y ∷ value_of_table rows r y ∷ value_of_table (table_ends rows r) x y ∷ []) x (table_divided rows r x y) (search reads depth 40 fits 5000) tt
    ∙ ap (λ v. (x -ℤ r) *ℤ (v +ℤ x *ℤ value_of_table (table_ends rows r) x y)) (sym (value-row_at (row ∷ rows) r y))

table_by_root : (row : List ℤ) (rows : List (List ℤ)) (r x y : ℤ) → value_of_table (row ∷ rows) r y ≡ pos 0 → value_of_table (row ∷ rows) x y ≡ (x -ℤ r) *ℤ value_of_table (table_ends rows r) x y
table_by_root row rows r x y root = omega (arith, ints, table_divided rows r x y)

-- ---- the first `side` of a list
distinct-take : (ys : List ℤ) (n : ℕ) → AreDistinct ys → AreDistinct (take n ys)
distinct-take ys n h = λ i j d l m e. h i j d l (omega (arith, length-take n ys)) (sym (get_or-take n ys i d (omega (arith, length-take n ys))) ∙ e ∙ get_or-take n ys j d (omega (arith, length-take n ys)))

-- a table that is 0 at enough values of y, where x = r, is 0 at every y
zero_row : (t : List (List ℤ)) (r : ℤ) (ys : List ℤ) (side : ℕ) → IsTriangle side t → AreDistinct ys → side ≤ length ys → ((j : ℕ) → j < side → value_of_table t r (get_or ys j (pos 0)) ≡ pos 0) → (y : ℤ) → value_of_table t r y ≡ pos 0
zero_row t r ys side tri dy ly h y = sym (value-row_at t r y) ∙ value_by_roots (row_at t r) (take side ys) (distinct-take ys side dy) (omega (arith, length-row_at t r side tri, length-take side ys)) root y
  where
    root : All (IsRoot (row_at t r)) (take side ys)
    root = All-from_get_or (IsRoot (row_at t r)) (take side ys) (pos 0) (λ j l. let k : j < side = omega (arith, length-take side ys) in rw (get_or-take side ys j (pos 0) k) (value-row_at t r (get_or ys j (pos 0)) ∙ h j k))

-- the quotient by x - r is 0 at the other values of x
zero_ends : (row : List ℤ) (rows : List (List ℤ)) (r : ℤ) (rs ys : List ℤ) (d : ℕ) → ((y : ℤ) → value_of_table (row ∷ rows) r y ≡ pos 0) → AreDistinct (r ∷ rs) → d ≤ length rs
    → ((i j : ℕ) → i + j < suc d → value_of_table (row ∷ rows) (get_or (r ∷ rs) i (pos 0)) (get_or ys j (pos 0)) ≡ pos 0) → (i j : ℕ) → i + j < d → value_of_table (table_ends rows r) (get_or rs i (pos 0)) (get_or ys j (pos 0)) ≡ pos 0
zero_ends row rows r rs ys d root dx lx h i j l =
    let s = get_or rs i (pos 0) in
    let y = get_or ys j (pos 0) in
    let n : s -ℤ r ≢ pos 0 = λ e. dx 0 (suc i) (pos 0) (omega arith) (omega arith) (omega (arith, ints)) in
    zero_from_product (s -ℤ r) (value_of_table (table_ends rows r) s y) n (sym (table_by_root row rows r s y (root y)) ∙ h (suc i) j (omega arith))

pub zero_on_triangle : (xs ys : List ℤ) (side : ℕ) (t : List (List ℤ)) → IsTriangle side t → AreDistinct xs → AreDistinct ys → side ≤ length xs → side ≤ length ys
    → ((i j : ℕ) → i + j < side → value_of_table t (get_or xs i (pos 0)) (get_or ys j (pos 0)) ≡ pos 0) → (x y : ℤ) → value_of_table t x y ≡ pos 0
zero_on_triangle xs ys side [] tri dx dy lx ly h x y = refl
zero_on_triangle xs ys zero (row ∷ rows) tri dx dy lx ly h x y = absurd tri
zero_on_triangle [] ys (suc d) (row ∷ rows) tri dx dy lx ly h x y = absurd (omega arith)
zero_on_triangle (r ∷ rs) ys (suc d) (row ∷ rows) tri dx dy lx ly h x y =
    let root = zero_row (row ∷ rows) r ys (suc d) tri dy ly (λ j l. h 0 j (omega arith)) in
    let points = zero_ends row rows r rs ys d root dx (omega arith) h in
    let rest = zero_on_triangle rs ys d (table_ends rows r) (triangle-ends rows r d tri.1) (distinct_rest r rs dx) dy (omega arith) (omega arith) points x y in
    table_by_root row rows r x y (root y) ∙ ap (λ v. (x -ℤ r) *ℤ v) rest ∙ omega (arith, ints)
