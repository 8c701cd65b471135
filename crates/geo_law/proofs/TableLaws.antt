-- Values and total degrees of sums, multiples and products of tables.
-- lemmas for other crates
use Rattle.std.proofs.Common.{◌≡◌, ℕ, zero, suc, ◌+◌, ◌≤◌, List, [], ◌∷◌, length, ℤ, pos, negsuc, ◌+ℤ◌, ◌-ℤ◌, ◌*ℤ◌, ap₂, ◌∙◌, arith}
use Rattle.std.proofs.lemmas.Int.{ints}
use Rattle.geo_algebra.proofs.Ring.{ring, reads}
use Rattle.geo_law.specs.Coefficients.{value_at}
use Rattle.geo_law.specs.Tables.{value_of_table, IsTriangle, sum_of_tables, multiple_of_table, difference_of_tables, row_times_table, product_of_tables}
use Rattle.geo_law.proofs.CoefficientLaws.{value-sum, length-sum, value-multiple, length-multiple, value-product, length-product}

-- ---- values
pub table-sum : (p q : List (List ℤ)) (x y : ℤ) → value_of_table (sum_of_tables p q) x y ≡ value_of_table p x y +ℤ value_of_table q x y
table-sum [] q x y = omega (arith, ints)
table-sum (row ∷ p) [] x y = omega (arith, ints)
table-sum (row ∷ p) (other ∷ q) x y =
    ap₂ (λ u v. u +ℤ x *ℤ v) (value-sum row other y) (table-sum p q x y)
    ∙ ring (value_at row y ∷ value_at other y ∷ x ∷ value_of_table p x y ∷ value_of_table q x y ∷ []) (search reads depth 40 fits 5000) tt

pub table-multiple : (k : ℤ) (p : List (List ℤ)) (x y : ℤ) → value_of_table (multiple_of_table k p) x y ≡ k *ℤ value_of_table p x y
table-multiple k [] x y = omega (arith, ints)
table-multiple k (row ∷ p) x y =
    ap₂ (λ u v. u +ℤ x *ℤ v) (value-multiple k row y) (table-multiple k p x y)
    ∙ ring (k ∷ x ∷ value_at row y ∷ value_of_table p x y ∷ []) (search reads depth 40 fits 5000) tt

pub table-difference : (p q : List (List ℤ)) (x y : ℤ) → value_of_table (difference_of_tables p q) x y ≡ value_of_table p x y -ℤ value_of_table q x y
table-difference p q x y = omega (arith, ints, table-sum p (multiple_of_table (negsuc 0) q) x y, table-multiple (negsuc 0) q x y)

pub table-row_times : (row : List ℤ) (q : List (List ℤ)) (x y : ℤ) → value_of_table (row_times_table row q) x y ≡ value_at row y *ℤ value_of_table q x y
table-row_times row [] x y = omega (arith, ints)
table-row_times row (other ∷ q) x y =
    ap₂ (λ u v. u +ℤ x *ℤ v) (value-product row other y) (table-row_times row q x y)
    ∙ ring (x ∷ value_at row y ∷ value_at other y ∷ value_of_table q x y ∷ []) (search reads depth 40 fits 5000) tt

pub table-product : (p q : List (List ℤ)) (x y : ℤ) → value_of_table (product_of_tables p q) x y ≡ value_of_table p x y *ℤ value_of_table q x y
table-product [] q x y = omega (arith, ints)
table-product (row ∷ p) q x y =
    table-sum (row_times_table row q) ([] ∷ product_of_tables p q) x y
    ∙ ap₂ (λ u v. u +ℤ (pos 0 +ℤ x *ℤ v)) (table-row_times row q x y) (table-product p q x y)
    ∙ ring (x ∷ value_at row y ∷ value_of_table p x y ∷ value_of_table q x y ∷ []) (search reads depth 40 fits 5000) tt

-- ---- total degrees
pub triangle_wider : (m n : ℕ) (p : List (List ℤ)) → m ≤ n → IsTriangle m p → IsTriangle n p
triangle_wider m n [] l h = tt
triangle_wider zero n (row ∷ p) l h = absurd h
triangle_wider (suc m) zero (row ∷ p) l h = absurd (omega arith)
triangle_wider (suc m) (suc n) (row ∷ p) l h = (omega (arith, h.0), triangle_wider m n p (omega arith) h.1)

pub triangle-sum : (side : ℕ) (p q : List (List ℤ)) → IsTriangle side p → IsTriangle side q → IsTriangle side (sum_of_tables p q)
triangle-sum side [] q h k = k
triangle-sum side (row ∷ p) [] h k = h
triangle-sum zero (row ∷ p) (other ∷ q) h k = absurd h
triangle-sum (suc d) (row ∷ p) (other ∷ q) h k = (omega (arith, h.0, k.0, length-sum row other), triangle-sum d p q h.1 k.1)

pub triangle-multiple : (side : ℕ) (k : ℤ) (p : List (List ℤ)) → IsTriangle side p → IsTriangle side (multiple_of_table k p)
triangle-multiple side k [] h = tt
triangle-multiple zero k (row ∷ p) h = absurd h
triangle-multiple (suc d) k (row ∷ p) h = (omega (arith, h.0, length-multiple k row), triangle-multiple d k p h.1)

pub triangle-difference : (side : ℕ) (p q : List (List ℤ)) → IsTriangle side p → IsTriangle side q → IsTriangle side (difference_of_tables p q)
triangle-difference side p q h k = triangle-sum side p (multiple_of_table (negsuc 0) q) h (triangle-multiple side (negsuc 0) q k)

-- total degrees m and n give m + n
pub triangle-row_times : (row : List ℤ) (m n : ℕ) (q : List (List ℤ)) → length row ≤ m + 1 → IsTriangle (suc n) q → IsTriangle (suc (m + n)) (row_times_table row q)
triangle-row_times row m n [] l h = tt
triangle-row_times row m zero (other ∷ []) l h = (omega (arith, length-product row other m 0 l (omega (arith, h.0))), tt)
triangle-row_times row m zero (other ∷ next ∷ q) l h = absurd h.1
triangle-row_times row m (suc n) (other ∷ q) l h = (
  omega (arith, length-product row other m (suc n) l (omega (arith, h.0))),
  triangle_wider (suc (m + n)) (m + suc n) (row_times_table row q) (omega arith) (triangle-row_times row m n q l h.1),
)

pub triangle-product : (m n : ℕ) (p q : List (List ℤ)) → IsTriangle (suc m) p → IsTriangle (suc n) q → IsTriangle (suc (m + n)) (product_of_tables p q)
triangle-product m n [] q h k = tt
triangle-product zero n (row ∷ []) q h k = triangle-sum (suc (zero + n)) (row_times_table row q) ([] ∷ []) (triangle-row_times row zero n q (omega (arith, h.0)) k) (omega arith, tt)
triangle-product zero n (row ∷ next ∷ p) q h k = absurd h.1
triangle-product (suc m) n (row ∷ p) q h k =
    triangle-sum (suc (suc m + n)) (row_times_table row q) ([] ∷ product_of_tables p q) (triangle-row_times row (suc m) n q (omega (arith, h.0)) k)
    (omega arith, triangle_wider (suc (m + n)) (suc m + n) (product_of_tables p q) (omega arith) (triangle-product m n p q h.1 k))

-- ---- constants, the two variables, and two products with their difference
pub table-constant : (c x y : ℤ) → value_of_table ((c ∷ []) ∷ []) x y ≡ c
table-constant c x y = omega (arith, ints)

pub table-first : (x y : ℤ) → value_of_table ([] ∷ (pos 1 ∷ []) ∷ []) x y ≡ x
table-first x y = ring (x ∷ y ∷ []) (search reads depth 40 fits 5000) tt

pub table-second : (x y : ℤ) → value_of_table ((pos 0 ∷ pos 1 ∷ []) ∷ []) x y ≡ y
table-second x y = ring (x ∷ y ∷ []) (search reads depth 40 fits 5000) tt

pub table-minor : (a b c d : List (List ℤ)) (x y : ℤ) → value_of_table (difference_of_tables (product_of_tables a b) (product_of_tables c d)) x y ≡ value_of_table a x y *ℤ value_of_table b x y -ℤ value_of_table c x y *ℤ value_of_table d x y
table-minor a b c d x y = table-difference (product_of_tables a b) (product_of_tables c d) x y ∙ ap₂ (λ u v. u -ℤ v) (table-product a b x y) (table-product c d x y)

pub triangle-minor : (m n : ℕ) (a b c d : List (List ℤ)) → IsTriangle (suc m) a → IsTriangle (suc n) b → IsTriangle (suc m) c → IsTriangle (suc n) d → IsTriangle (suc (m + n)) (difference_of_tables (product_of_tables a b) (product_of_tables c d))
triangle-minor m n a b c d k l p q = triangle-difference (suc (m + n)) (product_of_tables a b) (product_of_tables c d) (triangle-product m n a b k l) (triangle-product m n c d p q)

-- ---- for the attributes of functions
pub ruleset sums = (table-sum, triangle-sum)

pub ruleset products = (table-product, triangle-product)
