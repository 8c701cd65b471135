-- Sums of products, from what holds of each bracket: values and lengths of lists, values and total degrees of tables, and heights that bound values.
use Rattle.std.proofs.Common.{◌≡◌, ◌∙◌, sym, ap, ap₂, ℕ, suc, ◌+◌, ◌*◌, ◌≤◌, max, List, [], ◌∷◌, length, ℤ, pos, ◌+ℤ◌, ◌*ℤ◌, unsigned_abs, refl, le_refl, mul-le-mul, arith}
use Rattle.geo_algebra.proofs.AbsoluteValues.{abs-add, abs-mul}
use Rattle.geo_law.specs.Coefficients.{multiple_of_list, value_at}
use Rattle.geo_law.specs.Tables.{IsTriangle, multiple_of_table, value_of_table}
use Rattle.geo_law.proofs.CoefficientLaws.{length-multiple, length-product, length-sum, value-constant, value-multiple, value-product, value-sum}
use Rattle.geo_law.proofs.TableLaws.{table-constant, table-multiple, table-product, table-sum, triangle-multiple, triangle-product, triangle-sum, triangle_wider}
use Rattle.geo_bracket.specs.Terms.{Product, degree_of_product, degree_of_sum, height_of_product, height_of_sum, height_of_term, list_of_product, list_of_sum, product_of, sum_of, table_of_product, table_of_sum}

module _ {X : Type 0} where
  -- ---- lists
  module _ (value : X → ℤ) (list : X → List ℤ) (x : ℤ) (agree : (b : X) → value b ≡ value_at (list b) x) where
    product_value : (bs : List X) → product_of value bs ≡ value_at (list_of_product list bs) x
    product_value [] = sym (value-constant (pos 1) x)
    product_value (b ∷ bs) = ap₂ (λ y z. y *ℤ z) (agree b) (product_value bs) ∙ sym (value-product (list b) (list_of_product list bs) x)

    pub sum_value : (ts : List (Product X)) → sum_of value ts ≡ value_at (list_of_sum list ts) x
    sum_value [] = refl
    sum_value (t ∷ ts) =
        let p = list_of_product list t.brackets in
        ap₂ (λ y z. t.number *ℤ y +ℤ z) (product_value t.brackets) (sum_value ts)
        ∙ ap (λ y. y +ℤ value_at (list_of_sum list ts) x) (sym (value-multiple t.number p x))
        ∙ sym (value-sum (multiple_of_list t.number p) (list_of_sum list ts) x)

  module _ (list : X → List ℤ) (degree : X → ℕ) (short : (b : X) → length (list b) ≤ degree b + 1) where
    product_short : (bs : List X) → length (list_of_product list bs) ≤ degree_of_product degree bs + 1
    product_short [] = omega arith
    product_short (b ∷ bs) = length-product (list b) (list_of_product list bs) (degree b) (degree_of_product degree bs) (short b) (product_short bs)

    pub sum_short : (ts : List (Product X)) → length (list_of_sum list ts) ≤ degree_of_sum degree ts + 1
    sum_short [] = omega arith
    sum_short (t ∷ ts) =
        let p = list_of_product list t.brackets in
        omega (arith, length-sum (multiple_of_list t.number p) (list_of_sum list ts), length-multiple t.number p, product_short t.brackets, sum_short ts)

  -- ---- tables
  module _ (value : X → ℤ) (table : X → List (List ℤ)) (x y : ℤ) (agree : (b : X) → value b ≡ value_of_table (table b) x y) where
    product_table : (bs : List X) → product_of value bs ≡ value_of_table (table_of_product table bs) x y
    product_table [] = sym (table-constant (pos 1) x y)
    product_table (b ∷ bs) = ap₂ (λ u w. u *ℤ w) (agree b) (product_table bs) ∙ sym (table-product (table b) (table_of_product table bs) x y)

    pub sum_table : (ts : List (Product X)) → sum_of value ts ≡ value_of_table (table_of_sum table ts) x y
    sum_table [] = refl
    sum_table (t ∷ ts) =
        let p = table_of_product table t.brackets in
        ap₂ (λ u w. t.number *ℤ u +ℤ w) (product_table t.brackets) (sum_table ts)
        ∙ ap (λ u. u +ℤ value_of_table (table_of_sum table ts) x y) (sym (table-multiple t.number p x y))
        ∙ sym (table-sum (multiple_of_table t.number p) (table_of_sum table ts) x y)

  module _ (table : X → List (List ℤ)) (degree : X → ℕ) (low : (b : X) → IsTriangle (suc (degree b)) (table b)) where
    product_low : (bs : List X) → IsTriangle (suc (degree_of_product degree bs)) (table_of_product table bs)
    product_low [] = (le_refl 1, tt)
    product_low (b ∷ bs) = triangle-product (degree b) (degree_of_product degree bs) (table b) (table_of_product table bs) (low b) (product_low bs)

    pub sum_low : (ts : List (Product X)) → IsTriangle (suc (degree_of_sum degree ts)) (table_of_sum table ts)
    sum_low [] = tt
    sum_low (t ∷ ts) =
        let p = table_of_product table t.brackets in
        let side = suc (degree_of_sum degree (t ∷ ts)) in
        triangle-sum side (multiple_of_table t.number p) (table_of_sum table ts)
        (triangle_wider (suc (degree_of_product degree t.brackets)) side (multiple_of_table t.number p) (omega arith) (triangle-multiple (suc (degree_of_product degree t.brackets)) t.number p (product_low t.brackets)))
        (triangle_wider (suc (degree_of_sum degree ts)) side (table_of_sum table ts) (omega arith) (sum_low ts))

  -- ---- heights
  module _ (value : X → ℤ) (height : X → ℕ) (bound : (b : X) → unsigned_abs (value b) ≤ height b) where
    pub product_bounded : (bs : List X) → unsigned_abs (product_of value bs) ≤ height_of_product height bs
    product_bounded [] = omega arith
    product_bounded (b ∷ bs) = omega (arith, abs-mul (value b) (product_of value bs), mul-le-mul (bound b) (product_bounded bs))

    pub term_bounded : (t : Product X) → unsigned_abs (t.number *ℤ product_of value t.brackets) ≤ height_of_term height t
    term_bounded t =
        let one : unsigned_abs t.number ≤ max 1 (unsigned_abs t.number) = omega arith in
        omega (arith, abs-mul t.number (product_of value t.brackets), mul-le-mul one (product_bounded t.brackets))

    pub sum_bounded : (ts : List (Product X)) → unsigned_abs (sum_of value ts) ≤ height_of_sum height ts
    sum_bounded [] = omega arith
    sum_bounded (t ∷ ts) = omega (arith, abs-add (t.number *ℤ product_of value t.brackets) (sum_of value ts), term_bounded t, sum_bounded ts)

  module _ (g h : X → ℕ) (grows : (b : X) → g b ≤ h b) where
    product_grows : (bs : List X) → height_of_product g bs ≤ height_of_product h bs
    product_grows [] = omega arith
    product_grows (b ∷ bs) = mul-le-mul (grows b) (product_grows bs)

    pub sum_grows : (ts : List (Product X)) → height_of_sum g ts ≤ height_of_sum h ts
    sum_grows [] = omega arith
    sum_grows (t ∷ ts) =
        let k = max 1 (unsigned_abs t.number) in
        omega (arith, mul-le-mul (le_refl k) (product_grows t.brackets), sum_grows ts)
