-- Tables of coefficients in two variables: row i has the coefficients of x^i * y^0, x^i * y^1, ..
use Rattle.std.specs.Prelude.{⊤, ℕ, zero, suc, ◌≤◌, List, [], ◌∷◌, length, ℤ, pos, negsuc, ◌+ℤ◌, ◌*ℤ◌}
use Rattle.geo_law.specs.Coefficients.{value_at, sum_of_lists, multiple_of_list, product_of_lists}

-- the value of a table at x and y
abbrev pub value_of_table : List (List ℤ) → ℤ → ℤ → ℤ
value_of_table [] x y = pos 0
value_of_table (row ∷ rows) x y = value_at row y +ℤ x *ℤ value_of_table rows x y

-- the coefficient of x^i * y^j stands there only where i + j is below the side: the total degree is below the side
abbrev pub IsTriangle : ℕ → List (List ℤ) → Type 0
IsTriangle side [] = ⊤
IsTriangle zero (row ∷ rows) = ⊥
IsTriangle (suc d) (row ∷ rows) = (length row ≤ suc d) × IsTriangle d rows

abbrev pub sum_of_tables : List (List ℤ) → List (List ℤ) → List (List ℤ)
sum_of_tables [] q = q
sum_of_tables (row ∷ p) [] = row ∷ p
sum_of_tables (row ∷ p) (other ∷ q) = sum_of_lists row other ∷ sum_of_tables p q

abbrev pub multiple_of_table : ℤ → List (List ℤ) → List (List ℤ)
multiple_of_table k [] = []
multiple_of_table k (row ∷ p) = multiple_of_list k row ∷ multiple_of_table k p

abbrev pub difference_of_tables : List (List ℤ) → List (List ℤ) → List (List ℤ)
difference_of_tables p q = sum_of_tables p (multiple_of_table (negsuc 0) q)

-- each row times a list in y
abbrev pub row_times_table : List ℤ → List (List ℤ) → List (List ℤ)
row_times_table row [] = []
row_times_table row (other ∷ q) = product_of_lists row other ∷ row_times_table row q

abbrev pub product_of_tables : List (List ℤ) → List (List ℤ) → List (List ℤ)
product_of_tables [] q = []
product_of_tables (row ∷ p) q = sum_of_tables (row_times_table row q) ([] ∷ product_of_tables p q)
