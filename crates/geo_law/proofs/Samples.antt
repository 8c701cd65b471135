-- The definitions at numbers: each line computes.
use Rattle.std.proofs.Common.{◌≡◌, [], ◌∷◌, pos, negsuc, refl}
use Rattle.geo_law.specs.Coefficients.{value_at, sum_of_lists, difference_of_lists, product_of_lists}
use Rattle.geo_law.specs.Tables.{value_of_table, product_of_tables}

-- 3 - 2 x^2 at 5
a_value : value_at (pos 3 ∷ pos 0 ∷ negsuc 1 ∷ []) (pos 5) ≡ negsuc 46
a_value = refl

-- (1 + 2 x) + 3 x^2, and (1 + x) (1 - x) = 1 - x^2
a_sum : sum_of_lists (pos 1 ∷ pos 2 ∷ []) (pos 0 ∷ pos 0 ∷ pos 3 ∷ []) ≡ pos 1 ∷ pos 2 ∷ pos 3 ∷ []
a_sum = refl

a_product : product_of_lists (pos 1 ∷ pos 1 ∷ []) (pos 1 ∷ negsuc 0 ∷ []) ≡ pos 1 ∷ pos 0 ∷ negsuc 0 ∷ []
a_product = refl

a_difference : difference_of_lists (pos 1 ∷ []) (pos 0 ∷ pos 4 ∷ []) ≡ pos 1 ∷ negsuc 3 ∷ []
a_difference = refl

-- 1 + 2 y + 3 x + 4 x y at x = 10, y = 100, and (x + y) (x + y) = y^2 + 2 x y + x^2
a_table : value_of_table ((pos 1 ∷ pos 2 ∷ []) ∷ (pos 3 ∷ pos 4 ∷ []) ∷ []) (pos 10) (pos 100) ≡ pos 4231
a_table = refl

a_square : product_of_tables ((pos 0 ∷ pos 1 ∷ []) ∷ (pos 1 ∷ []) ∷ []) ((pos 0 ∷ pos 1 ∷ []) ∷ (pos 1 ∷ []) ∷ []) ≡ (pos 0 ∷ pos 0 ∷ pos 1 ∷ []) ∷ (pos 0 ∷ pos 2 ∷ []) ∷ (pos 1 ∷ []) ∷ []
a_square = refl
