-- A small question, of which the tests make a form: whether (x - y) z is 0.
use Rattle.std.specs.Prelude.{◌≡◌, ℕ, zero, suc, ◌+◌, ◌*◌, ◌<◌, ℤ, pos, neg_ℤ, ◌-ℤ◌, ◌*ℤ◌, List, [], ◌∷◌, length, map, slice_index_or, All}
use Rattle.geo_sketch.specs.declared.limits.TheConstants.{NUMBER_LIMIT}
use Rattle.geo_degree.specs.declared.grids.Axis.{Axis}
use Rattle.geo_degree.specs.declared.grids.Block.{Block}
use Rattle.geo_degree.specs.Blocks.{block_degrees, pairs_from}
use Rattle.geo_degree.specs.Questions.{Question}

abbrev pub value_at_place : List ℤ → ℕ → ℤ
value_at_place xs place = slice_index_or xs place (pos 0)

abbrev pub factor_at : List ℤ → ℤ
factor_at xs = value_at_place xs 0 -ℤ value_at_place xs 1

abbrev pub product_at : List ℤ → ℤ
product_at xs = factor_at xs *ℤ value_at_place xs 2

-- of the one part, in x, in y and in z
abbrev pub product_coefficients : List ℤ → ℕ → ℕ → List ℤ
product_coefficients xs zero zero = neg_ℤ (value_at_place xs 1 *ℤ value_at_place xs 2) ∷ value_at_place xs 2 ∷ []
product_coefficients xs zero (suc zero) = (value_at_place xs 0 *ℤ value_at_place xs 2) ∷ neg_ℤ (value_at_place xs 2) ∷ []
product_coefficients xs zero (suc (suc place)) = pos 0 ∷ factor_at xs ∷ []
product_coefficients xs (suc k) place = []

-- in x and y together
abbrev pub product_table : List ℤ → ℕ → List (List ℤ)
product_table xs zero = (pos 0 ∷ neg_ℤ (value_at_place xs 2) ∷ []) ∷ (value_at_place xs 2 ∷ []) ∷ []
product_table xs (suc k) = []

abbrev pub product_question : List Axis → List Block → Question
product_question axes blocks = record {
  axes = axes;
  blocks = blocks;
  parts_at = λ xs. product_at xs ∷ [];
  coefficients = product_coefficients;
  table = λ xs k p. product_table xs k;
  height_at = λ ms. (slice_index_or ms 0 0 + slice_index_or ms 1 0) * slice_index_or ms 2 0;
}

-- the first two of three axes are a Pair, and the degrees may be more than 1
pub record AreProper (axes : List Axis) (blocks : List Block) : Type 0 where
  pub count : length axes ≡ 3
  pub parameters : All (λ (a : Axis). (a.param < 2 * NUMBER_LIMIT) × (0 < a.degree)) axes
  pub covered : block_degrees blocks ≡ map (λ (a : Axis). a.degree) axes
  pub pair : pairs_from 0 blocks ≡ (0, 1) ∷ []

-- what is kept of the values: that they were put in, and the factors
abbrev pub numbers_at : List ℤ → List ℤ
numbers_at xs = pos 1 ∷ factor_at xs ∷ value_at_place xs 2 ∷ []

abbrev pub no_numbers : List ℤ
no_numbers = pos 0 ∷ pos 0 ∷ pos 0 ∷ []
