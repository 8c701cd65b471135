-- What an expression asks: whether it is 0, by its axes.
use Rattle.std.specs.Prelude.{ℕ, ℤ, pos, List, [], ◌∷◌, slice_index_or}
use Rattle.geo_sketch.specs.declared.elements.Element.{Element}
use Rattle.geo_degree.specs.declared.grids.Axis.{Axis}
use Rattle.geo_degree.specs.declared.grids.Block.{Block}
use Rattle.geo_degree.specs.Blocks.{blocks_among}
use Rattle.geo_degree.specs.Grids.{at_axes, axes_among, parameters_of}
use Rattle.geo_degree.specs.Questions.{Question}
use Rattle.geo_degree.specs.Verdicts.{coefficients_over, table_over}
use Rattle.geo_bracket.specs.Expressions.{Terms, expression_degree, expression_height, expression_value, statement_of}
use Rattle.geo_bracket.specs.Terms.{list_of_sum, table_of_sum}

-- the parameters in which its degree is above 0, by rising parameter
abbrev pub expression_axes : List Element → Terms → List Axis
expression_axes es ts = axes_among (expression_degree es ts) (parameters_of es)

abbrev pub expression_blocks : List Element → Terms → List Block
expression_blocks es ts = blocks_among (expression_degree es ts) es

-- ---- where every parameter that is no axis is 0
abbrev pub value_over : List Element → Terms → List Axis → List ℤ → ℤ
value_over es ts axes xs = expression_value es ts (at_axes (pos 0) axes xs)

-- in the axis at a place
abbrev pub list_over : List Element → Terms → List Axis → List ℤ → ℕ → List ℤ
list_over es ts axes xs place = list_of_sum (λ b. coefficients_over es (statement_of b) axes xs 0 place) ts

-- in the two axes at a pair of places, which are the parameters of one element
abbrev pub expression_table_over : List Element → Terms → List Axis → List ℤ → ℕ × ℕ → List (List ℤ)
expression_table_over es ts axes xs p = table_of_sum (λ b. table_over es (statement_of b) axes xs 0 p) ts

abbrev pub expression_height_at : List Element → Terms → List ℕ → ℕ
expression_height_at es ts ms = expression_height es ts (at_axes 0 (expression_axes es ts) ms)

-- its one part is its value
abbrev pub expression_question : List Element → Terms → Question
expression_question es ts = record {
  axes = expression_axes es ts;
  blocks = expression_blocks es ts;
  parts_at = λ xs. value_over es ts (expression_axes es ts) xs ∷ [];
  coefficients = λ xs k place. slice_index_or (list_over es ts (expression_axes es ts) xs place ∷ []) k [];
  table = λ xs k p. slice_index_or (expression_table_over es ts (expression_axes es ts) xs p ∷ []) k [];
  height_at = expression_height_at es ts;
}
