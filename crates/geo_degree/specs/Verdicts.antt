-- The verdict on a statement, or on anything else that asks whether some parts are 0.
use Rattle.std.specs.Prelude.{◌≡◌, ℕ, ◌<◌, ◌≤◌, ◌⊎◌, ℤ, pos, List, [], ◌∷◌, length, slice_index_or}
use Rattle.geo_sketch.specs.declared.elements.Element.{Element}
use Rattle.geo_sketch.specs.declared.statements.Statement.{Statement}
use Rattle.geo_sketch.specs.declared.verdicts.Past.{Past}
use Rattle.geo_sketch.specs.declared.verdicts.Past.TheVariants.{Size, Height}
use Rattle.geo_sketch.specs.declared.verdicts.Verdict.{Verdict}
use Rattle.geo_sketch.specs.declared.verdicts.Verdict.TheVariants.{Proved, False, Unsettled}
use Rattle.geo_sketch.specs.Assignments.{element_of_parameter, first_parameter, second_parameter}
use Rattle.geo_sketch.specs.Heights.{statement_height}
use Rattle.geo_sketch.specs.declared.limits.TheConstants.{SAMPLE_COUNT}
use Rattle.geo_sketch.specs.Statements.{Holds, parts_at}
use Rattle.geo_triple.specs.declared.limits.TheConstants.{STATEMENT_LIMIT}
use Rattle.geo_degree.specs.declared.grids.Axis.{Axis}
use Rattle.geo_degree.specs.Blocks.{blocks_of}
use Rattle.geo_degree.specs.Grids.{at_axes, axis, axes_of, grid_size}
use Rattle.geo_degree.specs.PairPolynomials.{part_tables}
use Rattle.geo_degree.specs.Polynomials.{part_lists}
use Rattle.geo_degree.specs.Questions.{Question, grid_magnitudes, grid_of, point, sample, IsLeastFailing, IsWithinLimits, IsZeroAt}
use Rattle.geo_degree.specs.declared.limits.TheConstants.{SIZE_LIMIT}

-- each axis with its value
abbrev pub named : List Axis → List ℤ → List (ℕ × ℤ)
named [] xs = []
named (a ∷ axes) [] = []
named (a ∷ axes) (x ∷ xs) = (a.param, x) ∷ named axes xs

-- s is the first sample position at which a part is not 0
pub record IsFirstFailingSample (q : Question) (s : ℕ) : Type 0 where
  pub within : s < SAMPLE_COUNT
  pub fails : ¬ IsZeroAt q (sample q s)
  pub first : (t : ℕ) → t < s → IsZeroAt q (sample q t)

-- all parts are 0 at every sample position
abbrev pub IsZeroAtSamples : Question → Type 0
IsZeroAtSamples q = (s : ℕ) → s < SAMPLE_COUNT → IsZeroAt q (sample q s)

-- the size passes its limit; or it does not, and the height passes its own
abbrev pub IsPast : Question → Past → Type 0
IsPast q Size = SIZE_LIMIT < grid_size (grid_of q)
IsPast q Height = (grid_size (grid_of q) ≤ SIZE_LIMIT) × (STATEMENT_LIMIT < q.height_at (grid_magnitudes q))

-- where the grid is within the limits: proved where the question holds, else false at the
-- values of the least index at which a part is not 0
abbrev pub IsGridVerdict : Question → Type 0 → Verdict → Type 0
IsGridVerdict q holds Proved = holds
IsGridVerdict q holds (False values) = (i : ℕ) × IsLeastFailing q i × (values ≡ named q.axes (point q i))
IsGridVerdict q holds (Unsettled past) = ⊥

-- elsewhere: false at the values of the first sample position at which a part is not 0,
-- else not settled, for its size or else for its height
abbrev pub IsSampleVerdict : Question → Verdict → Type 0
IsSampleVerdict q Proved = ⊥
IsSampleVerdict q (False values) = (s : ℕ) × IsFirstFailingSample q s × (values ≡ named q.axes (sample q s))
IsSampleVerdict q (Unsettled past) = IsZeroAtSamples q × IsPast q past

-- the verdict, where `holds` says that the question does
abbrev pub IsVerdict : Question → Type 0 → Verdict → Type 0
IsVerdict q holds r = (IsWithinLimits q × IsGridVerdict q holds r) ⊎ ((¬ IsWithinLimits q) × IsSampleVerdict q r)

-- ---- of a statement over any axes, where every parameter that is no axis is 0
abbrev pub parts_over : List Element → Statement → List Axis → List ℤ → List ℤ
parts_over es s axes xs = parts_at es s (at_axes (pos 0) axes xs)

abbrev pub height_over : List Element → Statement → List Axis → List ℕ → ℕ
height_over es s axes magnitudes = statement_height es s (at_axes 0 axes magnitudes)

-- of part k, in the axis at a place
abbrev pub coefficients_over : List Element → Statement → List Axis → List ℤ → ℕ → ℕ → List ℤ
coefficients_over es s axes xs k place =
    slice_index_or (part_lists es s (at_axes (pos 0) axes xs) (slice_index_or axes place (axis 0 0)).param) k []

-- of part k, in the two axes at a pair of places, which are the parameters of one element
abbrev pub table_over : List Element → Statement → List Axis → List ℤ → ℕ → ℕ × ℕ → List (List ℤ)
table_over es s axes xs k p =
    slice_index_or (part_tables es s (at_axes (pos 0) axes xs) (element_of_parameter (slice_index_or axes p.0 (axis 0 0)).param)) k []

-- the axes at the two places are the parameters of one element
abbrev pub ArePaired : List Axis → ℕ × ℕ → Type 0
ArePaired axes p =
    (p.0 < length axes) × (p.1 < length axes)
    × ((m : ℕ) × ((slice_index_or axes p.0 (axis 0 0)).param ≡ first_parameter m) × ((slice_index_or axes p.1 (axis 0 0)).param ≡ second_parameter m))

-- the parameter is one of the axes
abbrev pub IsAmong : List Axis → ℕ → Type 0
IsAmong [] p = ⊥
IsAmong (a ∷ axes) p = (a.param ≡ p) ⊎ IsAmong axes p

-- ---- of a statement over its own axes
abbrev pub statement_parts : List Element → Statement → List ℤ → List ℤ
statement_parts es s xs = parts_over es s (axes_of es s) xs

abbrev pub statement_height_at : List Element → Statement → List ℕ → ℕ
statement_height_at es s magnitudes = height_over es s (axes_of es s) magnitudes

abbrev pub statement_coefficients : List Element → Statement → List ℤ → ℕ → ℕ → List ℤ
statement_coefficients es s xs k place = coefficients_over es s (axes_of es s) xs k place

abbrev pub statement_table : List Element → Statement → List ℤ → ℕ → ℕ × ℕ → List (List ℤ)
statement_table es s xs k p = table_over es s (axes_of es s) xs k p

abbrev pub question_of : List Element → Statement → Question
question_of es s = record {
  axes = axes_of es s;
  blocks = blocks_of es s;
  parts_at = statement_parts es s;
  coefficients = statement_coefficients es s;
  table = statement_table es s;
  height_at = statement_height_at es s;
}

abbrev pub IsStatementVerdict : List Element → Statement → Verdict → Type 0
IsStatementVerdict es s r = IsVerdict (question_of es s) (Holds es s) r
