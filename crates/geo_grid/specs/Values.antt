-- Lists of values of axes, compared place by place.
use Rattle.std.specs.Prelude.{◌≡◌, ◌<◌, ℕ, suc, ℤ, pos, List, [], ◌∷◌, length, slice_index_or, if◌then◌else◌}
use Rattle.std.specs.Ordering.{int_eq}
use Rattle.geo_degree.specs.declared.grids.Block.{Block}
use Rattle.geo_degree.specs.Blocks.{block_degrees}

-- the lists agree at the places before the first so many
abbrev pub AgreeBefore : ℕ → List ℤ → List ℤ → Type 0
AgreeBefore first xs ys = (k : ℕ) → k < first → slice_index_or xs k (pos 0) ≡ slice_index_or ys k (pos 0)

-- the first place at which the lists differ
abbrev pub first_change : List ℤ → List ℤ → ℕ
first_change [] ys = 0
first_change (x ∷ xs) [] = 0
first_change (x ∷ xs) (y ∷ ys) = if int_eq x y then suc (first_change xs ys) else 0

-- how many axes some blocks cover: each point has a value for each of these
abbrev pub axis_count : List Block → ℕ
axis_count bs = length (block_degrees bs)
