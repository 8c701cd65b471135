-- Which points of a grid fail, and what is told of them truly.
use Rattle.std.specs.Prelude.{ℕ, Bool, not}
use Rattle.geo_triple.specs.Zero.{are_zero}
use Rattle.geo_board.specs.declared.seat.Entry.{Entry}
use Rattle.geo_board.specs.Truth.{IsTruthful}
use Rattle.geo_degree.specs.Grids.{grid_size}
use Rattle.geo_degree.specs.Questions.{Question, grid_of, point}

-- whether a part is not 0 at point i
abbrev pub fails_at : Question → ℕ → Bool
fails_at q i = not (are_zero (q.parts_at (point q i)))

-- what the entry tells of its chunk of the question's grid is so
abbrev pub IsTruthfulOf : Question → Entry → Type 0
IsTruthfulOf q e = IsTruthful (grid_size (grid_of q)) (fails_at q) e
