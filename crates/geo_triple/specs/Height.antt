-- The height rule: how large the coordinates become, where the triples' sizes are m and n (or k, m and n) and the multiplier's absolute value is `by`.
use Rattle.std.specs.Prelude.{ℕ, ◌+◌, ◌*◌, max}

abbrev pub cross_height : ℕ → ℕ → ℕ
cross_height m n = 2 * m * n

abbrev pub dot_height : ℕ → ℕ → ℕ
dot_height m n = 3 * m * n

abbrev pub determinant_height : ℕ → ℕ → ℕ → ℕ
determinant_height k m n = 6 * k * m * n

abbrev pub blend_height : ℕ → ℕ → ℕ → ℕ
blend_height m n by = m + max 1 by * n

abbrev pub cut_height : ℕ → ℕ → ℕ
cut_height m by = (1 + by) * m
