-- Assignments at which statements are tried.
use Rattle.std.specs.Prelude.{ℕ, ◌+◌, ◌*◌, ◌^◌, ◌%◌, ℤ, pos, ◌-ℤ◌}

-- the value of parameter p at sample position s, from -3 to 3
abbrev pub sample_value : ℕ → ℕ → ℤ
sample_value s p = pos ((31 * s + 17 * p + (s + 1) * p ^ 2 + 5) % 101 % 7) -ℤ pos 3
