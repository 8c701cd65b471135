-- Draws from the 32-bit words of a PCG generator.
use Rattle.std.specs.Prelude.{ℕ, ◌%◌, ℤ, pos, ◌-ℤ◌}
use Rattle.rand_pcg.specs.Lcg.{Lcg, increment_of, started}
use Rattle.rand_pcg.specs.Pcg.{multiplier_64, pcg32}

-- the generator of a seed: its state is the seed, its stream 1
unfoldable pub generator_of : ℕ → Lcg
generator_of seed = started 64 multiplier_64 seed (increment_of 64 1)

-- a draw, and the generator behind it
pub record Draw : Type 0 where
  pub number : ℕ
  pub rest : Lcg

-- the next word modulo m
unfoldable pub pick : ℕ → Lcg → Draw
pick m g = record { number = (pcg32 g).0 % m; rest = (pcg32 g).1 }

-- the number that a draw below 2001 stands for, from -1000 to 1000
unfoldable pub centred : ℕ → ℤ
centred k = pos k -ℤ pos 1000
