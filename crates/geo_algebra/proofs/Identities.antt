-- Identities that show how `ring` is called.
use Rattle.std.proofs.Common.{◌≡◌, [], ◌∷◌, ℤ, ◌+ℤ◌, ◌-ℤ◌, ◌*ℤ◌}
use Rattle.geo_algebra.proofs.Ring.{ring, reads}

pub two_squares : (a b c d : ℤ) → (a *ℤ a +ℤ b *ℤ b) *ℤ (c *ℤ c +ℤ d *ℤ d) ≡ (a *ℤ c -ℤ b *ℤ d) *ℤ (a *ℤ c -ℤ b *ℤ d) +ℤ (a *ℤ d +ℤ b *ℤ c) *ℤ (a *ℤ d +ℤ b *ℤ c)
two_squares a b c d = ring (a ∷ b ∷ c ∷ d ∷ []) (search reads depth 40 fits 5000) tt
