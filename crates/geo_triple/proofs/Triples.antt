-- Equations of triples.
-- lemmas for other crates
use Rattle.std.proofs.Common.{◌≡◌, ℤ, pos, ◌+ℤ◌, ◌*ℤ◌, neg_ℤ, [], ◌∷◌}
use Rattle.geo_algebra.proofs.Ring.{ring, reads}
use Rattle.geo_triple.specs.declared.Triple.{Triple}
use Rattle.geo_triple.specs.Triple.{blend_of, cross_of, cut_of, dot_of, determinant_of}

pub same_triple : (s t : Triple) → s.a ≡ t.a → s.b ≡ t.b → s.c ≡ t.c → s ≡ t
same_triple s t p q r = λ i. record { a = p i; b = q i; c = r i }

pub cut_is : (t : Triple) (by : ℤ) → cut_of t by ≡ record { a = neg_ℤ (by *ℤ t.b); b = t.c +ℤ by *ℤ t.a; c = neg_ℤ t.b }
unfolding cut_of cross_of
cut_is t by =
    same_triple
    (cut_of t by)
    record { a = neg_ℤ (by *ℤ t.b); b = t.c +ℤ by *ℤ t.a; c = neg_ℤ t.b }
    (ring (t.a ∷ t.b ∷ t.c ∷ by ∷ []) (search reads depth 40 fits 5000) tt)
    (ring (t.a ∷ t.b ∷ t.c ∷ by ∷ []) (search reads depth 40 fits 5000) tt)
    (ring (t.a ∷ t.b ∷ t.c ∷ by ∷ []) (search reads depth 40 fits 5000) tt)

-- ---- incidences that hold by construction
pub dot-cross_first : (s t : Triple) → dot_of s (cross_of s t) ≡ pos 0
unfolding cross_of
dot-cross_first s t = ring (s.a ∷ s.b ∷ s.c ∷ t.a ∷ t.b ∷ t.c ∷ []) (search reads depth 40 fits 5000) tt

pub dot-cross_second : (s t : Triple) → dot_of t (cross_of s t) ≡ pos 0
unfolding cross_of
dot-cross_second s t = ring (s.a ∷ s.b ∷ s.c ∷ t.a ∷ t.b ∷ t.c ∷ []) (search reads depth 40 fits 5000) tt

pub dot-cut : (s : Triple) (by : ℤ) → dot_of s (cut_of s by) ≡ pos 0
unfolding cut_of
dot-cut s by = dot-cross_first s record { a = pos 1; b = pos 0; c = neg_ℤ by }

-- a cut lies on the line that cuts
pub dot-cut_at : (s : Triple) (by : ℤ) → dot_of record { a = pos 1; b = pos 0; c = neg_ℤ by } (cut_of s by) ≡ pos 0
unfolding cut_of
dot-cut_at s by = dot-cross_second s record { a = pos 1; b = pos 0; c = neg_ℤ by }

pub determinant-blend : (s t : Triple) (by : ℤ) → determinant_of (blend_of s t by) s t ≡ pos 0
unfolding determinant_of blend_of cross_of
determinant-blend s t by = ring (s.a ∷ s.b ∷ s.c ∷ t.a ∷ t.b ∷ t.c ∷ by ∷ []) (search reads depth 40 fits 5000) tt
