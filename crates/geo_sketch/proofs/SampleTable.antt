-- The sample values of the first parameters.
use Rattle.std.proofs.Common.{◌≡◌, refl, ℕ, ℤ, pos, negsuc, List, [], ◌∷◌, map}
use Rattle.geo_sketch.specs.Samples.{sample_value}

-- the values of parameter p at the eight positions
row : ℕ → List ℤ
row p = map (λ s. sample_value s p) (0 ∷ 1 ∷ 2 ∷ 3 ∷ 4 ∷ 5 ∷ 6 ∷ 7 ∷ [])

first : row 0 ≡ pos 2 ∷ negsuc 1 ∷ pos 1 ∷ negsuc 2 ∷ negsuc 2 ∷ pos 0 ∷ pos 3 ∷ pos 3 ∷ []
unfolding row
first = refl

second : row 1 ≡ negsuc 0 ∷ pos 3 ∷ pos 0 ∷ pos 1 ∷ negsuc 1 ∷ pos 2 ∷ pos 3 ∷ pos 0 ∷ []
unfolding row
second = refl

third : row 2 ≡ negsuc 1 ∷ negsuc 1 ∷ pos 2 ∷ pos 2 ∷ pos 2 ∷ negsuc 0 ∷ negsuc 0 ∷ negsuc 0 ∷ []
unfolding row
third = refl

fourth : row 3 ≡ negsuc 0 ∷ pos 1 ∷ negsuc 0 ∷ negsuc 2 ∷ negsuc 0 ∷ negsuc 2 ∷ negsuc 0 ∷ negsuc 2 ∷ []
unfolding row
fourth = refl

fifth : row 4 ≡ pos 2 ∷ negsuc 2 ∷ pos 2 ∷ negsuc 2 ∷ pos 2 ∷ negsuc 2 ∷ pos 2 ∷ negsuc 2 ∷ []
unfolding row
fifth = refl

sixth : row 5 ≡ negsuc 2 ∷ negsuc 2 ∷ pos 1 ∷ pos 1 ∷ negsuc 1 ∷ negsuc 1 ∷ pos 2 ∷ negsuc 0 ∷ []
unfolding row
sixth = refl

seventh : row 6 ≡ negsuc 2 ∷ negsuc 1 ∷ pos 2 ∷ pos 3 ∷ negsuc 2 ∷ pos 1 ∷ pos 2 ∷ pos 3 ∷ []
unfolding row
seventh = refl
