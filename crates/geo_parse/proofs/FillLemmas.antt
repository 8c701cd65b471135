-- Words in a slice that are what they have to be.
use Rattle.std.proofs.Common.{◌≡◌, ℕ, ℤ, List, [], ◌∷◌, length, map, get_or, Some, FitsSigned, to_z, of_z, arith, Bor}
use Rattle.std.specs.Int.{w64}
use Rattle.std.proofs.lemmas.Int.{to_z-of_z}
use Rattle.geo_parse.specs.Numbers.{number_of}
use Rattle.geo_parse.specs.Grammar.{Part, name, number, Fills, FillAll}

-- a number stays the same where it passes through a machine word
pub as_read : (w : List ℕ) (z : ℤ) → FitsSigned w64 z → number_of w ≡ Some z → Fills (number (to_z w64 (of_z w64 z))) w
as_read w z range h = rw (to_z-of_z w64 z range) h

-- three words, one by one
pub fill3 : (p q r : Part) (ws : List (Bor (List ℕ))) (d : Bor (List ℕ)) → length ws ≡ 3
    → Fills p (get_or ws 0 d).now → Fills q (get_or ws 1 d).now → Fills r (get_or ws 2 d).now → FillAll (p ∷ q ∷ r ∷ []) (map (λ w. w.now) ws)
fill3 p q r [] d len f g h = absurd (omega arith)
fill3 p q r (u ∷ []) d len f g h = absurd (omega arith)
fill3 p q r (u ∷ v ∷ []) d len f g h = absurd (omega arith)
fill3 p q r (u ∷ v ∷ w ∷ []) d len f g h = (f, (g, (h, tt)))
fill3 p q r (u ∷ v ∷ w ∷ x ∷ ws) d len f g h = absurd (omega arith)

-- four words, one by one
pub fill4 : (p q r s : Part) (ws : List (Bor (List ℕ))) (d : Bor (List ℕ)) → length ws ≡ 4
    → Fills p (get_or ws 0 d).now → Fills q (get_or ws 1 d).now → Fills r (get_or ws 2 d).now → Fills s (get_or ws 3 d).now
    → FillAll (p ∷ q ∷ r ∷ s ∷ []) (map (λ w. w.now) ws)
fill4 p q r s [] d len f g h k = absurd (omega arith)
fill4 p q r s (t ∷ ws) d len f g h k = (f, fill3 q r s ws d (omega arith) g h k)

-- a name and two numbers stay the same where they pass through machine words
pub passed_nxx : (n : List ℕ) (x y : ℤ) (ws : List (List ℕ)) → FitsSigned w64 x × FitsSigned w64 y → FillAll (name n ∷ number x ∷ number y ∷ []) ws
    → FillAll (name n ∷ number (to_z w64 (of_z w64 x)) ∷ number (to_z w64 (of_z w64 y)) ∷ []) ws
passed_nxx n x y ws fits h = rw (to_z-of_z w64 x fits.0, to_z-of_z w64 y fits.1) h
