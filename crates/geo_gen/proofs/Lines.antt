-- The lines of a script that are still to come.
use Rattle.std.proofs.Common.{◌≡◌, ◌∙◌, sym, ap, ℕ, zero, suc, ◌+◌, ◌-◌, ◌<◌, ◌≤◌, ◌++◌, List, arith, append_assoc}
use Rattle.std.proofs.lemmas.List.{append-nil}
use Rattle.rand_pcg.specs.Lcg.{Lcg}
use Rattle.geo_gen.specs.Scripts.{change, changes}

-- one more line is written
pub changes_more : (all k : ℕ) (g : Lcg) (before after : List ℕ) → k < all → after ≡ before ++ (change g).text → after ++ changes (all - (k + 1)) (change g).rest ≡ before ++ changes (all - k) g
unfolding changes
changes_more all k g before after l e =
    let count : all - k ≡ suc (all - (k + 1)) = omega (arith, l) in
    ap (λ (bytes : List ℕ). bytes ++ changes (all - (k + 1)) (change g).rest) e
    ∙ append_assoc before (change g).text (changes (all - (k + 1)) (change g).rest)
    ∙ ap (λ n. before ++ changes n g) (sym count)

-- none is left
pub no_changes : (all k : ℕ) (g : Lcg) (before : List ℕ) → all ≤ k → before ++ changes (all - k) g ≡ before
unfolding changes
no_changes all k g before l =
    let none : all - k ≡ zero = omega (arith, l) in
    ap (λ n. before ++ changes n g) none ∙ append-nil before
