-- A front part that grows.
use Rattle.std.proofs.Common.{◌≡◌, ℕ, ◌-◌, List, ◌++◌, length, take, drop, Option, sym, ap, ◌∙◌, append_assoc, take-append-drop}
use Rattle.std.specs.Io.KnownBytes.{Appends}
use Rattle.std.proofs.KnownBytes.{Appends-trans}
use Rattle.std.proofs.lemmas.List.{take_rest}

-- where a front part was appended, and then n bytes of the rest, a longer front part was
pub front_more : (a b c : Option (List ℕ)) (whole front rest : List ℕ) (n : ℕ) → whole ≡ front ++ rest → Appends a b front → Appends b c (take n rest)
    → (more : List ℕ) × (whole ≡ more ++ take (length rest - n) (drop n rest)) × Appends a c more
front_more a b c whole front rest n whole_is first then =
    let seam : rest ≡ take n rest ++ take (length rest - n) (drop n rest) = sym (take-append-drop n rest) ∙ ap (λ l. take n rest ++ l) (sym (take_rest rest n)) in
    (front ++ take n rest, whole_is ∙ ap (λ l. front ++ l) seam ∙ sym (append_assoc front (take n rest) _), Appends-trans a b c front (take n rest) first then)
