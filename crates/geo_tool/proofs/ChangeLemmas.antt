-- Words with one space between two.
use Rattle.std.proofs.Common.{◌≡◌, ◌∙◌, sym, ap, ℕ, ◌++◌, List, [], ◌∷◌, map}
use Rattle.std.specs.List.{flat_map, join_with_byte}
use Rattle.std.proofs.lemmas.List.{append-nil, append_assoc}

-- the first word, and each other behind a space
pub joined_words : (f : List ℕ → List ℕ) (w : List ℕ) (ws : List (List ℕ)) → join_with_byte 32 (map f (w ∷ ws)) ≡ f w ++ flat_map (λ v. 32 ∷ f v) ws
joined_words f w [] = sym (append-nil (f w))
joined_words f w (v ∷ ws) = ap (λ bytes. f w ++ 32 ∷ bytes) (joined_words f v ws)

-- a word and then the others behind spaces, put at the end
pub put_joined : (f : List ℕ → List ℕ) (w : List ℕ) (others ws : List (List ℕ)) (before between after : List ℕ) → ws ≡ w ∷ others
    → between ≡ before ++ f w → after ≡ between ++ flat_map (λ v. 32 ∷ f v) others → after ≡ before ++ join_with_byte 32 (map f ws)
put_joined f w others ws before between after parts first rest =
    rest ∙ ap (λ bytes. bytes ++ flat_map (λ v. 32 ∷ f v) others) first ∙ append_assoc before (f w) (flat_map (λ v. 32 ∷ f v) others)
    ∙ ap (λ bytes. before ++ bytes) (sym (joined_words f w others)) ∙ ap (λ vs. before ++ join_with_byte 32 (map f vs)) (sym parts)
