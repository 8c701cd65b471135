-- Words read one after another, and bytes cut at commas.
use Rattle.std.proofs.Common.{◌≡◌, ◌∙◌, sym, ap, refl, ℕ, suc, ◌+◌, ◌<◌, Bool, true, false, cond, subst, List, [], ◌∷◌, ◌++◌, length, take, drop, All, Option, None, Some, option_map, arith, append_assoc}
use Rattle.std.specs.List.{position, position_or_len, slice_split, onto_first}
use Rattle.std.proofs.lemmas.Grind.{common_steps}
use Rattle.std.proofs.lemmas.List.Elements.{All-cons, All-head, All-nil, All-tail}
use Rattle.std.proofs.lemmas.List.Splits.{slice_split_first}
use Rattle.geo_bracket.specs.Grammar.{all_read, in_front, is_comma, three_named}

-- ---- what was read goes before what is read of the rest
module _ {X Y : Type 0} (read : X → Option Y) where
  pub reads_on : (x : X) (xs : List X) (y : Y) (ys : List Y) → read x ≡ Some y → option_map (λ zs. ys ++ zs) (all_read read (x ∷ xs)) ≡ option_map (λ zs. (ys ++ y ∷ []) ++ zs) (all_read read xs)
  reads_on x xs y ys h = rw h (by_rest (all_read read xs))
    where
      by_rest : (o : Option (List Y)) → option_map (λ zs. ys ++ zs) (option_map (λ zs. y ∷ zs) o) ≡ option_map (λ zs. (ys ++ y ∷ []) ++ zs) o
      by_rest None = refl
      by_rest (Some zs) = ap Some (sym (append_assoc ys (y ∷ []) zs))

  pub stops : (x : X) (xs : List X) (ys : List Y) → read x ≡ None → option_map (λ zs. ys ++ zs) (all_read read (x ∷ xs)) ≡ None
  stops x xs ys h = rw h refl

-- ---- what was read of all
module _ {X Y : Type 0} (read : X → Option Y) where
  pub read_length : (xs : List X) (ys : List Y) → all_read read xs ≡ Some ys → length ys ≡ length xs
  read_length [] ys e = let same : [] ≡ ys = cc in subst (λ zs. length zs ≡ 0) same refl
  read_length (x ∷ xs) ys e = by_first (read x) (all_read read xs) refl e (read_length xs)
    where
      by_first : (o : Option Y) (r : Option (List Y)) → all_read read xs ≡ r → in_front o r ≡ Some ys → ((zs : List Y) → all_read read xs ≡ Some zs → length zs ≡ length xs) → length ys ≡ suc (length xs)
      by_first None r q e rest = cc
      by_first (Some y) None q e rest = cc
      by_first (Some y) (Some zs) q e rest = let same : (y ∷ zs) ≡ ys = cc in subst (λ us. length us ≡ suc (length xs)) same (ap suc (rest zs q))

  module _ (P : X → Type 0) (Q : Y → Type 0) (each : (x : X) (y : Y) → P x → read x ≡ Some y → Q y) where
    pub read_all : (xs : List X) (ys : List Y) → All P xs → all_read read xs ≡ Some ys → All Q ys
    read_all [] ys h e = let same : [] ≡ ys = cc in subst (λ zs. All Q zs) same (All-nil Q)
    read_all (x ∷ xs) ys h e = by_first (read x) (all_read read xs) refl refl e (read_all xs)
      where
        by_first : (o : Option Y) (r : Option (List Y)) → read x ≡ o → all_read read xs ≡ r → in_front o r ≡ Some ys → ((zs : List Y) → All P xs → all_read read xs ≡ Some zs → All Q zs) → All Q ys
        by_first None r p q e rest = cc
        by_first (Some y) None p q e rest = cc
        by_first (Some y) (Some zs) p q e rest = let same : (y ∷ zs) ≡ ys = cc in subst (λ us. All Q us) same (All-cons Q y zs (each x y (All-head P x xs h) p) (rest zs (All-tail P x xs h) q))

-- ---- at the first comma
pub cut_at : (bytes : List ℕ) (n : ℕ) → position is_comma bytes ≡ Some n → slice_split is_comma bytes ≡ take n bytes ∷ slice_split is_comma (drop (n + 1) bytes)
cut_at bytes n found =
    let inside : position_or_len is_comma bytes < length bytes = grind (arith, common_steps) in
    let same : n ≡ position_or_len is_comma bytes = grind (arith, common_steps) in
    rw same (slice_split_first is_comma bytes 0 inside)

pub uncut : (bytes : List ℕ) → position is_comma bytes ≡ None → slice_split is_comma bytes ≡ bytes ∷ []
uncut [] none = refl
uncut (b ∷ bytes) none = by_test (is_comma b) refl (uncut bytes)
  where
    by_test : (t : Bool) → is_comma b ≡ t → (position is_comma bytes ≡ None → slice_split is_comma bytes ≡ bytes ∷ []) → slice_split is_comma (b ∷ bytes) ≡ (b ∷ bytes) ∷ []
    by_test true e rest = grind (arith, common_steps)
    by_test false e rest = let none : position is_comma bytes ≡ None = grind (arith, common_steps) in rw (e, rest none) refl

some_part : (bytes : List ℕ) → (part : List ℕ) × (parts : List (List ℕ)) × (slice_split is_comma bytes ≡ part ∷ parts)
some_part [] = ([], [], refl)
some_part (b ∷ bytes) = let rest = some_part bytes in by_test (is_comma b) rest.0 rest.1 rest.2
  where
    by_test : (t : Bool) (part : List ℕ) (parts : List (List ℕ)) → slice_split is_comma bytes ≡ part ∷ parts → (q : List ℕ) × (qs : List (List ℕ)) × (cond t ([] ∷ slice_split is_comma bytes) (onto_first b (slice_split is_comma bytes)) ≡ q ∷ qs)
    by_test true part parts e = ([], slice_split is_comma bytes, refl)
    by_test false part parts e = (b ∷ part, parts, ap (onto_first b) e)

-- four parts are no three names
pub too_many : (a b c rest : List ℕ) → three_named (a ∷ b ∷ c ∷ slice_split is_comma rest) ≡ None
too_many a b c rest = let more = some_part rest in rw more.2 refl
