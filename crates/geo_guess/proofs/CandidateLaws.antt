-- Which statements over numbers are left where a number leaves, and which name a number.
use Rattle.std.proofs.Common.{◌≡◌, ◌∙◌, sym, ap, refl, ℕ, suc, ◌+◌, ◌<◌, ◌==◌, ◌++◌, if◌then◌else◌, Bool, true, false, List, [], ◌∷◌, map, take, drop, arith, append_assoc, append-nil}
use Rattle.std.specs.Prelude.{◌&&◌, ◌||◌, not, filter}
use Rattle.std.proofs.lemmas.Bool.{cond_both, eqb-true, ne_eqb}
use Rattle.std.proofs.lemmas.List.{take-append-drop}
use Rattle.std.proofs.lemmas.List.Elements.{filter-append, filter_agree}
use Rattle.geo_sketch.specs.declared.elements.Element.{Element}
use Rattle.geo_sketch.specs.declared.statements.Statement.{Statement}
use Rattle.geo_sketch.specs.declared.statements.Statement.TheVariants as statement
use Rattle.geo_sketch.specs.Changes.{without}
use Rattle.geo_sketch.specs.Drops.{speaks_of}
use Rattle.geo_sketch.specs.Lookups.{Rises}
use Rattle.geo_sketch.specs.Tables.{place}
use Rattle.geo_guess.specs.Candidates.{numbers, triples_ending_in, ending_in, statements_after, statements_over}
use Rattle.geo_guess.proofs.Filters.{filter_none}

abbrev pub others : ℕ → ℕ → Bool
others n k = not (k == n)

-- all numbers in the statement pass q, the greatest one first
abbrev all_in : (ℕ → Bool) → Statement → Bool
all_in q (statement.Null n) = q n
all_in q (statement.Same n m) = q m && q n
all_in q (statement.On n m) = q m && q n
all_in q (statement.Triple n m k) = q k && (q n && q m)

not_either : (a b : Bool) → not (a || b) ≡ (not b && not a)
not_either true true = refl
not_either true false = refl
not_either false true = refl
not_either false false = refl

not_any : (a b c : Bool) → not (a || (b || c)) ≡ (not c && (not a && not b))
not_any true true true = refl
not_any true true false = refl
not_any true false true = refl
not_any true false false = refl
not_any false true true = refl
not_any false true false = refl
not_any false false true = refl
not_any false false false = refl

unnamed : (s : Statement) (n : ℕ) → not (speaks_of s n) ≡ all_in (others n) s
unnamed (statement.Null k) n = refl
unnamed (statement.Same k m) n = not_either (k == n) (m == n)
unnamed (statement.On k m) n = not_either (k == n) (m == n)
unnamed (statement.Triple k m l) n = not_any (k == n) (m == n) (l == n)

-- ---- the statements whose numbers all pass a test are those over the numbers that pass it
mapped_kept : (q : ℕ → Bool) (f : ℕ → Statement) (b : Bool) (p : Statement → Bool) → ((k : ℕ) → p (f k) ≡ (b && q k)) → (ks : List ℕ) → filter p (map f ks) ≡ (if b then map f (filter q ks) else [])
mapped_kept q f true p h [] = refl
mapped_kept q f true p h (k ∷ ks) = (λ i. if h k i then f k ∷ mapped_kept q f true p h ks i else mapped_kept q f true p h ks i) ∙ by_test (q k)
  where
    by_test : (c : Bool) → (if c then f k ∷ map f (filter q ks) else map f (filter q ks)) ≡ map f (if c then k ∷ filter q ks else filter q ks)
    by_test true = refl
    by_test false = refl
mapped_kept q f false p h [] = refl
mapped_kept q f false p h (k ∷ ks) = λ i. if h k i then f k ∷ mapped_kept q f false p h ks i else mapped_kept q f false p h ks i

triples_kept : (q : ℕ → Bool) (n : ℕ) (b : Bool) → q n ≡ b → (ks : List ℕ) → filter (all_in q) (triples_ending_in n ks) ≡ (if b then triples_ending_in n (filter q ks) else [])
triples_kept q n true t [] = refl
triples_kept q n true t (j ∷ ks) =
    filter-append (all_in q) (map (λ k. statement.Triple j k n) ks) (triples_ending_in n ks)
    ∙ (λ i. mapped_kept q (λ k. statement.Triple j k n) (q j) (all_in q) (λ k. ap (λ c. c && (q j && q k)) t) ks i ++ triples_kept q n true t ks i)
    ∙ by_test (q j)
  where
    by_test : (c : Bool) → (if c then map (λ k. statement.Triple j k n) (filter q ks) else []) ++ triples_ending_in n (filter q ks) ≡ triples_ending_in n (if c then j ∷ filter q ks else filter q ks)
    by_test true = refl
    by_test false = refl
triples_kept q n false t [] = refl
triples_kept q n false t (j ∷ ks) =
    filter-append (all_in q) (map (λ k. statement.Triple j k n) ks) (triples_ending_in n ks)
    ∙ (λ i. mapped_kept q (λ k. statement.Triple j k n) false (all_in q) (λ k. ap (λ c. c && (q j && q k)) t) ks i ++ triples_kept q n false t ks i)

three_kept : (p : Statement → Bool) (us vs ws xs ys zs : List Statement) → filter p us ≡ xs → filter p vs ≡ ys → filter p ws ≡ zs → filter p (us ++ (vs ++ ws)) ≡ xs ++ (ys ++ zs)
three_kept p us vs ws xs ys zs f g h =
    filter-append p us (vs ++ ws) ∙ (λ i. f i ++ filter-append p vs ws i) ∙ (λ i. xs ++ (g i ++ h i))

ending_kept : (q : ℕ → Bool) (n : ℕ) (b : Bool) → q n ≡ b → (below : List ℕ) → filter (all_in q) (ending_in n below) ≡ (if b then ending_in n (filter q below) else [])
ending_kept q n true t below =
    let same = mapped_kept q (λ k. statement.Same k n) true (all_in q) (λ k. ap (λ c. c && q k) t) below in
    let on = mapped_kept q (λ k. statement.On k n) true (all_in q) (λ k. ap (λ c. c && q k) t) below in
    let rest = three_kept (all_in q) _ _ _ _ _ _ same on (triples_kept q n true t below) in
    λ i. if t i then statement.Null n ∷ rest i else rest i
ending_kept q n false t below =
    let same = mapped_kept q (λ k. statement.Same k n) false (all_in q) (λ k. ap (λ c. c && q k) t) below in
    let on = mapped_kept q (λ k. statement.On k n) false (all_in q) (λ k. ap (λ c. c && q k) t) below in
    let rest = three_kept (all_in q) _ _ _ _ _ _ same on (triples_kept q n false t below) in
    λ i. if t i then statement.Null n ∷ rest i else rest i

after_kept : (q : ℕ → Bool) (below ns : List ℕ) → filter (all_in q) (statements_after below ns) ≡ statements_after (filter q below) (filter q ns)
after_kept q below [] = refl
after_kept q below (n ∷ ns) =
    filter-append (all_in q) (ending_in n below) (statements_after (below ++ n ∷ []) ns)
    ∙ (λ i. ending_kept q n (q n) refl below i ++ (after_kept q (below ++ n ∷ []) ns ∙ ap (λ ks. statements_after ks (filter q ns)) (filter-append q below (n ∷ []))) i)
    ∙ by_test (q n)
  where
    by_test : (c : Bool) → (if c then ending_in n (filter q below) else []) ++ statements_after (filter q below ++ (if c then n ∷ [] else [])) (filter q ns) ≡ statements_after (filter q below) (if c then n ∷ filter q ns else filter q ns)
    by_test true = refl
    by_test false = ap (λ ks. statements_after ks (filter q ns)) (append-nil (filter q below))

-- ---- a number that leaves
pub over_others : (n : ℕ) (ns : List ℕ) → filter (λ s. not (speaks_of s n)) (statements_over ns) ≡ statements_over (filter (others n) ns)
over_others n ns = filter_agree (λ s. not (speaks_of s n)) (all_in (others n)) (λ s. unnamed s n) (statements_over ns) ∙ after_kept (others n) [] ns

all_above : (low : ℕ) (es : List Element) (n : ℕ) → Rises low es → n < low → filter (others n) (numbers es) ≡ numbers es
all_above low [] n r h = refl
all_above low (e ∷ es) n r h = rw (ne_eqb e.number n (λ q. absurd (omega (arith, q, r.0, h)))) (ap (λ (ks : List ℕ). e.number ∷ ks) (all_above (e.number + 1) es n r.1 (omega (arith, r.0, h))))

pub numbers_without : (low : ℕ) (es : List Element) (n : ℕ) → Rises low es → numbers (without es n) ≡ filter (others n) (numbers es)
numbers_without low [] n r = refl
numbers_without low (e ∷ es) n r =
    cond_both (e.number == n) es (e ∷ without es n) (λ fs. numbers fs ≡ (if not (e.number == n) then e.number ∷ filter (others n) (numbers es) else filter (others n) (numbers es)))
    (λ t. rw t (sym (all_above (e.number + 1) es n r.1 (omega (arith, eqb-true e.number n t)))))
    (λ t. rw t (ap (λ (ks : List ℕ). e.number ∷ ks) (numbers_without (e.number + 1) es n r.1)))

-- ---- what names a number stands from its own block on
pub after_append : (below xs ys : List ℕ) → statements_after below (xs ++ ys) ≡ statements_after below xs ++ statements_after (below ++ xs) ys
after_append below [] ys = ap (λ ks. statements_after ks ys) (sym (append-nil below))
after_append below (x ∷ xs) ys =
    ap (λ (l : List Statement). ending_in x below ++ l) (after_append (below ++ x ∷ []) xs ys ∙ ap (λ ks. statements_after (below ++ x ∷ []) xs ++ statements_after ks ys) (append_assoc below (x ∷ []) xs))
    ∙ sym (append_assoc (ending_in x below) (statements_after (below ++ x ∷ []) xs) (statements_after (below ++ x ∷ xs) ys))

before_place : (es : List Element) (n : ℕ) → filter (others n) (take (place es n) (numbers es)) ≡ take (place es n) (numbers es)
before_place [] n = refl
before_place (e ∷ es) n =
    cond_both (e.number == n) 0 (suc (place es n)) (λ i. filter (others n) (take i (e.number ∷ numbers es)) ≡ take i (e.number ∷ numbers es))
    (λ t. refl)
    (λ t. rw t (ap (λ (ks : List ℕ). e.number ∷ ks) (before_place es n)))

-- those before the block of n, and from it on
pub two_parts : (es : List Element) (n : ℕ) → statements_over (numbers es) ≡ statements_over (take (place es n) (numbers es)) ++ statements_after (take (place es n) (numbers es)) (drop (place es n) (numbers es))
two_parts es n =
    ap statements_over (sym (take-append-drop (place es n) (numbers es)))
    ∙ after_append [] (take (place es n) (numbers es)) (drop (place es n) (numbers es))

pub naming_later : (c : Statement → Bool) (es : List Element) (n : ℕ) → filter (λ s. speaks_of s n && c s) (statements_after (take (place es n) (numbers es)) (drop (place es n) (numbers es))) ≡ filter (λ s. speaks_of s n && c s) (statements_over (numbers es))
naming_later c es n =
    let front = take (place es n) (numbers es) in
    let back = statements_after front (drop (place es n) (numbers es)) in
    let none = filter_none (λ s. speaks_of s n) c (statements_over front) (over_others n front ∙ ap statements_over (before_place es n)) in
    sym (ap (filter (λ s. speaks_of s n && c s)) (two_parts es n) ∙ filter-append (λ s. speaks_of s n && c s) (statements_over front) back ∙ ap (λ (l : List Statement). l ++ filter (λ s. speaks_of s n && c s) back) none)
