-- The order of a statement's numbers does not matter for whether its parts are 0.
use Rattle.std.proofs.Common.{◌≡◌, ◌∙◌, ap, subst, inl, inr, ℕ, ◌<◌, ◌≤◌, ⊎_elim, ℤ, pos, neg_ℤ, List, [], ◌∷◌, min, max, arith}
use Rattle.std.proofs.lemmas.Bool.{cases_lt}
use Rattle.geo_algebra.proofs.Ring.{ring, reads}
use Rattle.geo_triple.specs.declared.Triple.{Triple}
use Rattle.geo_triple.specs.Triple.{cross_of, dot_of, determinant_of}
use Rattle.geo_sketch.specs.declared.elements.Element.{Element}
use Rattle.geo_sketch.specs.declared.statements.Statement.{Statement}
use Rattle.geo_sketch.specs.declared.statements.Statement.TheVariants as statement
use Rattle.geo_sketch.specs.Claims.{least, middle, greatest}
use Rattle.geo_sketch.specs.Statements.{parts_at}
use Rattle.geo_triple.specs.Zero.{AreZero, coordinates}
use Rattle.geo_sketch.specs.Triples.{triple_at}
use Rattle.geo_infer.specs.Shapes.{rising}

-- ---- a property of two or of three numbers, in any order
pub two_rising : (P : ℕ → ℕ → Type 0) → ((a b : ℕ) → P a b → P b a) → (n m : ℕ) → P n m → P (min n m) (max n m)
two_rising P swap n m h =
    elim (cases_lt n m) [
      | inl l ↦ (let low : n ≡ min n m = omega arith in let high : m ≡ max n m = omega arith in
          subst (λ (b : ℕ). P (min n m) b) high (subst (λ (a : ℕ). P a m) low h))
      | inr l ↦ (let low : m ≡ min n m = omega arith in let high : n ≡ max n m = omega arith in
          subst (λ (b : ℕ). P (min n m) b) high (subst (λ (a : ℕ). P a n) low (swap n m h)))
    ]

placed : (P : ℕ → ℕ → ℕ → Type 0) (x y z a b c : ℕ) → x ≡ a → y ≡ b → z ≡ c → P x y z → P a b c
placed P x y z a b c p q r h = subst (λ (i : ℕ). P i b c) p (subst (λ (i : ℕ). P x i c) q (subst (λ (i : ℕ). P x y i) r h))

pub three_rising : (P : ℕ → ℕ → ℕ → Type 0) → ((a b c : ℕ) → P a b c → P b a c) → ((a b c : ℕ) → P a b c → P a c b) → (n m k : ℕ) → P n m k → P (least n m k) (middle n m k) (greatest n m k)
three_rising P first last n m k h =
    let to = λ (x y z : ℕ). placed P x y z (least n m k) (middle n m k) (greatest n m k) in
    elim (cases_lt n m) [
      | inl a ↦ elim (cases_lt m k) [
        | inl b ↦ to n m k (omega arith) (omega arith) (omega arith) h
        | inr b ↦ elim (cases_lt n k) [
          | inl c ↦ to n k m (omega arith) (omega arith) (omega arith) (last n m k h)
          | inr c ↦ to k n m (omega arith) (omega arith) (omega arith) (first n k m (last n m k h))
        ]
      ]
      | inr a ↦ elim (cases_lt n k) [
        | inl b ↦ to m n k (omega arith) (omega arith) (omega arith) (first n m k h)
        | inr b ↦ elim (cases_lt m k) [
          | inl c ↦ to m k n (omega arith) (omega arith) (omega arith) (last m n k (first n m k h))
          | inr c ↦ to k m n (omega arith) (omega arith) (omega arith) (first m k n (last m n k (first n m k h)))
        ]
      ]
    ]

-- ---- of parts
opposite : (x y : ℤ) → x ≡ neg_ℤ y → y ≡ pos 0 → x ≡ pos 0
opposite x y e z = e ∙ ap neg_ℤ z

dot_swapped : (s t : Triple) → dot_of t s ≡ dot_of s t
dot_swapped s t = ring (s.a ∷ s.b ∷ s.c ∷ t.a ∷ t.b ∷ t.c ∷ []) (search reads depth 40 fits 5000) tt

cross_a : (s t : Triple) → (cross_of t s).a ≡ neg_ℤ (cross_of s t).a
unfolding cross_of
cross_a s t = ring (s.a ∷ s.b ∷ s.c ∷ t.a ∷ t.b ∷ t.c ∷ []) (search reads depth 40 fits 5000) tt

cross_b : (s t : Triple) → (cross_of t s).b ≡ neg_ℤ (cross_of s t).b
unfolding cross_of
cross_b s t = ring (s.a ∷ s.b ∷ s.c ∷ t.a ∷ t.b ∷ t.c ∷ []) (search reads depth 40 fits 5000) tt

cross_c : (s t : Triple) → (cross_of t s).c ≡ neg_ℤ (cross_of s t).c
unfolding cross_of
cross_c s t = ring (s.a ∷ s.b ∷ s.c ∷ t.a ∷ t.b ∷ t.c ∷ []) (search reads depth 40 fits 5000) tt

first_two : (s t u : Triple) → determinant_of t s u ≡ neg_ℤ (determinant_of s t u)
unfolding determinant_of cross_of
first_two s t u = ring (s.a ∷ s.b ∷ s.c ∷ t.a ∷ t.b ∷ t.c ∷ u.a ∷ u.b ∷ u.c ∷ []) (search reads depth 60 fits 9000) tt

last_two : (s t u : Triple) → determinant_of s u t ≡ neg_ℤ (determinant_of s t u)
unfolding determinant_of cross_of
last_two s t u = ring (s.a ∷ s.b ∷ s.c ∷ t.a ∷ t.b ∷ t.c ∷ u.a ∷ u.b ∷ u.c ∷ []) (search reads depth 60 fits 9000) tt

module _ (es : List Element) (v : ℕ → ℤ) where
  abbrev at : ℕ → Triple
  at n = triple_at es n v

  abbrev IsNull : Statement → Type 0
  IsNull s = AreZero (parts_at es s v)

  same_swapped : (n m : ℕ) → IsNull (statement.Same n m) → IsNull (statement.Same m n)
  same_swapped n m h = (
    opposite (cross_of (at m) (at n)).a (cross_of (at n) (at m)).a (cross_a (at n) (at m)) h.0,
    (
      opposite (cross_of (at m) (at n)).b (cross_of (at n) (at m)).b (cross_b (at n) (at m)) h.1.0,
      (opposite (cross_of (at m) (at n)).c (cross_of (at n) (at m)).c (cross_c (at n) (at m)) h.1.1.0, tt),
    ),
  )

  on_swapped : (n m : ℕ) → IsNull (statement.On n m) → IsNull (statement.On m n)
  on_swapped n m h = (dot_swapped (at n) (at m) ∙ h.0, tt)

  first_swapped : (n m k : ℕ) → IsNull (statement.Triple n m k) → IsNull (statement.Triple m n k)
  first_swapped n m k h = (opposite (determinant_of (at m) (at n) (at k)) (determinant_of (at n) (at m) (at k)) (first_two (at n) (at m) (at k)) h.0, tt)

  last_swapped : (n m k : ℕ) → IsNull (statement.Triple n m k) → IsNull (statement.Triple n k m)
  last_swapped n m k h = (opposite (determinant_of (at n) (at k) (at m)) (determinant_of (at n) (at m) (at k)) (last_two (at n) (at m) (at k)) h.0, tt)

  -- from the statement as it is said to that with rising numbers
  pub null_rising : (s : Statement) → IsNull s → IsNull (rising s)
  null_rising (statement.Null n) h = h
  null_rising (statement.Same n m) h = two_rising (λ a b. IsNull (statement.Same a b)) same_swapped n m h
  null_rising (statement.On n m) h = two_rising (λ a b. IsNull (statement.On a b)) on_swapped n m h
  null_rising (statement.Triple n m k) h = three_rising (λ a b c. IsNull (statement.Triple a b c)) first_swapped last_swapped n m k h

  -- and back
  pub null_as_said : (s : Statement) → IsNull (rising s) → IsNull s
  null_as_said (statement.Null n) = λ h. h
  null_as_said (statement.Same n m) = two_rising (λ a b. IsNull (statement.Same a b) → IsNull (statement.Same n m)) (λ a b f h. f (same_swapped b a h)) n m (λ h. h)
  null_as_said (statement.On n m) = two_rising (λ a b. IsNull (statement.On a b) → IsNull (statement.On n m)) (λ a b f h. f (on_swapped b a h)) n m (λ h. h)
  null_as_said (statement.Triple n m k) =
      three_rising (λ a b c. IsNull (statement.Triple a b c) → IsNull (statement.Triple n m k)) (λ a b c f h. f (first_swapped b a c h)) (λ a b c f h. f (last_swapped a c b h)) n m k (λ h. h)
