-- What stands in the list of conjectures, and in which order.
use Rattle.std.proofs.Common.{◌≡◌, subst, refl, inl, inr, ◌⊎◌, ℕ, zero, suc, ◌+◌, ◌*◌, ◌<◌, ◌≤◌, Bool, true, false, List, [], ◌∷◌, length, arith}
use Rattle.std.specs.Prelude.{◌&&◌, not, Contains, slice_index_or}
use Rattle.std.proofs.lemmas.Bool.{cases_lt}
use Rattle.std.proofs.lemmas.List.Elements.{All-contains, filter_passes}
use Rattle.geo_triple.specs.Zero.{AreZero}
use Rattle.geo_triple.proofs.ZeroLaws.{decides_zero}
use Rattle.geo_sketch.specs.declared.elements.Element.{Element}
use Rattle.geo_sketch.specs.declared.limits.TheConstants.{SAMPLE_COUNT}
use Rattle.geo_sketch.specs.declared.statements.Statement.{Statement}
use Rattle.geo_sketch.specs.declared.statements.Statement.TheVariants as statement
use Rattle.geo_sketch.specs.Lookups.{IsLive}
use Rattle.geo_sketch.specs.PlainStatements.{is_plain}
use Rattle.geo_sketch.specs.Posing.{is_posed}
use Rattle.geo_sketch.specs.Samples.{sample_value}
use Rattle.geo_sketch.specs.Sketches.{other, Drawing, IsDrawn, IsPosed}
use Rattle.geo_sketch.specs.Statements.{parts_at}
use Rattle.geo_sketch.proofs.PosingLaws.{decides_posed}
use Rattle.geo_sketch.proofs.SketchLaws.{live}
use Rattle.geo_guess.specs.Candidates.{numbers, statements_over}
use Rattle.geo_guess.specs.Conjectures.{conjectures_of, holds_at_samples, holds_below, is_conjecture, is_proper, is_zero_at}
use Rattle.geo_guess.specs.Noticing.{key_of, AreInOrder, ComesBefore, IsConjecture, IsZeroAtSamples}
use Rattle.geo_guess.specs.Order.{rank}
use Rattle.geo_guess.proofs.ConjectureLaws.{climbs}
use Rattle.geo_guess.proofs.ListedLaws.{passed_kept, posed_among, listed_posed}
use Rattle.geo_guess.proofs.OrderLaws.{Climbs}

-- ---- exactly the conjectures
left_of : (a b : Bool) → (a && b) ≡ true → a ≡ true
left_of true b h = refl
left_of false b h = cc

right_of : (a b : Bool) → (a && b) ≡ true → b ≡ true
right_of true b h = h
right_of false b h = cc

is_false : (a : Bool) → not a ≡ true → a ≡ false
is_false true h = cc
is_false false h = refl

zero_below : (es : List Element) (s : Statement) (count position : ℕ) → holds_below es s count ≡ true → position < count → AreZero (parts_at es s (sample_value position))
zero_below es s zero position h less = absurd (omega (arith, less))
zero_below es s (suc count) position h less =
    elim (cases_lt position count) [
      | inl l ↦ zero_below es s count position (left_of (holds_below es s count) (is_zero_at es s count) h) l
      | inr l ↦ (let same : count ≡ position = omega (arith, less, l) in
          subst (λ k. AreZero (parts_at es s (sample_value k))) same ((decides_zero (parts_at es s (sample_value count))).0 (right_of (holds_below es s count) (is_zero_at es s count) h)))
    ]

below_holds : (es : List Element) (s : Statement) (count : ℕ) → ((position : ℕ) → position < count → AreZero (parts_at es s (sample_value position))) → holds_below es s count ≡ true
below_holds es s zero h = refl
below_holds es s (suc count) h =
    let first = below_holds es s count (λ position l. h position (omega (arith, l))) in
    let last : is_zero_at es s count ≡ true = (decides_zero (parts_at es s (sample_value count))).1 (h count (omega arith)) in
    rw (first, last) refl

samples_zero : (es : List Element) (s : Statement) → holds_at_samples es s ≡ true → IsZeroAtSamples es s
unfolding holds_at_samples
samples_zero es s h = λ position l. zero_below es s SAMPLE_COUNT position h l

zero_samples : (es : List Element) (s : Statement) → IsZeroAtSamples es s → holds_at_samples es s ≡ true
unfolding holds_at_samples
zero_samples es s h = below_holds es s SAMPLE_COUNT h

pub is_conjecture_where_listed : (drawing : Drawing) (s : Statement) → Contains (conjectures_of drawing.elements) s → IsConjecture drawing.elements s
is_conjecture_where_listed drawing s h =
    let es = drawing.elements in
    let found : is_conjecture es s ≡ true = All-contains (λ s. is_conjecture es s ≡ true) (conjectures_of es) s (filter_passes (is_conjecture es) (statements_over (numbers es))) h in
    let rest = right_of (is_posed es s) (holds_at_samples es s && (is_proper es s && not (is_plain es s))) found in
    let last = right_of (holds_at_samples es s) (is_proper es s && not (is_plain es s)) rest in
    record {
      posed = listed_posed es s h;
      zero_at_samples = samples_zero es s (left_of (holds_at_samples es s) (is_proper es s && not (is_plain es s)) rest);
      proper = left_of (is_proper es s) (not (is_plain es s)) last;
      not_plain = is_false (is_plain es s) (right_of (is_proper es s) (not (is_plain es s)) last);
    }

pub listed_where_conjecture : (drawing : Drawing) → IsDrawn drawing → (s : Statement) → IsConjecture drawing.elements s → Contains (conjectures_of drawing.elements) s
listed_where_conjecture drawing drawn s h =
    let es = drawing.elements in
    let found : is_conjecture es s ≡ true = rw ((decides_posed es s).1 h.posed, zero_samples es s h.zero_at_samples, h.proper, h.not_plain) refl in
    let among = posed_among drawing drawn s h.posed in
    passed_kept (is_conjecture es) (statements_over (numbers es)) s among.0 among.1 among.2 found

-- ---- their order
last_of : Statement → ℕ
last_of (statement.Null n) = n
last_of (statement.Same n m) = m
last_of (statement.On n m) = m
last_of (statement.Triple n m k) = k

kind_of : Statement → ℕ
kind_of (statement.Null n) = 0
kind_of (statement.Same n m) = 1
kind_of (statement.On n m) = 2
kind_of (statement.Triple n m k) = 3

-- what its other numbers add to the rank
others_of : Statement → ℕ
others_of (statement.Null n) = 0
others_of (statement.Same n m) = n
others_of (statement.On n m) = n
others_of (statement.Triple n m k) = 1000 * n + m

-- all numbers are below 1000
abbrev AreSmall : Statement → Type 0
AreSmall (statement.Null n) = n < 1000
AreSmall (statement.Same n m) = (n < 1000) × (m < 1000)
AreSmall (statement.On n m) = (n < 1000) × (m < 1000)
AreSmall (statement.Triple n m k) = (n < 1000) × ((m < 1000) × (k < 1000))

by_parts : (l k o m j p : ℕ) → o < 1000000 → p < 1000000 → k < 4 → j < 4 → 4000000 * l + 1000000 * k + o < 4000000 * m + 1000000 * j + p → (l < m) ⊎ ((l ≡ m) × ((k < j) ⊎ ((k ≡ j) × (o < p))))
by_parts l k o m j p a b c d less =
    elim (cases_lt l m) [
      | inl h ↦ inl h
      | inr h ↦ (let same : l ≡ m = omega (arith, h, less, a, b, c, d) in
          inr (
            same,
            elim (cases_lt k j) [
              | inl h2 ↦ inl h2
              | inr h2 ↦ (let alike : k ≡ j = omega (arith, same, h2, less, a, b, c, d) in inr (alike, omega (arith, same, alike, less)))
            ],
          ))
    ]

two_less : (n m p q : ℕ) → m < 1000 → q < 1000 → 1000 * n + m < 1000 * p + q → (n < p) ⊎ ((n ≡ p) × (m < q))
two_less n m p q a b less =
    elim (cases_lt n p) [
      | inl h ↦ inl h
      | inr h ↦ (let same : n ≡ p = omega (arith, h, less, a, b) in inr (same, omega (arith, same, less)))
    ]

-- what decides by the first two numbers, and by the others where these are the same
combined : (l k o m j p : ℕ) (xs ys : List ℕ) → o < 1000000 → p < 1000000 → k < 4 → j < 4 → 4000000 * l + 1000000 * k + o < 4000000 * m + 1000000 * j + p → (k ≡ j → o < p → ComesBefore xs ys) → ComesBefore (l ∷ k ∷ xs) (m ∷ j ∷ ys)
combined l k o m j p xs ys a b c d less others =
    elim (by_parts l k o m j p a b c d less) [
      | inl h ↦ inl h
      | inr h ↦ inr (
        h.0,
        elim h.1 [
          | inl h2 ↦ inl h2
          | inr h2 ↦ inr (h2.0, others h2.0 h2.1)
        ],
      )
    ]

in_three : (n m p q k r : ℕ) → m < 1000 → q < 1000 → 1000 * n + m < 1000 * p + q → ComesBefore (n ∷ m ∷ k ∷ []) (p ∷ q ∷ r ∷ [])
in_three n m p q k r a b less =
    elim (two_less n m p q a b less) [
      | inl h ↦ inl h
      | inr h ↦ inr (h.0, inl h.1)
    ]

before : (s t : Statement) → AreSmall s → AreSmall t → rank s < rank t → ComesBefore (key_of s) (key_of t)
before (statement.Null n) (statement.Null p) f g less =
    combined n 0 0 p 0 0 (n ∷ []) (p ∷ []) (omega arith) (omega arith) (omega arith) (omega arith) (omega (arith, less)) (λ e o. absurd (omega (arith, o)))
before (statement.Null n) (statement.Same p q) f g less =
    combined n 0 0 q 1 p (n ∷ []) (p ∷ q ∷ []) (omega arith) (omega (arith, g.0)) (omega arith) (omega arith) (omega (arith, less)) (λ e o. absurd (omega (arith, e)))
before (statement.Null n) (statement.On p q) f g less =
    combined n 0 0 q 2 p (n ∷ []) (p ∷ q ∷ []) (omega arith) (omega (arith, g.0)) (omega arith) (omega arith) (omega (arith, less)) (λ e o. absurd (omega (arith, e)))
before (statement.Null n) (statement.Triple p q r) f g less =
    combined n 0 0 r 3 (1000 * p + q) (n ∷ []) (p ∷ q ∷ r ∷ []) (omega arith) (omega (arith, g.0, g.1.0)) (omega arith) (omega arith) (omega (arith, less)) (λ e o. absurd (omega (arith, e)))
before (statement.Same n m) (statement.Null p) f g less =
    combined m 1 n p 0 0 (n ∷ m ∷ []) (p ∷ []) (omega (arith, f.0)) (omega arith) (omega arith) (omega arith) (omega (arith, less)) (λ e o. absurd (omega (arith, e)))
before (statement.Same n m) (statement.Same p q) f g less =
    combined m 1 n q 1 p (n ∷ m ∷ []) (p ∷ q ∷ []) (omega (arith, f.0)) (omega (arith, g.0)) (omega arith) (omega arith) (omega (arith, less)) (λ e o. inl o)
before (statement.Same n m) (statement.On p q) f g less =
    combined m 1 n q 2 p (n ∷ m ∷ []) (p ∷ q ∷ []) (omega (arith, f.0)) (omega (arith, g.0)) (omega arith) (omega arith) (omega (arith, less)) (λ e o. absurd (omega (arith, e)))
before (statement.Same n m) (statement.Triple p q r) f g less =
    combined m 1 n r 3 (1000 * p + q) (n ∷ m ∷ []) (p ∷ q ∷ r ∷ []) (omega (arith, f.0)) (omega (arith, g.0, g.1.0)) (omega arith) (omega arith) (omega (arith, less)) (λ e o. absurd (omega (arith, e)))
before (statement.On n m) (statement.Null p) f g less =
    combined m 2 n p 0 0 (n ∷ m ∷ []) (p ∷ []) (omega (arith, f.0)) (omega arith) (omega arith) (omega arith) (omega (arith, less)) (λ e o. absurd (omega (arith, e)))
before (statement.On n m) (statement.Same p q) f g less =
    combined m 2 n q 1 p (n ∷ m ∷ []) (p ∷ q ∷ []) (omega (arith, f.0)) (omega (arith, g.0)) (omega arith) (omega arith) (omega (arith, less)) (λ e o. absurd (omega (arith, e)))
before (statement.On n m) (statement.On p q) f g less =
    combined m 2 n q 2 p (n ∷ m ∷ []) (p ∷ q ∷ []) (omega (arith, f.0)) (omega (arith, g.0)) (omega arith) (omega arith) (omega (arith, less)) (λ e o. inl o)
before (statement.On n m) (statement.Triple p q r) f g less =
    combined m 2 n r 3 (1000 * p + q) (n ∷ m ∷ []) (p ∷ q ∷ r ∷ []) (omega (arith, f.0)) (omega (arith, g.0, g.1.0)) (omega arith) (omega arith) (omega (arith, less)) (λ e o. absurd (omega (arith, e)))
before (statement.Triple n m k) (statement.Null p) f g less =
    combined k 3 (1000 * n + m) p 0 0 (n ∷ m ∷ k ∷ []) (p ∷ []) (omega (arith, f.0, f.1.0)) (omega arith) (omega arith) (omega arith) (omega (arith, less)) (λ e o. absurd (omega (arith, e)))
before (statement.Triple n m k) (statement.Same p q) f g less =
    combined k 3 (1000 * n + m) q 1 p (n ∷ m ∷ k ∷ []) (p ∷ q ∷ []) (omega (arith, f.0, f.1.0)) (omega (arith, g.0)) (omega arith) (omega arith) (omega (arith, less)) (λ e o. absurd (omega (arith, e)))
before (statement.Triple n m k) (statement.On p q) f g less =
    combined k 3 (1000 * n + m) q 2 p (n ∷ m ∷ k ∷ []) (p ∷ q ∷ []) (omega (arith, f.0, f.1.0)) (omega (arith, g.0)) (omega arith) (omega arith) (omega (arith, less)) (λ e o. absurd (omega (arith, e)))
before (statement.Triple n m k) (statement.Triple p q r) f g less =
    combined k 3 (1000 * n + m) r 3 (1000 * p + q) (n ∷ m ∷ k ∷ []) (p ∷ q ∷ r ∷ []) (omega (arith, f.0, f.1.0)) (omega (arith, g.0, g.1.0)) (omega arith) (omega arith) (omega (arith, less)) (λ e o. in_three n m p q k r f.1.0 g.1.0 o)

climbs_from : (low : ℕ) (ss : List Statement) (high i : ℕ) (d : Statement) → Climbs low ss high → i < length ss → low ≤ rank (slice_index_or ss i d)
climbs_from low [] high i d c within = absurd (omega (arith, within))
climbs_from low (s ∷ ss) high zero d c within = c.0
climbs_from low (s ∷ ss) high (suc i) d c within = omega (arith, c.0, climbs_from (rank s + 1) ss high i d c.1 (omega (arith, within)))

climbs_between : (low : ℕ) (ss : List Statement) (high i j : ℕ) (d : Statement) → Climbs low ss high → i < j → j < length ss → rank (slice_index_or ss i d) < rank (slice_index_or ss j d)
climbs_between low [] high i j d c less within = absurd (omega (arith, within))
climbs_between low (s ∷ ss) high i zero d c less within = absurd (omega (arith, less))
climbs_between low (s ∷ ss) high zero (suc j) d c less within = omega (arith, climbs_from (rank s + 1) ss high j d c.1 (omega (arith, within)))
climbs_between low (s ∷ ss) high (suc i) (suc j) d c less within = climbs_between (rank s + 1) ss high i j d c.1 (omega (arith, less)) (omega (arith, within))

module _ (drawing : Drawing) (drawn : IsDrawn drawing) where
  number_small : (n : ℕ) → IsLive drawing.elements n → n < 1000
  number_small n l = omega (arith, drawn.given n l.0 l.1, drawn.numbers_room)

  numbers_small : (s : Statement) → IsPosed drawing.elements s → AreSmall s
  numbers_small (statement.Null n) h = number_small n (live drawing.elements n h.0 h.1)
  numbers_small (statement.Same n m) h = (number_small n (live drawing.elements n h.1.0 h.1.1.0), number_small m (live drawing.elements m h.1.0 h.1.1.1))
  numbers_small (statement.On n m) h = (number_small n (live drawing.elements n h.1.0 h.1.1.0), number_small m (live drawing.elements m (other h.1.0) h.1.1.1))
  numbers_small (statement.Triple n m k) h = (number_small n (live drawing.elements n h.2.0 h.2.1.0), (number_small m (live drawing.elements m h.2.0 h.2.1.1), number_small k (live drawing.elements k h.2.0 h.2.1.2)))

  small_at : (i : ℕ) (d : Statement) → i < length (conjectures_of drawing.elements) → AreSmall (slice_index_or (conjectures_of drawing.elements) i d)
  small_at i d within =
      let es = drawing.elements in
      let s = slice_index_or (conjectures_of es) i d in
      let found : is_conjecture es s ≡ true = filter_passes (is_conjecture es) (statements_over (numbers es)) i d within in
      numbers_small s ((decides_posed es s).0 (left_of (is_posed es s) (holds_at_samples es s && (is_proper es s && not (is_plain es s))) found))

  pub conjectures_in_order : AreInOrder (conjectures_of drawing.elements)
  conjectures_in_order i j d less within =
      let ss = conjectures_of drawing.elements in
      before (slice_index_or ss i d) (slice_index_or ss j d) (small_at i d (omega (arith, less, within))) (small_at j d within)
      (climbs_between 0 ss (4000000 * length drawing.settings) i j d (climbs drawing drawn) less within)
