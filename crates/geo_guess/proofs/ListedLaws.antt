-- What holds everywhere is listed, what is listed is posed, and duality and changes of one element.
-- lemmas for other crates
use Rattle.std.proofs.Common.{◌≡◌, ◌∙◌, sym, ap, subst, refl, inl, inr, ℕ, zero, suc, ◌+◌, ◌<◌, ◌==◌, ◌++◌, Bool, true, false, Option, None, Some, option_map, List, [], ◌∷◌, length, get_or, map, take, drop, ℤ, pos, arith}
use Rattle.std.specs.Prelude.{◌&&◌, is_some, Contains, filter}
use Rattle.std.proofs.lemmas.Bool.{cases_eq, cond_both, eq-eqb, ne_eqb}
use Rattle.std.proofs.lemmas.Bool.Decides.{Decides-int_eq}
use Rattle.std.proofs.lemmas.List.{drop_more, get_or-map, get_or-take, length-map, length-take-le}
use Rattle.std.proofs.lemmas.List.Elements.{All-contains, Contains-append_left, Contains-append_right, filter_agree, filter_passes}
use Rattle.geo_sketch.specs.declared.changes.Delta.TheVariants as delta
use Rattle.geo_sketch.specs.declared.elements.Element.{Element}
use Rattle.geo_sketch.specs.declared.elements.Kind.{Kind}
use Rattle.geo_sketch.specs.declared.elements.Kind.TheVariants.{Point, Line}
use Rattle.geo_sketch.specs.declared.elements.Setting.{Setting}
use Rattle.geo_sketch.specs.declared.statements.Statement.{Statement}
use Rattle.geo_sketch.specs.declared.statements.Statement.TheVariants as statement
use Rattle.geo_sketch.specs.Assignments.{assignment_of, first_parameter, second_parameter}
use Rattle.geo_sketch.specs.Changes.{applied, exchanged, taken_back, without, LeadsFrom, LeadsTo}
use Rattle.geo_sketch.specs.Constructions.{computed}
use Rattle.geo_sketch.specs.Lookups.{def_at, kind_at, numbered, IsLive}
use Rattle.geo_sketch.specs.PlainStatements.{is_plain}
use Rattle.geo_sketch.specs.Posing.{fits, is_posed, of_one_kind, of_two_kinds}
use Rattle.geo_sketch.specs.Samples.{sample_value}
use Rattle.geo_sketch.specs.declared.limits.TheConstants.{SAMPLE_COUNT}
use Rattle.geo_sketch.specs.Sketches.{other, Drawing, IsDrawn, IsPosed}
use Rattle.geo_sketch.specs.Statements.{parts_at, Holds}
use Rattle.geo_triple.specs.Zero.{AreZero, are_zero}
use Rattle.geo_sketch.specs.Tables.{place}
use Rattle.geo_sketch.specs.Triples.{triple_algebra, triple_at}
use Rattle.geo_sketch.proofs.ChangeLaws.{taken_back_is}
use Rattle.geo_sketch.proofs.ConstructionLaws.{at_named, by_def_same}
use Rattle.geo_sketch.proofs.DualLaws.{computed_exchanged, def_exchanged, numbered_exchanged}
use Rattle.geo_sketch.proofs.LiveElements.{related}
use Rattle.geo_sketch.proofs.NumberLaws.{number_found}
use Rattle.geo_sketch.proofs.PosingLaws.{decides_posed}
use Rattle.geo_sketch.proofs.SketchLaws.{constructed, live}
use Rattle.geo_sketch.proofs.StatementLaws.{at_all, parts_same}
use Rattle.geo_sketch.proofs.TableLaws.{found_at, place_before, place_within}
use Rattle.geo_sketch.proofs.ValueLaws.{triples_agree}
use Rattle.geo_guess.specs.Candidates.{numbers, triples_ending_in, ending_in, statements_after, statements_over}
use Rattle.geo_guess.specs.Conjectures.{conjectures_of, holds_at_samples, holds_below, is_conjecture, is_proper, is_zero_at, IsWithout}
use Rattle.geo_guess.proofs.CandidateLaws.{two_parts}
use Rattle.geo_guess.proofs.ConjectureLaws.{conjecture_same, SameTriples}

first_of : (a b : Bool) → (a && b) ≡ true → a ≡ true
first_of true b h = refl
first_of false b h = cc

-- ---- what is listed is posed
pub listed_posed : (es : List Element) (s : Statement) → Contains (conjectures_of es) s → IsPosed es s
listed_posed es s h =
    (decides_posed es s).0 (first_of (is_posed es s) _ (All-contains (λ s. is_conjecture es s ≡ true) (conjectures_of es) s (filter_passes (is_conjecture es) (statements_over (numbers es))) h))

-- ---- what is posed is among all statements
contains_later : {X : Type 0} (x y : X) (xs : List X) → Contains xs y → Contains (x ∷ xs) y
contains_later x y xs h = (suc h.0, omega (arith, h.1), h.2)

contains_mapped : (f : ℕ → Statement) (ks : List ℕ) (i k : ℕ) → i < length ks → get_or ks i 0 ≡ k → Contains (map f ks) (f k)
contains_mapped f ks i k h q = (i, omega (arith, h, length-map ks f), get_or-map f ks i 0 (f k) h ∙ ap f q)

triples_contain : (n : ℕ) (ks : List ℕ) (i j k m : ℕ) → i < j → j < length ks → get_or ks i 0 ≡ k → get_or ks j 0 ≡ m → Contains (triples_ending_in n ks) (statement.Triple k m n)
triples_contain n [] i j k m less within p q = absurd (omega (arith, within))
triples_contain n (x ∷ ks) i zero k m less within p q = absurd (omega (arith, less))
triples_contain n (x ∷ ks) zero (suc j) k m less within p q =
    Contains-append_left (map (λ l. statement.Triple x l n) ks) (triples_ending_in n ks) (statement.Triple k m n) (subst (λ y. Contains (map (λ l. statement.Triple x l n) ks) (statement.Triple y m n)) p (contains_mapped (λ l. statement.Triple x l n) ks j m (omega (arith, within)) q))
triples_contain n (x ∷ ks) (suc i) (suc j) k m less within p q =
    Contains-append_right (map (λ l. statement.Triple x l n) ks) (triples_ending_in n ks) (statement.Triple k m n) (triples_contain n ks i j k m (omega (arith, less)) (omega (arith, within)) p q)

-- the parts of a block
same_contained : (n : ℕ) (below : List ℕ) (s : Statement) → Contains (map (λ k. statement.Same k n) below) s → Contains (ending_in n below) s
same_contained n below s h =
    let rest = map (λ k. statement.On k n) below ++ triples_ending_in n below in
    contains_later (statement.Null n) s (map (λ k. statement.Same k n) below ++ rest) (Contains-append_left (map (λ k. statement.Same k n) below) rest s h)

behind_same : (n : ℕ) (below : List ℕ) (s : Statement) → Contains (map (λ k. statement.On k n) below ++ triples_ending_in n below) s → Contains (ending_in n below) s
behind_same n below s h =
    let rest = map (λ k. statement.On k n) below ++ triples_ending_in n below in
    contains_later (statement.Null n) s (map (λ k. statement.Same k n) below ++ rest) (Contains-append_right (map (λ k. statement.Same k n) below) rest s h)

on_contained : (n : ℕ) (below : List ℕ) (s : Statement) → Contains (map (λ k. statement.On k n) below) s → Contains (ending_in n below) s
on_contained n below s h = behind_same n below s (Contains-append_left (map (λ k. statement.On k n) below) (triples_ending_in n below) s h)

triple_contained : (n : ℕ) (below : List ℕ) (s : Statement) → Contains (triples_ending_in n below) s → Contains (ending_in n below) s
triple_contained n below s h = behind_same n below s (Contains-append_right (map (λ k. statement.On k n) below) (triples_ending_in n below) s h)

module _ (drawing : Drawing) (drawn : IsDrawn drawing) where
  abbrev es : List Element
  es = drawing.elements

  -- the numbers below n
  abbrev below : ℕ → List ℕ
  below n = take (place es n) (numbers es)

  number_there : (n : ℕ) → IsLive es n → get_or (numbers es) (place es n) 0 ≡ n
  number_there n l =
      get_or-map (λ (e : Element). e.number) es (place es n) l.0 0 (place_within es n l.0 l.1)
      ∙ ap (λ (e : Element). e.number) (found_at es n l.0 l.0 l.1) ∙ number_found es n l.0 l.1

  at_place : (n m : ℕ) → IsLive es n → IsLive es m → n < m → (place es n < length (below m)) × (get_or (below m) (place es n) 0 ≡ n)
  at_place n m l k less =
      let before = place_before 0 es n m l.0 k.0 drawn.rising l.1 k.1 less in
      let within = place_within es m k.0 k.1 in
      let long : length (below m) ≡ place es m = length-take-le (place es m) (numbers es) (omega (arith, within, length-map es (λ (e : Element). e.number))) in
      (omega (arith, before, long), get_or-take (place es m) (numbers es) (place es n) 0 before ∙ number_there n l)

  -- what stands in the block of n
  in_block : (n : ℕ) (s : Statement) → IsLive es n → Contains (ending_in n (below n)) s → Contains (statements_over (numbers es)) s
  in_block n s l h =
      let within = place_within es n l.0 l.1 in
      let rest = drop (place es n + 1) (numbers es) in
      let parts : drop (place es n) (numbers es) ≡ n ∷ rest = drop_more (numbers es) (place es n) 0 (omega (arith, within, length-map es (λ (e : Element). e.number))) ∙ ap (λ (k : ℕ). k ∷ rest) (number_there n l) in
      let all : statements_over (numbers es) ≡ statements_over (below n) ++ (ending_in n (below n) ++ statements_after (below n ++ n ∷ []) rest) = two_parts es n ∙ ap (λ ks. statements_over (below n) ++ statements_after (below n) ks) parts in
      subst (λ (l : List Statement). Contains l s) (sym all)
      (Contains-append_right (statements_over (below n)) _ s (Contains-append_left (ending_in n (below n)) _ s h))

  pub posed_among : (s : Statement) → IsPosed es s → Contains (statements_over (numbers es)) s
  posed_among (statement.Null n) h = in_block n (statement.Null n) (live es n h.0 h.1) (0, omega arith, refl)
  posed_among (statement.Same n m) h =
      let l = live es m h.1.0 h.1.1.1 in
      let p = at_place n m (live es n h.1.0 h.1.1.0) l h.0 in
      in_block m (statement.Same n m) l (same_contained m (below m) (statement.Same n m) (contains_mapped (λ k. statement.Same k m) (below m) (place es n) n p.0 p.1))
  posed_among (statement.On n m) h =
      let l = live es m (other h.1.0) h.1.1.1 in
      let p = at_place n m (live es n h.1.0 h.1.1.0) l h.0 in
      in_block m (statement.On n m) l (on_contained m (below m) (statement.On n m) (contains_mapped (λ k. statement.On k m) (below m) (place es n) n p.0 p.1))
  posed_among (statement.Triple n m k) h =
      let first = live es n h.2.0 h.2.1.0 in
      let second = live es m h.2.0 h.2.1.1 in
      let third = live es k h.2.0 h.2.1.2 in
      let p = at_place n k first third (omega (arith, h.0, h.1)) in
      let q = at_place m k second third h.1 in
      let before = place_before 0 es n m first.0 second.0 drawn.rising first.1 second.1 h.0 in
      in_block k (statement.Triple n m k) third (triple_contained k (below k) (statement.Triple n m k) (triples_contain k (below k) (place es n) (place es m) n m before q.0 p.1 q.1))

-- ---- what holds everywhere holds at the samples
-- an assignment with the sample values of the first so many parameters
sampled : ℕ → ℕ → List (ℕ × ℤ)
sampled position zero = []
sampled position (suc count) = (count, sample_value position count) ∷ sampled position count

sampled_value : (position count p : ℕ) → p < count → assignment_of (sampled position count) p ≡ sample_value position p
unfolding sampled
sampled_value position zero p h = absurd (omega (arith, h))
sampled_value position (suc count) p h =
    elim (cases_eq count p) [
      | inl q ↦ rw (eq-eqb count p q) (ap (sample_value position) q)
      | inr ne ↦ rw (ne_eqb count p ne) (sampled_value position count p (omega (arith, h, ne)))
    ]

are_zero_true : (zs : List ℤ) → AreZero zs → are_zero zs ≡ true
are_zero_true [] h = refl
are_zero_true (z ∷ zs) h = rw ((Decides-int_eq z (pos 0)).1 h.0) (are_zero_true zs h.1)

pub passed_kept : (p : Statement → Bool) (ss : List Statement) (s : Statement) (i : ℕ) → i < length ss → get_or ss i s ≡ s → p s ≡ true → Contains (filter p ss) s
passed_kept p [] s i h q t = absurd (omega (arith, h))
passed_kept p (x ∷ ss) s zero h q t = rw (ap p q ∙ t) (0, omega arith, q)
passed_kept p (x ∷ ss) s (suc i) h q t =
    cond_both (p x) (x ∷ filter p ss) (filter p ss) (λ us. Contains us s)
    (λ u. contains_later x s (filter p ss) (passed_kept p ss s i (omega (arith, h)) q t))
    (λ u. passed_kept p ss s i (omega (arith, h)) q t)

module _ (drawing : Drawing) (drawn : IsDrawn drawing) where
  -- two assignments that agree on all parameters that there can be give the same triples
  same_triples : (v w : ℕ → ℤ) → ((p : ℕ) → p < 2000 → v p ≡ w p) → (n : ℕ) → triple_at drawing.elements n v ≡ triple_at drawing.elements n w
  same_triples v w h =
      related drawing.elements (constructed drawing drawn) (triple_algebra v) (triple_algebra w) (λ n t u. t ≡ u) (λ n q. refl)
      (λ n e q s.
      let small = drawn.given n e q in
      let room = drawn.numbers_room in
      let first = h (first_parameter n) (omega (arith, small, room)) in
      let second = h (second_parameter n) (omega (arith, small, room)) in
      by_def_same (triple_algebra v) n e.def (computed (triple_algebra v) drawing.elements) (computed (triple_algebra w) drawing.elements) (at_named _ (λ k. triple_at drawing.elements k v ≡ triple_at drawing.elements k w) e.def (λ k p. p.2) s)
      ∙ (triples_agree v w n first second).1 e.def (computed (triple_algebra w) drawing.elements))

  holds_at : (s : Statement) → Holds drawing.elements s → (position : ℕ) → is_zero_at drawing.elements s position ≡ true
  holds_at s h position =
      let v = assignment_of (sampled position 2000) in
      let parts : parts_at drawing.elements s v ≡ parts_at drawing.elements s (sample_value position) = parts_same drawing.elements drawing.elements s v (sample_value position) (at_all (λ n. triple_at drawing.elements n v ≡ triple_at drawing.elements n (sample_value position)) s (same_triples v (sample_value position) (sampled_value position 2000))) in
      are_zero_true (parts_at drawing.elements s (sample_value position)) (subst AreZero parts (h (sampled position 2000)))

  holds_first : (s : Statement) → Holds drawing.elements s → (count : ℕ) → holds_below drawing.elements s count ≡ true
  holds_first s h zero = refl
  holds_first s h (suc position) = rw (holds_first s h position) (holds_at s h position)

  holds_at_all : (s : Statement) → Holds drawing.elements s → holds_at_samples drawing.elements s ≡ true
  unfolding holds_at_samples
  holds_at_all s h = holds_first s h SAMPLE_COUNT

  pub holding_listed : (s : Statement) → IsPosed drawing.elements s → Holds drawing.elements s → is_proper drawing.elements s ≡ true → is_plain drawing.elements s ≡ false → Contains (conjectures_of drawing.elements) s
  holding_listed s posed h proper plain =
      let found : is_conjecture drawing.elements s ≡ true = rw ((decides_posed drawing.elements s).1 posed, holds_at_all s h, proper, plain) refl in
      let among = posed_among drawing drawn s posed in
      passed_kept (is_conjecture drawing.elements) (statements_over (numbers drawing.elements)) s among.0 among.1 among.2 found

-- ---- duality
numbers_exchanged : (es : List Element) → numbers (map exchanged es) ≡ numbers es
numbers_exchanged [] = refl
numbers_exchanged (e ∷ es) = ap (λ (ks : List ℕ). e.number ∷ ks) (numbers_exchanged es)

kinds_exchanged : (es : List Element) (n : ℕ) → kind_at (map exchanged es) n ≡ option_map other (kind_at es n)
kinds_exchanged es n = ap (option_map (λ (e : Element). e.kind)) (numbered_exchanged es n) ∙ by_found (numbered es n)
  where
    by_found : (o : Option Element) → option_map (λ e. e.kind) (option_map exchanged o) ≡ option_map other (option_map (λ e. e.kind) o)
    by_found None = refl
    by_found (Some e) = refl

one_kind : (o u : Option Kind) → of_one_kind (option_map other o) (option_map other u) ≡ of_one_kind o u
one_kind None u = refl
one_kind (Some p) None = refl
one_kind (Some Point) (Some Point) = refl
one_kind (Some Point) (Some Line) = refl
one_kind (Some Line) (Some Point) = refl
one_kind (Some Line) (Some Line) = refl

two_kinds : (o u : Option Kind) → of_two_kinds (option_map other o) (option_map other u) ≡ of_two_kinds o u
two_kinds None u = refl
two_kinds (Some p) None = refl
two_kinds (Some Point) (Some Point) = refl
two_kinds (Some Point) (Some Line) = refl
two_kinds (Some Line) (Some Point) = refl
two_kinds (Some Line) (Some Line) = refl

there : (o : Option Kind) → is_some (option_map other o) ≡ is_some o
there None = refl
there (Some p) = refl

fits_exchanged : (es : List Element) (s : Statement) → fits (map exchanged es) s ≡ fits es s
fits_exchanged es (statement.Null n) = ap is_some (kinds_exchanged es n) ∙ there (kind_at es n)
fits_exchanged es (statement.Same n m) = (λ i. of_one_kind (kinds_exchanged es n i) (kinds_exchanged es m i)) ∙ one_kind (kind_at es n) (kind_at es m)
fits_exchanged es (statement.On n m) = (λ i. of_two_kinds (kinds_exchanged es n i) (kinds_exchanged es m i)) ∙ two_kinds (kind_at es n) (kind_at es m)
fits_exchanged es (statement.Triple n m k) =
    (λ i. of_one_kind (kinds_exchanged es n i) (kinds_exchanged es m i) && of_one_kind (kinds_exchanged es n i) (kinds_exchanged es k i))
    ∙ (λ i. one_kind (kind_at es n) (kind_at es m) i && one_kind (kind_at es n) (kind_at es k) i)

pub dual_listed : (es : List Element) → conjectures_of (map exchanged es) ≡ conjectures_of es
dual_listed es =
    ap (λ ks. filter (is_conjecture (map exchanged es)) (statements_over ks)) (numbers_exchanged es)
    ∙ filter_agree (is_conjecture (map exchanged es)) (is_conjecture es) (λ s. conjecture_same (map exchanged es) es s (fits_exchanged es s) (at_all (λ n. def_at (map exchanged es) n ≡ def_at es n) s (def_exchanged es)) (at_all (SameTriples (map exchanged es) es) s (λ n v. computed_exchanged (triple_algebra v) es n))) (statements_over (numbers es))

-- ---- changes of one element
last_leaves : (es : List Element) (e : Element) → numbered es e.number ≡ None → without (es ++ e ∷ []) e.number ≡ es
last_leaves [] e h = rw (eq-eqb e.number e.number refl) refl
last_leaves (x ∷ es) e h =
    cond_both (x.number == e.number) (Some x) (numbered es e.number) (λ o. o ≡ None → without (x ∷ es ++ e ∷ []) e.number ≡ x ∷ es)
    (λ t g. cc)
    (λ t g. rw t (ap (λ (fs : List Element). x ∷ fs) (last_leaves es e g)))
    h

-- the next number is not given yet
not_given : (drawing : Drawing) (n : ℕ) → IsDrawn drawing → n ≡ length drawing.settings → numbered drawing.elements n ≡ None
not_given drawing n drawn q = by_found (numbered drawing.elements n) refl
  where
    by_found : (o : Option Element) → numbered drawing.elements n ≡ o → o ≡ None
    by_found None h = refl
    by_found (Some e) h = absurd (omega (arith, q, drawn.given n e h))

pub added_one : (drawing : Drawing) (e : Element) (s : Setting) → IsDrawn drawing → LeadsFrom drawing (delta.Added e s) → IsWithout (applied drawing (delta.Added e s)) drawing e.number
added_one drawing e s drawn leads = record {
  drawn = leads.drawn;
  rest_drawn = drawn;
  elements = sym (last_leaves drawing.elements e (not_given drawing e.number drawn leads.records));
}

pub dropped_one : (drawing : Drawing) (e : Element) (s : Setting) → IsDrawn drawing → LeadsFrom drawing (delta.Dropped e s) → IsWithout drawing (applied drawing (delta.Dropped e s)) e.number
dropped_one drawing e s drawn leads = record { drawn = drawn; rest_drawn = leads.drawn; elements = refl }

pub taken_away_one : (drawing : Drawing) (e : Element) (s : Setting) → LeadsTo drawing (delta.Added e s) → IsWithout drawing (taken_back drawing (delta.Added e s)) e.number
taken_away_one drawing e s h =
    subst (λ (k : Drawing). IsWithout drawing k e.number) (sym (taken_back_is drawing (delta.Added e s) h))
    (subst (λ (k : Drawing). IsWithout k h.before e.number) h.gives (added_one h.before e s h.drawn h.leads))

pub returned_one : (drawing : Drawing) (e : Element) (s : Setting) → LeadsTo drawing (delta.Dropped e s) → IsWithout (taken_back drawing (delta.Dropped e s)) drawing e.number
returned_one drawing e s h =
    subst (λ (k : Drawing). IsWithout k drawing e.number) (sym (taken_back_is drawing (delta.Dropped e s) h))
    (subst (λ (k : Drawing). IsWithout h.before k e.number) h.gives (dropped_one h.before e s h.drawn h.leads))
