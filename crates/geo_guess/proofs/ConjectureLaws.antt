-- Conjectures look only at the elements that they name; so they follow an element that comes or leaves.
use Rattle.std.proofs.Common.{◌≡◌, ◌≢◌, ◌∙◌, sym, ap, subst, refl, inl, inr, ℕ, zero, suc, ◌+◌, ◌*◌, ◌<◌, ◌≤◌, Bool, true, false, Option, None, Some, option_map, List, [], ◌∷◌, length, take, drop, ℤ, arith}
use Rattle.std.specs.Prelude.{◌&&◌, ◌||◌, not, is_some, filter}
use Rattle.std.proofs.lemmas.Bool.{cases_eq, eq-eqb, ne_eqb}
use Rattle.geo_sketch.specs.declared.elements.Def.{Def}
use Rattle.geo_sketch.specs.declared.elements.Element.{Element}
use Rattle.geo_sketch.specs.declared.statements.Statement.{Statement}
use Rattle.geo_sketch.specs.declared.statements.Statement.TheVariants as statement
use Rattle.geo_sketch.specs.Changes.{without}
use Rattle.geo_sketch.specs.Constructions.{AtNamed}
use Rattle.geo_sketch.specs.Drops.{speaks_of}
use Rattle.geo_sketch.specs.Lookups.{def_at, kind_at, numbered, IsLive, Rises}
use Rattle.geo_sketch.specs.Needs.{AtStated}
use Rattle.geo_sketch.specs.Posing.{fits, is_rising, of_one_kind, of_two_kinds}
use Rattle.geo_sketch.specs.Samples.{sample_value}
use Rattle.geo_sketch.specs.declared.limits.TheConstants.{SAMPLE_COUNT}
use Rattle.geo_sketch.specs.Sketches.{Drawing, IsDrawn}
use Rattle.geo_sketch.specs.Tables.{place}
use Rattle.geo_sketch.specs.Triples.{triple_algebra, triple_at}
use Rattle.geo_sketch.proofs.ConstructionLaws.{at_named}
use Rattle.geo_sketch.proofs.DropLaws.{values_stay}
use Rattle.geo_sketch.proofs.NumberLaws.{found_from, gone, others_stay}
use Rattle.geo_sketch.proofs.SketchLaws.{constructed, drawn_built}
use Rattle.geo_sketch.proofs.StatementLaws.{at_stated, names_others, parts_same, plain_same}
use Rattle.geo_guess.specs.Candidates.{numbers, statements_after, statements_over}
use Rattle.geo_guess.specs.Conjectures.{are_together, conjectures_of, holds_at_samples, holds_below, is_conjecture, is_nowhere, is_proper, IsWithout}
use Rattle.geo_triple.specs.Zero.{are_zero}
use Rattle.geo_guess.specs.Order.{all_placed}
use Rattle.geo_guess.proofs.CandidateLaws.{naming_later, numbers_without, over_others}
use Rattle.geo_guess.proofs.Filters.{filter_both, filter_swapped}
use Rattle.geo_guess.proofs.OrderLaws.{all_back, climbs_filter, over_climbs, Ascends, Climbs}

-- ---- what is said of a statement looks only at the elements that it names
module _ (es fs : List Element) where
  abbrev pub SameTriples : ℕ → Type 0
  SameTriples n = (v : ℕ → ℤ) → triple_at es n v ≡ triple_at fs n v

  pub fits_same : (s : Statement) → AtStated s (λ n. kind_at es n ≡ kind_at fs n) → fits es s ≡ fits fs s
  fits_same (statement.Null n) h = ap is_some h
  fits_same (statement.Same n m) h = λ i. of_one_kind (h.0 i) (h.1 i)
  fits_same (statement.On n m) h = λ i. of_two_kinds (h.0 i) (h.1 i)
  fits_same (statement.Triple n m k) h = λ i. of_one_kind (h.0 i) (h.1 i) && of_one_kind (h.0 i) (h.2 i)

  holds_same : (s : Statement) → AtStated s SameTriples → (count : ℕ) → holds_below es s count ≡ holds_below fs s count
  holds_same s h zero = refl
  holds_same s h (suc position) =
      let parts = parts_same es fs s (sample_value position) (sample_value position) (at_stated SameTriples (λ n. triple_at es n (sample_value position) ≡ triple_at fs n (sample_value position)) s (λ n g. g (sample_value position)) h) in
      λ i. holds_same s h position i && are_zero (parts i)

  samples_same : (s : Statement) → AtStated s SameTriples → holds_at_samples es s ≡ holds_at_samples fs s
  unfolding holds_at_samples
  samples_same s h = holds_same s h SAMPLE_COUNT

  nowhere_same : (n : ℕ) → SameTriples n → is_nowhere es n ≡ is_nowhere fs n
  nowhere_same n h = samples_same (statement.Null n) h

  together_same : (n m : ℕ) → SameTriples n → SameTriples m → are_together es n m ≡ are_together fs n m
  together_same n m h g = samples_same (statement.Same n m) (h, g)

  proper_same : (s : Statement) → AtStated s SameTriples → is_proper es s ≡ is_proper fs s
  proper_same (statement.Null n) h = refl
  proper_same (statement.Same n m) h = λ i. not (nowhere_same n h.0 i || nowhere_same m h.1 i)
  proper_same (statement.On n m) h = λ i. not (nowhere_same n h.0 i || nowhere_same m h.1 i)
  proper_same (statement.Triple n m k) h = λ i. not (nowhere_same n h.0 i || (nowhere_same m h.1 i || nowhere_same k h.2 i)) && not (together_same n m h.0 h.1 i || (together_same n k h.0 h.2 i || together_same m k h.1 h.2 i))

  pub conjecture_same : (s : Statement) → fits es s ≡ fits fs s → AtStated s (λ n. def_at es n ≡ def_at fs n) → AtStated s SameTriples → is_conjecture es s ≡ is_conjecture fs s
  conjecture_same s f d t = λ i. (is_rising s && f i) && (samples_same s t i && (proper_same s t i && not (plain_same es fs s d i)))

not_false : (b : Bool) → not b ≡ true → b ≡ false
not_false true h = cc
not_false false h = refl

-- ---- an element that comes or leaves
module _ (drawing rest : Drawing) (n : ℕ) (w : IsWithout drawing rest n) where
  -- no definition names it
  unnamed : (m : ℕ) (d : Def) → def_at drawing.elements m ≡ Some d → AtNamed d (λ k. k ≢ n)
  unnamed m d h =
      elim (cases_eq m n) [
        | inl q ↦ at_named (λ k. k < m) (λ k. k ≢ n) d (λ k less p. absurd (omega (arith, less, p, q))) (drawn_built drawing w.drawn m d h)
        | inr ne ↦ by_found (numbered rest.elements m) refl (ap (option_map (λ (e : Element). e.def)) (ap (λ (fs : List Element). numbered fs m) w.elements ∙ others_stay drawing.elements n m ne) ∙ h)
      ]
    where
      by_found : (o : Option Element) → numbered rest.elements m ≡ o → option_map (λ x. x.def) o ≡ Some d → AtNamed d (λ k. k ≢ n)
      by_found None q g = cc
      by_found (Some x) q g =
          let same : x.def ≡ d = cc in
          subst (λ (d : Def). AtNamed d (λ k. k ≢ n)) same
          (at_named (λ k. (k < m) × IsLive rest.elements k) (λ k. k ≢ n) x.def (λ k live p. let none : numbered rest.elements k ≡ None = ap (λ (fs : List Element). numbered fs k) w.elements ∙ rw p (gone 0 drawing.elements n w.drawn.rising) in let some = live.1.1 in cc) ((constructed rest w.rest_drawn).named m x q))

  pub others_like : (m : ℕ) → m ≢ n → SameTriples drawing.elements (without drawing.elements n) m
  others_like m ne v = values_stay (triple_algebra v) drawing.elements n w.drawn.rising (drawn_built drawing w.drawn) unnamed m ne

  conjecture_stays : (s : Statement) → not (speaks_of s n) ≡ true → is_conjecture drawing.elements s ≡ is_conjecture (without drawing.elements n) s
  conjecture_stays s h =
      let es = drawing.elements in
      let fs = without drawing.elements n in
      let named = names_others s n (not_false (speaks_of s n) h) in
      conjecture_same es fs s
      (fits_same es fs s (at_stated (λ m. m ≢ n) (λ m. kind_at es m ≡ kind_at fs m) s (λ m ne. ap (option_map (λ (e : Element). e.kind)) (sym (others_stay es n m ne))) named))
      (at_stated (λ m. m ≢ n) (λ m. def_at es m ≡ def_at fs m) s (λ m ne. ap (option_map (λ (e : Element). e.def)) (sym (others_stay es n m ne))) named)
      (at_stated (λ m. m ≢ n) (SameTriples es fs) s others_like named)

  -- the conjectures that do not name it stay
  pub others_listed : filter (λ s. not (speaks_of s n)) (conjectures_of drawing.elements) ≡ conjectures_of rest.elements
  others_listed =
      let es = drawing.elements in
      filter_swapped (is_conjecture es) (is_conjecture (without es n)) (λ s. not (speaks_of s n)) conjecture_stays (statements_over (numbers es))
      ∙ ap (filter (is_conjecture (without es n))) (over_others n (numbers es) ∙ ap statements_over (sym (numbers_without 0 es n w.drawn.rising)))
      ∙ ap conjectures_of (sym w.elements)

ascends : (low : ℕ) (es : List Element) (high : ℕ) → Rises low es → low ≤ high → ((n : ℕ) (e : Element) → numbered es n ≡ Some e → n < high) → Ascends low (numbers es) high
ascends low [] high r h given = h
ascends low (x ∷ es) high r h given =
    let here : numbered (x ∷ es) x.number ≡ Some x = rw (eq-eqb x.number x.number refl) refl in
    (r.0, ascends (x.number + 1) es high r.1 (omega (arith, given x.number x here)) (λ n e q. given n e (rw (ne_eqb x.number n (λ p. absurd (omega (arith, p, found_from (x.number + 1) es n e r.1 q)))) q)))

pub climbs : (drawing : Drawing) → IsDrawn drawing → Climbs 0 (conjectures_of drawing.elements) (4000000 * length drawing.settings)
climbs drawing drawn =
    climbs_filter (is_conjecture drawing.elements) 0 (statements_over (numbers drawing.elements)) (4000000 * length drawing.settings)
    (over_climbs (numbers drawing.elements) (length drawing.settings) drawn.numbers_room (ascends 0 drawing.elements (length drawing.settings) drawn.rising (omega arith) drawn.given))

-- the conjectures that name an element come to their places among the others
pub all_listed : (drawing rest : Drawing) (n : ℕ) → IsWithout drawing rest n → (kept found tried : List Statement) → kept ≡ conjectures_of rest.elements
    → tried ≡ statements_after (take (place drawing.elements n) (numbers drawing.elements)) (drop (place drawing.elements n) (numbers drawing.elements))
    → found ≡ filter (λ s. speaks_of s n && is_conjecture drawing.elements s) tried → all_placed found kept ≡ conjectures_of drawing.elements
all_listed drawing rest n w kept found tried k t f =
    let c = is_conjecture drawing.elements in
    let naming = f ∙ ap (filter (λ s. speaks_of s n && c s)) t ∙ naming_later c drawing.elements n ∙ filter_both (λ s. speaks_of s n) c (statements_over (numbers drawing.elements)) in
    let left = k ∙ sym (others_listed drawing rest n w) in
    (λ i. all_placed (naming i) (left i))
    ∙ all_back (λ s. speaks_of s n) 0 (conjectures_of drawing.elements) (4000000 * length drawing.settings) (climbs drawing w.drawn)
