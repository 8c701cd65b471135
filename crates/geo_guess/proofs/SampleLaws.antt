-- What is kept at the sample positions, as elements come and leave.
use Rattle.std.proofs.Common.{◌≡◌, ◌≢◌, ◌∙◌, sym, ap, subst, refl, inl, inr, ℕ, zero, suc, ◌+◌, ◌<◌, ◌++◌, None, Some, List, [], ◌∷◌, length, get_or, map, replicate, arith, ℤ}
use Rattle.std.specs.Prelude.{set}
use Rattle.std.proofs.lemmas.Bool.{cases_eq}
use Rattle.std.proofs.lemmas.List.{get_or-set_same, get_or-set_other}
use Rattle.geo_triple.specs.declared.Triple.{Triple}
use Rattle.geo_triple.specs.Triple.{zero_triple}
use Rattle.geo_sketch.specs.declared.elements.Element.{Element}
use Rattle.geo_sketch.specs.Changes.{exchanged}
use Rattle.geo_sketch.specs.Constructions.{by_def, computed}
use Rattle.geo_sketch.specs.Lookups.{numbered, IsLive}
use Rattle.geo_sketch.specs.Samples.{sample_value}
use Rattle.geo_sketch.specs.declared.limits.TheConstants.{SAMPLE_COUNT}
use Rattle.geo_sketch.specs.Sketches.{Drawing, IsDrawn}
use Rattle.geo_sketch.specs.Triples.{triple_algebra, triple_at}
use Rattle.geo_sketch.proofs.ConstructionLaws.{at_named, by_def_same}
use Rattle.geo_sketch.proofs.DualLaws.{computed_exchanged}
use Rattle.geo_sketch.proofs.LiveElements.{absent_step, live_step}
use Rattle.geo_sketch.proofs.NumberLaws.{gone, number_found}
use Rattle.geo_sketch.proofs.SketchLaws.{constructed}
use Rattle.geo_guess.specs.Conjectures.{IsWithout}
use Rattle.geo_guess.specs.Samples.{made_from, sample_in, AreLow, AreMade, AreSameBut, AreSamples, IsLow}
use Rattle.geo_guess.proofs.ConjectureLaws.{others_like}
use Rattle.geo_guess.proofs.LowTriples.{sample_low}

-- ---- one list of triples
pub nothing_there : (size k : ℕ) (t : Triple) → get_or (replicate size t) k t ≡ t
nothing_there zero k t = refl
nothing_there (suc size) zero t = refl
nothing_there (suc size) (suc k) t = nothing_there size k t

pub made_more : (samples : List (List Triple)) (e : Element) (triples : List Triple) (i : ℕ) → i < length triples → AreMade samples e triples i → AreMade samples e (set triples i (made_from samples e i)) (i + 1)
made_more samples e triples i within made position less =
    elim (cases_eq position i) [
      | inl q ↦ subst (λ k. get_or (set triples i (made_from samples e i)) k zero_triple ≡ made_from samples e k) (sym q) (get_or-set_same triples i (made_from samples e i) zero_triple within)
      | inr ne ↦ get_or-set_other triples i position (made_from samples e i) zero_triple ne ∙ made position (omega (arith, less, ne))
    ]

-- ---- what is kept
-- room for one number more, for which nothing is kept
pub grown : (samples : List (List Triple)) (none : List Triple) → ((position : ℕ) → get_or none position zero_triple ≡ zero_triple) → (n position : ℕ) → sample_in (samples ++ none ∷ []) n position ≡ sample_in samples n position
grown [] none h zero position = h position
grown [] none h (suc n) position = refl
grown (x ∷ samples) none h zero position = refl
grown (x ∷ samples) none h (suc n) position = grown samples none h n position

pub low_there : (drawing : Drawing) (samples : List (List Triple)) → IsDrawn drawing → AreSamples drawing.elements samples → AreLow samples
low_there drawing samples drawn are n position within = subst IsLow (sym (are n position within)) (sample_low drawing drawn position n)

-- ---- an element comes or leaves
module _ (drawing rest : Drawing) (n : ℕ) (w : IsWithout drawing rest n) where
  others_stay : (m : ℕ) (v : ℕ → ℤ) → m ≢ n → triple_at rest.elements m v ≡ triple_at drawing.elements m v
  others_stay m v ne = ap (λ (es : List Element). triple_at es m v) w.elements ∙ sym (others_like drawing rest n w m ne v)

  -- the triples that its definition makes
  pub made_here : (old : List (List Triple)) (e : Element) (triples : List Triple) → AreSamples rest.elements old → numbered drawing.elements n ≡ Some e → AreMade old e triples SAMPLE_COUNT
      → (position : ℕ) → position < SAMPLE_COUNT → get_or triples position zero_triple ≡ triple_at drawing.elements n (sample_value position)
  made_here old e triples are q made position within =
      let es = drawing.elements in
      let A = triple_algebra (sample_value position) in
      made position within
      ∙ by_def_same A e.number e.def (λ k. sample_in old k position) (computed A es) (at_named (λ k. (k < n) × IsLive es k) (λ k. sample_in old k position ≡ computed A es k) e.def (λ k named. are k position within ∙ others_stay k (sample_value position) (λ p. absurd (omega (arith, named.0, p)))) ((constructed drawing w.drawn).named n e q))
      ∙ ap (λ (k : ℕ). by_def A k e.def (computed A es)) (number_found es n e q)
      ∙ sym (live_step es (constructed drawing w.drawn) A n e q)

  -- nothing, where there is none
  pub nothing_here : numbered drawing.elements n ≡ None → (triples : List Triple) → ((position : ℕ) → get_or triples position zero_triple ≡ zero_triple) → (position : ℕ) → get_or triples position zero_triple ≡ triple_at drawing.elements n (sample_value position)
  nothing_here q triples h position = h position ∙ sym (absent_step drawing.elements (constructed drawing w.drawn) (triple_algebra (sample_value position)) n q)

  module _ (old new : List (List Triple)) (others : AreSameBut n old new) where
    pub samples_come : AreSamples rest.elements old → ((position : ℕ) → position < SAMPLE_COUNT → sample_in new n position ≡ triple_at drawing.elements n (sample_value position)) → AreSamples drawing.elements new
    samples_come are here m position within =
        elim (cases_eq m n) [
          | inl q ↦ subst (λ k. sample_in new k position ≡ triple_at drawing.elements k (sample_value position)) (sym q) (here position within)
          | inr ne ↦ others m position within ne ∙ are m position within ∙ others_stay m (sample_value position) ne
        ]

    none_left : (position : ℕ) → triple_at rest.elements n (sample_value position) ≡ zero_triple
    none_left position =
        absent_step rest.elements (constructed rest w.rest_drawn) (triple_algebra (sample_value position)) n
        (ap (λ (fs : List Element). numbered fs n) w.elements ∙ gone 0 drawing.elements n w.drawn.rising)

    pub samples_leave : AreSamples drawing.elements old → ((position : ℕ) → position < SAMPLE_COUNT → sample_in new n position ≡ zero_triple) → AreSamples rest.elements new
    samples_leave are here m position within =
        elim (cases_eq m n) [
          | inl q ↦ subst (λ k. sample_in new k position ≡ triple_at rest.elements k (sample_value position)) (sym q) (here position within ∙ sym (none_left position))
          | inr ne ↦ others m position within ne ∙ are m position within ∙ sym (others_stay m (sample_value position) ne)
        ]

    -- it came and left again
    pub samples_back : AreSamples rest.elements old → ((position : ℕ) → position < SAMPLE_COUNT → sample_in new n position ≡ zero_triple) → AreSamples rest.elements new
    samples_back are here m position within =
        elim (cases_eq m n) [
          | inl q ↦ subst (λ k. sample_in new k position ≡ triple_at rest.elements k (sample_value position)) (sym q) (here position within ∙ sym (none_left position))
          | inr ne ↦ others m position within ne ∙ are m position within
        ]

-- ---- all kinds are exchanged
pub samples_exchanged : (es : List Element) (samples : List (List Triple)) → AreSamples es samples → AreSamples (map exchanged es) samples
samples_exchanged es samples are n position within = are n position within ∙ sym (computed_exchanged (triple_algebra (sample_value position)) es n)
