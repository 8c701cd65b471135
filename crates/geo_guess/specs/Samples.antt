-- The triples of the elements at the sample positions, kept by their numbers.
use Rattle.std.specs.Prelude.{◌≡◌, ◌≢◌, ℕ, ◌<◌, ◌≤◌, List, [], slice_index_or}
use Rattle.geo_triple.specs.declared.Triple.{Triple}
use Rattle.geo_triple.specs.Sums.{sizes_of, largest_of}
use Rattle.geo_triple.specs.Triple.{zero_triple}
use Rattle.geo_sketch.specs.declared.elements.Element.{Element}
use Rattle.geo_sketch.specs.Constructions.{by_def}
use Rattle.geo_sketch.specs.declared.limits.TheConstants.{HEIGHT_LIMIT, SAMPLE_COUNT}
use Rattle.geo_sketch.specs.Samples.{sample_value}
use Rattle.geo_sketch.specs.Triples.{triple_algebra, triple_at}

-- what is kept for number n at this position: nothing is the zero triple
abbrev pub sample_in : List (List Triple) → ℕ → ℕ → Triple
sample_in samples n position = slice_index_or (slice_index_or samples n []) position zero_triple

-- it is the triple of the element with this number, zero where there is none
abbrev pub AreSamples : List Element → List (List Triple) → Type 0
AreSamples es samples = (n position : ℕ) → position < SAMPLE_COUNT → sample_in samples n position ≡ triple_at es n (sample_value position)

-- what a definition makes of the triples of the elements that it names
abbrev pub made_from : List (List Triple) → Element → ℕ → Triple
made_from samples e position = by_def (triple_algebra (sample_value position)) e.number e.def (λ k. sample_in samples k position)

-- these are the triples of the element at the first so many positions
abbrev pub AreMade : List (List Triple) → Element → List Triple → ℕ → Type 0
AreMade samples e triples count = (position : ℕ) → position < count → slice_index_or triples position zero_triple ≡ made_from samples e position

-- small enough for what is computed from it
abbrev pub IsLow : Triple → Type 0
IsLow t = largest_of (sizes_of t) ≤ HEIGHT_LIMIT

abbrev pub AreLow : List (List Triple) → Type 0
AreLow samples = (n position : ℕ) → position < SAMPLE_COUNT → IsLow (sample_in samples n position)

-- the same is kept for all numbers but n
abbrev pub AreSameBut : ℕ → List (List Triple) → List (List Triple) → Type 0
AreSameBut n samples others = (m position : ℕ) → position < SAMPLE_COUNT → m ≢ n → sample_in others m position ≡ sample_in samples m position
