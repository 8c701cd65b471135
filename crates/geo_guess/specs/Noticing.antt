-- What a conjecture is, and in which order conjectures stand, with no list of candidates.
use Rattle.std.specs.Prelude.{◌≡◌, ◌<◌, ◌⊎◌, ℕ, true, false, List, [], ◌∷◌, length, slice_index_or}
use Rattle.geo_triple.specs.Zero.{AreZero}
use Rattle.geo_sketch.specs.declared.elements.Element.{Element}
use Rattle.geo_sketch.specs.declared.statements.Statement.{Statement}
use Rattle.geo_sketch.specs.declared.statements.Statement.TheVariants as statement
use Rattle.geo_sketch.specs.declared.limits.TheConstants.{SAMPLE_COUNT}
use Rattle.geo_sketch.specs.PlainStatements.{is_plain}
use Rattle.geo_sketch.specs.Samples.{sample_value}
use Rattle.geo_sketch.specs.Sketches.{IsPosed}
use Rattle.geo_sketch.specs.Statements.{parts_at}
use Rattle.geo_guess.specs.Conjectures.{is_proper}

-- all parts are 0 at each of the eight sample positions
abbrev pub IsZeroAtSamples : List Element → Statement → Type 0
IsZeroAtSamples es s = (position : ℕ) → position < SAMPLE_COUNT → AreZero (parts_at es s (sample_value position))

-- about live elements of fitting kinds with strictly rising numbers, proper, not plain, and 0 at the samples
pub record IsConjecture (es : List Element) (s : Statement) : Type 0 where
  pub posed : IsPosed es s
  pub zero_at_samples : IsZeroAtSamples es s
  pub proper : is_proper es s ≡ true
  pub not_plain : is_plain es s ≡ false

-- the greatest number that it names, its place among Null, Same, On and Triple, and the numbers that it names
abbrev pub key_of : Statement → List ℕ
key_of (statement.Null n) = n ∷ 0 ∷ n ∷ []
key_of (statement.Same n m) = m ∷ 1 ∷ n ∷ m ∷ []
key_of (statement.On n m) = m ∷ 2 ∷ n ∷ m ∷ []
key_of (statement.Triple n m k) = k ∷ 3 ∷ n ∷ m ∷ k ∷ []

-- where two lists differ for the first time the first one has the lesser number
abbrev pub ComesBefore : List ℕ → List ℕ → Type 0
ComesBefore [] ys = ⊥
ComesBefore (x ∷ xs) [] = ⊥
ComesBefore (x ∷ xs) (y ∷ ys) = (x < y) ⊎ ((x ≡ y) × ComesBefore xs ys)

-- each statement comes before all that stand behind it
abbrev pub AreInOrder : List Statement → Type 0
AreInOrder ss = (i j : ℕ) (d : Statement) → i < j → j < length ss → ComesBefore (key_of (slice_index_or ss i d)) (key_of (slice_index_or ss j d))
