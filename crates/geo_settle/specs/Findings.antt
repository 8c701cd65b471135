-- What a search over the sample positions finds.
use Rattle.std.specs.Prelude.{◌≡◌, ℕ, ℤ, List, Option, None, Some}
use Rattle.geo_degree.specs.Questions.{Question, sample}
use Rattle.geo_degree.specs.Verdicts.{IsFirstFailingSample, IsZeroAtSamples, named}

-- nothing where all parts are 0 at each of them, else the values at the first at which a
-- part is not
abbrev pub IsSampleFinding : Question → Option (List (ℕ × ℤ)) → Type 0
IsSampleFinding q None = IsZeroAtSamples q
IsSampleFinding q (Some values) = (s : ℕ) × IsFirstFailingSample q s × (values ≡ named q.axes (sample q s))
