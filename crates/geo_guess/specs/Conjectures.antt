-- The conjectures of a sketch: the posed statements that are proper, hold at eight sample positions
-- and are not plain, in the order of all statements.
use Rattle.std.specs.Prelude.{◌≡◌, ℕ, zero, suc, ◌&&◌, ◌||◌, not, Bool, true, List, filter}
use Rattle.geo_triple.specs.Zero.{are_zero}
use Rattle.geo_sketch.specs.declared.elements.Element.{Element}
use Rattle.geo_sketch.specs.declared.statements.Statement.{Statement}
use Rattle.geo_sketch.specs.declared.statements.Statement.TheVariants as statement
use Rattle.geo_sketch.specs.Changes.{without}
use Rattle.geo_sketch.specs.PlainStatements.{is_plain}
use Rattle.geo_sketch.specs.Posing.{is_posed}
use Rattle.geo_sketch.specs.Samples.{sample_value}
use Rattle.geo_sketch.specs.declared.limits.TheConstants.{SAMPLE_COUNT}
use Rattle.geo_sketch.specs.Sketches.{Drawing, IsDrawn}
use Rattle.geo_sketch.specs.Statements.{parts_at}
use Rattle.geo_guess.specs.Candidates.{numbers, statements_over}

-- all parts of the statement are 0 at this sample position
abbrev pub is_zero_at : List Element → Statement → ℕ → Bool
is_zero_at es s position = are_zero (parts_at es s (sample_value position))

-- at the first so many
abbrev pub holds_below : List Element → Statement → ℕ → Bool
holds_below es s zero = true
holds_below es s (suc position) = holds_below es s position && is_zero_at es s position

-- at all eight
unfoldable pub holds_at_samples : List Element → Statement → Bool
holds_at_samples es s = holds_below es s SAMPLE_COUNT

-- the element is zero at all sample positions
abbrev pub is_nowhere : List Element → ℕ → Bool
is_nowhere es n = holds_at_samples es (statement.Null n)

-- the cross product of the two is zero at all sample positions
abbrev pub are_together : List Element → ℕ → ℕ → Bool
are_together es n m = holds_at_samples es (statement.Same n m)

-- a Null, or no element that is named is zero at all sample positions, and no two of three are together
abbrev pub is_proper : List Element → Statement → Bool
is_proper es (statement.Null n) = true
is_proper es (statement.Same n m) = not (is_nowhere es n || is_nowhere es m)
is_proper es (statement.On n m) = not (is_nowhere es n || is_nowhere es m)
is_proper es (statement.Triple n m k) = not (is_nowhere es n || (is_nowhere es m || is_nowhere es k)) && not (are_together es n m || (are_together es n k || are_together es m k))

abbrev pub is_conjecture : List Element → Statement → Bool
is_conjecture es s = is_posed es s && (holds_at_samples es s && (is_proper es s && not (is_plain es s)))

abbrev pub conjectures_of : List Element → List Statement
conjectures_of es = filter (is_conjecture es) (statements_over (numbers es))

-- the second sketch is the first one without element n
pub record IsWithout (drawing rest : Drawing) (n : ℕ) : Type 0 where
  pub drawn : IsDrawn drawing
  pub rest_drawn : IsDrawn rest
  pub elements : rest.elements ≡ without drawing.elements n
