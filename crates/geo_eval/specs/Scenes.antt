-- Of which sketch a scene is, what is read from it, and how many elements are
-- evaluated for a change.
use Rattle.std.specs.Prelude.{◌≡◌, ℕ, ◌==◌, if◌then◌else◌, Bool, true, false, Option, None, Some, option_map, List, [], ◌∷◌, length, count_by}
use Rattle.geo_sketch.specs.declared.changes.Delta.{Delta}
use Rattle.geo_sketch.specs.declared.changes.Delta.TheVariants.{Added, Dropped, Dragged, Claimed, Dual}
use Rattle.geo_sketch.specs.Changes.{applied, taken_back, LeadsFrom, LeadsTo}
use Rattle.geo_sketch.specs.Dependence.{depends_on}
use Rattle.geo_sketch.specs.Sketches.{Drawing, next_number}
use Rattle.geo_sketch.specs.Lookups.{numbered}
use Rattle.geo_eval.specs.declared.evaluation.Reach.{Reach}
use Rattle.geo_eval.specs.declared.here.Here.{Here}
use Rattle.geo_eval.specs.Reaches.{slot_at, kept_of}
use Rattle.geo_eval.specs.declared.here.Shown.{Shown}
use Rattle.geo_eval.specs.Shown.{here_of}

-- it keeps of each number that was given what is shown of the sketch
pub record IsSceneOf (slots : List (Option Reach)) (drawing : Drawing) : Type 0 where
  pub given : length slots ≡ next_number drawing
  pub each : (n : ℕ) → slot_at slots n ≡ kept_of drawing n

-- ---- what is read
-- where the element with number n is; none where n is not live
abbrev pub here_at : Drawing → ℕ → Option Here
here_at drawing n = option_map (λ e. here_of drawing n) (numbered drawing.elements n)

-- where the entry with number n of what is shown is
abbrev pub here_in : List Shown → ℕ → Option Here
here_in [] n = None
here_in (entry ∷ entries) n = if entry.number == n then Some entry.here else here_in entries n

-- ---- changes, done or taken back
-- the change leads to this sketch, or from it where it was taken back
abbrev pub Leads : Drawing → Delta → Bool → Type 0
Leads drawing d true = LeadsTo drawing d
Leads drawing d false = LeadsFrom drawing d

-- the sketch before
abbrev pub before_of : Drawing → Delta → Bool → Drawing
before_of drawing d true = taken_back drawing d
before_of drawing d false = applied drawing d

-- how many live elements depend on the element with this number
abbrev pub dependents : Drawing → ℕ → ℕ
dependents drawing on = count_by (λ e. depends_on drawing.elements e.number on) drawing.elements

-- how many elements are evaluated: the one that comes in, or those that depend on the
-- one that is dragged
abbrev pub evaluations : Drawing → Delta → Bool → ℕ
evaluations drawing (Added e s) true = 1
evaluations drawing (Added e s) false = 0
evaluations drawing (Dropped e s) true = 0
evaluations drawing (Dropped e s) false = 1
evaluations drawing (Dragged n from to) forward = dependents drawing n
evaluations drawing (Claimed c) forward = 0
evaluations drawing Dual forward = 0

-- only an addition takes memory
abbrev pub takes_memory : Delta → Bool → Bool
takes_memory (Added e s) forward = forward
takes_memory (Dropped e s) forward = false
takes_memory (Dragged n from to) forward = false
takes_memory (Claimed c) forward = false
takes_memory Dual forward = false
