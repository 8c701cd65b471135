-- What a verdict depends on, and which of the kept verdicts outlive a change.
use Rattle.std.specs.Prelude.{◌≡◌, ℕ, if◌then◌else◌, Bool, true, not, filter, Option, None, Some, List}
use Rattle.geo_sketch.specs.declared.changes.Delta.{Delta}
use Rattle.geo_sketch.specs.declared.changes.Delta.TheVariants.{Added, Dropped, Dragged, Claimed, Dual}
use Rattle.geo_sketch.specs.declared.elements.Element.{Element}
use Rattle.geo_sketch.specs.declared.statements.Statement.{Statement}
use Rattle.geo_sketch.specs.declared.verdicts.Verdict.{Verdict}
use Rattle.geo_sketch.specs.Lookups.{def_at}
use Rattle.geo_sketch.specs.Dependence.{depends_on}
use Rattle.geo_sketch.specs.Drops.{speaks_of}
use Rattle.geo_sketch.specs.Needs.{AtStated}

-- two lists agree on the definitions of all elements on which the statement depends
abbrev pub AgreeForStatement : List Element → List Element → Statement → Type 0
AgreeForStatement es fs s = AtStated s (λ n. (on : ℕ) → depends_on es n on ≡ true → def_at es on ≡ def_at fs on)

-- those whose statements do not name element n
abbrev pub forgetting : ℕ → List (Statement × Verdict) → List (Statement × Verdict)
forgetting n kept = filter (λ (k : Statement × Verdict). not (speaks_of k.0 n)) kept

-- the element that leaves where a change is done, or taken back
abbrev pub leaving : Delta → Bool → Option ℕ
leaving (Added e s) forward = if forward then None else Some e.number
leaving (Dropped e s) forward = if forward then Some e.number else None
leaving (Dragged n from to) forward = None
leaving (Claimed c) forward = None
leaving Dual forward = None

-- the kept verdicts that do not name it
abbrev pub kept_without : Option ℕ → List (Statement × Verdict) → List (Statement × Verdict)
kept_without None kept = kept
kept_without (Some n) kept = forgetting n kept
