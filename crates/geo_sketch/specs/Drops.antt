-- What a drop makes, or the first refusal that applies: unknown, used.
use Rattle.std.specs.Prelude.{ℕ, ◌==◌, ◌||◌, if◌then◌else◌, Bool, false, Option, None, Some, Result, Ok, Err, List, [], ◌∷◌}
use Rattle.geo_sketch.specs.declared.elements.Def.{Def}
use Rattle.geo_sketch.specs.declared.elements.Def.TheVariants.{Free, Fixed, Cut, Blend, Cross}
use Rattle.geo_sketch.specs.declared.elements.Element.{Element}
use Rattle.geo_sketch.specs.declared.statements.Statement.{Statement}
use Rattle.geo_sketch.specs.declared.statements.Statement.TheVariants as statement
use Rattle.geo_sketch.specs.declared.changes.Delta.{Delta}
use Rattle.geo_sketch.specs.declared.changes.Delta.TheVariants as delta
use Rattle.geo_sketch.specs.declared.changes.Refusal.{Refusal}
use Rattle.geo_sketch.specs.declared.changes.Refusal.TheVariants as refusal
use Rattle.geo_sketch.specs.Assignments.{setting_of}
use Rattle.geo_sketch.specs.Sketches.{Drawing}
use Rattle.geo_sketch.specs.Lookups.{find_named}

-- the definition names element n
abbrev pub refers_to : Def → ℕ → Bool
refers_to Free n = false
refers_to (Fixed a b c) n = false
refers_to (Cut k) n = k == n
refers_to (Blend k m) n = (k == n) || (m == n)
refers_to (Cross k m) n = (k == n) || (m == n)

-- the statement names element n
abbrev pub speaks_of : Statement → ℕ → Bool
speaks_of (statement.Null k) n = k == n
speaks_of (statement.Same k m) n = (k == n) || (m == n)
speaks_of (statement.On k m) n = (k == n) || (m == n)
speaks_of (statement.Triple k m l) n = (k == n) || ((m == n) || (l == n))

-- an element names element n. No definition names its own element
abbrev pub some_refer_to : List Element → ℕ → Bool
some_refer_to [] n = false
some_refer_to (e ∷ es) n = refers_to e.def n || some_refer_to es n

-- a claim names element n
abbrev pub some_speak_of : List Statement → ℕ → Bool
some_speak_of [] n = false
some_speak_of (c ∷ cs) n = speaks_of c n || some_speak_of cs n

abbrev pub is_used : Drawing → ℕ → Bool
is_used drawing n = some_refer_to drawing.elements n || some_speak_of drawing.claims n

abbrev pub dropping : Drawing → Option Element → Result Delta Refusal
dropping drawing None = Err refusal.Unknown
dropping drawing (Some e) = if is_used drawing e.number then Err refusal.Used else Ok (delta.Dropped e (setting_of drawing.settings e.number))

-- the change that a drop makes, or the first refusal that applies
abbrev pub drop_of : Drawing → List ℕ → Result Delta Refusal
drop_of drawing name = dropping drawing (find_named drawing.elements name)
