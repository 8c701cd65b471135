-- What a drag makes, or the first refusal that applies: unknown, fixed.
use Rattle.std.specs.Prelude.{ℕ, ◌==◌, ◌||◌, if◌then◌else◌, Bool, not, Option, None, Some, Result, Ok, Err, List}
use Rattle.geo_sketch.specs.declared.elements.Def.{Def}
use Rattle.geo_sketch.specs.declared.elements.Setting.{Setting}
use Rattle.geo_sketch.specs.declared.elements.Element.{Element}
use Rattle.geo_sketch.specs.declared.changes.Delta.{Delta}
use Rattle.geo_sketch.specs.declared.changes.Delta.TheVariants as delta
use Rattle.geo_sketch.specs.declared.changes.Refusal.{Refusal}
use Rattle.geo_sketch.specs.declared.changes.Refusal.TheVariants as refusal
use Rattle.geo_sketch.specs.Assignments.{setting_of}
use Rattle.geo_sketch.specs.Sketches.{Drawing, parameter_count, values_in}
use Rattle.geo_sketch.specs.Lookups.{find_named}

-- an element with this definition has no parameters, or another number of them
abbrev pub is_fixed_for : Def → Setting → Bool
is_fixed_for d s = (parameter_count d == 0) || not (values_in s == parameter_count d)

abbrev pub dragging : Drawing → Option Element → Setting → Result Delta Refusal
dragging drawing None to = Err refusal.Unknown
dragging drawing (Some e) to = if is_fixed_for e.def to then Err refusal.Fixed else Ok (delta.Dragged e.number (setting_of drawing.settings e.number) to)

-- the change that a drag makes, or the first refusal that applies
abbrev pub drag_of : Drawing → List ℕ → Setting → Result Delta Refusal
drag_of drawing name to = dragging drawing (find_named drawing.elements name) to
