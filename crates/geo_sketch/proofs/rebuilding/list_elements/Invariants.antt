use Rattle.std.proofs.Common.{◌≡◌, map, take}
use Rattle.geo_sketch.specs.Rebuilding.{listed, AreSound}
use Rattle.geo_sketch.proofs.rebuilding.list_elements.Given as goal

abbrev pub invariant-loop-entry : goal.invariant-loop-entry
invariant-loop-entry l = record { sound : AreSound (map listed (take l.entry-index l.list)); elements : l.elements.items ≡ map listed (take l.entry-index l.list) }
