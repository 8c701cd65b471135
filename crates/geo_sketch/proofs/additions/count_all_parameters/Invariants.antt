use Rattle.std.proofs.Common.{◌≡◌, ◌*◌, ◌≤◌, take}
use Rattle.std.specs.Prelude.{sum_by}
use Rattle.geo_sketch.specs.Sketches.{element_parameters}
use Rattle.geo_sketch.proofs.additions.count_all_parameters.Given as goal

abbrev pub invariant-loop-element : goal.invariant-loop-element
invariant-loop-element l = record { so_far : l.count ≡ sum_by element_parameters (take l.element-index l.elements); small : l.count ≤ 2 * l.element-index }
