use Rattle.std.proofs.Common.{◌≡◌, ◌++◌, drop}
use Rattle.geo_degree.specs.Grids.{parameters_of}
use Rattle.geo_check.proofs.checking.list_parameters.Given as goal

abbrev pub invariant-loop-element : goal.invariant-loop-element
invariant-loop-element l = l.parameters.items ++ parameters_of (drop l.element-index l.sketch.elements) ≡ parameters_of l.sketch.elements
