use Rattle.std.proofs.Common.{◌≡◌, ◌++◌, drop}
use Rattle.geo_degree.specs.Grids.{parameters_of}
use Rattle.geo_degree.proofs.degrees.list_parameters.Given as goal

abbrev pub invariant-loop-element : goal.invariant-loop-element
invariant-loop-element l = l.parameters.items ++ parameters_of (drop l.element-index l.fn.elements) ≡ parameters_of l.fn.elements
