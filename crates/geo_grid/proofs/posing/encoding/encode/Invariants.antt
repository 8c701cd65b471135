use Rattle.std.proofs.Common.{◌≡◌, map, take}
use Rattle.geo_grid.specs.Codes.{node_of}
use Rattle.geo_grid.proofs.posing.encoding.encode.Given as goal

abbrev pub invariant-loop-element : goal.invariant-loop-element
invariant-loop-element l = l.nodes.items ≡ map (node_of l.axes l.elements) (take l.element-index l.elements)
