use Rattle.std.proofs.Common.{◌≡◌, take}
use Rattle.std.specs.Prelude.{map}
use Rattle.std.specs.List.{filter_map}
use Rattle.geo_degree.specs.Degrees.{statement_degree}
use Rattle.geo_cert.specs.Making.{element_degree, values_for}
use Rattle.geo_cert.proofs.making.proved.Given as goal

abbrev pub invariant-loop-element : goal.invariant-loop-element
invariant-loop-element l = record {
  degrees : l.degrees ≡ filter_map (element_degree (statement_degree l.sketch.elements l.s)) (take l.element-index l.sketch.elements);
  grid : l.grid ≡ map values_for l.degrees;
}
