use Rattle.std.proofs.Common.{rules, ◌≡◌, sym, subst, List}
use Rattle.geo_sketch.specs.declared.elements.Element.{Element}
use Rattle.geo_sketch.proofs.SketchLaws.{constructed}
use Rattle.geo_degree.specs.Grids.{parameters_of}
use Rattle.geo_degree.specs.Rows.{IsTabulated}
use Rattle.geo_degree.proofs.DegreeLaws.{element_degree_low}
use Rattle.geo_degree.proofs.RowLaws.{few_parameters}
use Rattle.geo_degree.proofs.degrees.Degrees.of.Goals as goal

pub invariant_of-result : goal.invariant_of-result
invariant_of-result c =
    let drawing = c.args.sketch.now in
    let drawn = c.elements.ensures.drawn in
    let all : c.in-Ok.elements.items ≡ c.args.sketch.now.elements = search rules in
    let parameters : c.in_ok-parameters.parameters.items ≡ parameters_of c.args.sketch.now.elements = search rules in
    let rows = c.in_ok-rows.ensures in
    subst (λ (es : List Element). IsTabulated es c.in_ok-parameters.parameters.items c.in_ok-rows.rows.items) (sym all) (record {
      construction = constructed drawing drawn;
      low = element_degree_low drawing drawn;
      few = rw parameters (few_parameters drawing drawn);
      parameters_are = parameters;
      one_each = rows.0;
      rows_are = rows.1;
    })
