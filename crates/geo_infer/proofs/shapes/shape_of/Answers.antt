use Rattle.std.proofs.Common.{rules, ◌≡◌}
use Rattle.geo_infer.specs.Shapes.{shape_of}
use Rattle.geo_infer.proofs.PosedShapes.{shape_posed}
use Rattle.geo_infer.proofs.shapes.shape_of.Goals as goal

pub returns-in-Some-Some-Some-Some-clause-posed : goal.returns-in-Some-Some-Some-Some-clause-posed
returns-in-Some-Some-Some-Some-clause-posed c =
    let result : c.make_shape.result ≡ shape_of c.args.sketch.now.elements c.args.said.now = search rules in
    shape_posed c.args.sketch.now.elements c.elements-elements.ensures.drawn.rising c.args.said.now c.make_shape.result result
