use Rattle.geo_sketch.proofs.SketchLaws.{constructed}
use Rattle.geo_height.proofs.HeightLaws.{positive, height_along, named_in_statement, needed_in_statement}
use Rattle.geo_height.proofs.laws.heights_grow_along_the_construction.Goals as goal

pub returns : goal.returns
returns c =
    record {
      positive = λ drawing m n drawn l. positive drawing.elements (constructed drawing drawn) m n l;
      element = λ drawing m n on drawn t. height_along drawing.elements (constructed drawing drawn) m n on t;
      statement = λ drawing m s drawn l. named_in_statement drawing.elements (constructed drawing drawn) m s l;
      needed = λ drawing m s n drawn l t. needed_in_statement drawing.elements (constructed drawing drawn) m s l n t;
    }
