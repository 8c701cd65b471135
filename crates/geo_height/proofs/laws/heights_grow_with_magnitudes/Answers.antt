use Rattle.geo_sketch.proofs.SketchLaws.{constructed}
use Rattle.geo_height.proofs.HeightLaws.{heights_grow, statement_height_grows}
use Rattle.geo_height.proofs.laws.heights_grow_with_magnitudes.Goals as goal

pub returns : goal.returns
returns c =
    record {
      element = λ drawing m k n drawn h. heights_grow drawing.elements (constructed drawing drawn) m k h n;
      statement = λ drawing m k s drawn h. statement_height_grows drawing.elements (constructed drawing drawn) m k h s;
    }
