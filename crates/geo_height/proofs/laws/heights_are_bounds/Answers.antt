use Rattle.geo_sketch.proofs.SketchLaws.{constructed}
use Rattle.geo_height.proofs.HeightLaws.{fits, bounded, parts_bounded}
use Rattle.geo_height.proofs.laws.heights_are_bounds.Goals as goal

pub returns : goal.returns
returns c =
    record {
      coordinates = λ drawing v m n drawn w. fits drawing.elements (constructed drawing drawn) v m w n;
      element = λ drawing v m n drawn w. bounded drawing.elements (constructed drawing drawn) v m w n;
      statement = λ drawing v m s drawn w. parts_bounded drawing.elements (constructed drawing drawn) v m w s;
    }
