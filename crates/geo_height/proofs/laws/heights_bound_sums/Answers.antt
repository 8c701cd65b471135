use Rattle.geo_sketch.proofs.SketchLaws.{constructed}
use Rattle.geo_height.proofs.HeightLaws.{sums_below, statement_sum_below, sums_on_the_way}
use Rattle.geo_height.proofs.laws.heights_bound_sums.Goals as goal

pub returns : goal.returns
returns c =
    record {
      element = λ drawing v m n e drawn w q. sums_below drawing.elements (constructed drawing drawn) v m w n e q;
      statement = λ drawing v m s drawn w l. statement_sum_below drawing.elements (constructed drawing drawn) v m w s l;
      on_the_way = λ drawing v m s n e limit drawn w l high t q. sums_on_the_way drawing drawn v m w s n e limit l high t q;
    }
