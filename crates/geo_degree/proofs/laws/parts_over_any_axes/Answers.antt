use Rattle.geo_sketch.proofs.SketchLaws.{constructed}
use Rattle.geo_degree.proofs.OverLaws.{agrees_over, bounded_over, low_over, pairs_agree_over, short_over}
use Rattle.geo_degree.proofs.laws.parts_over_any_axes.Goals as goal

pub returns-clause-agrees : goal.returns-clause-agrees
returns-clause-agrees c drawing s axes xs k place x drawn rise l m = agrees_over drawing.elements (constructed drawing drawn) s axes rise xs k place x l m

pub returns-clause-short : goal.returns-clause-short
returns-clause-short c drawing s axes xs k place drawn = short_over drawing.elements (constructed drawing drawn) s axes xs k place

pub returns-clause-pairs_agree : goal.returns-clause-pairs_agree
returns-clause-pairs_agree c drawing s axes xs k p x y drawn rise l pair = pairs_agree_over drawing.elements (constructed drawing drawn) s axes rise xs k p x y l pair

pub returns-clause-low : goal.returns-clause-low
returns-clause-low c drawing s axes xs k p drawn pair = low_over drawing.elements (constructed drawing drawn) s axes xs k p pair

pub returns-clause-bounded : goal.returns-clause-bounded
returns-clause-bounded c drawing s axes xs ms k drawn within = bounded_over drawing.elements (constructed drawing drawn) s axes xs ms k within
