use Rattle.geo_degree.proofs.FormLaws.{posed_live}
use Rattle.geo_cert.proofs.making.make.Goals as goal

pub find-requires : goal.find-requires
find-requires c = posed_live c.args.sketch.now.elements c.args.s.now c.requires

pub list_needed-requires : goal.list_needed-requires
list_needed-requires c = posed_live c.args.sketch.now.elements c.args.s.now c.requires
