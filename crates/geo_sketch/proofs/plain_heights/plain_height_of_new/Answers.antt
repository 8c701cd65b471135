use Rattle.std.proofs.Common.{◌∙◌}
use Rattle.geo_sketch.proofs.PlainHeightLaws.{plain_height_from}
use Rattle.geo_sketch.proofs.plain_heights.plain_height_of_new.Goals as goal

pub returns : goal.returns
returns c = c.plain_height_by.ensures ∙ plain_height_from c.args.elements.now c.plain_heights_of-heights.result c.args.number c.args.def.now c.plain_heights_of-heights.ensures.filled c.requires.live
