use Rattle.geo_sketch.specs.Sketches.{blank}
use Rattle.geo_sketch.proofs.ChangeLaws.{blank_drawn, made_drawn}
use Rattle.geo_sketch.proofs.laws.made_by_changes.Goals as goal

pub returns : goal.returns
returns c ds leads = made_drawn blank ds blank_drawn leads
