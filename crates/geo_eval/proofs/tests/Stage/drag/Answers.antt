use Rattle.geo_eval.proofs.SceneLaws.{done_change}
use Rattle.geo_eval.proofs.tests.Stage.drag.Goals as goal

pub apply-requires-clause-before : goal.apply-requires-clause-before
apply-requires-clause-before g c = (done_change c.args.self.now.sketch c.drag.new.self c.in_ok-delta.delta c.args.self.now.scene c.elements-drawn.ensures.drawn c.in_ok-delta.ensures.leads c.in_ok-delta.ensures.after c.requires).1
