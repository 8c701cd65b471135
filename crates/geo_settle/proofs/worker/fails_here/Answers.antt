use Rattle.geo_settle.proofs.FailLaws.{fails_there}
use Rattle.geo_settle.proofs.worker.fails_here.Goals as goal

pub returns : goal.returns
returns g c = fails_there (g.F.Form.question c.args.cursor.now.0) c.args.cursor.now.1 c.failing.result c.failing.ensures
