use Rattle.geo_settle.proofs.FailLaws.{finds_least, finds_nothing}
use Rattle.geo_settle.proofs.round.first_found.Goals as goal

pub returns-then-least-eq18446744073709551615 : goal.returns-then-least-eq18446744073709551615
returns-then-least-eq18446744073709551615 g c =
    let finds = finds_nothing (g.F.Form.question c.args.form.now) c.args.least c.requires c.if-least-eq18446744073709551615.true in record { clear = finds.clear; at = finds.at }

pub returns-else-least-eq18446744073709551615 : goal.returns-else-least-eq18446744073709551615
returns-else-least-eq18446744073709551615 g c =
    let finds = finds_least (g.F.Form.question c.args.form.now) c.args.least c.requires c.if-least-eq18446744073709551615.false in record { clear = finds.clear; at = finds.at }
