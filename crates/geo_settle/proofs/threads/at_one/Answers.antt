use Rattle.std.proofs.Common.{rules}
use Rattle.std.specs.Fork.{ChangesAt}
use Rattle.geo_settle.proofs.Places.{changes_one}
use Rattle.geo_settle.proofs.threads.at_one.Goals as goal

pub returns : goal.returns
returns g c =
    let at : ChangesAt g.F.Fn c.args.f.now c.args.place c.args.it.now c.f.new.arg3 = search rules in
    changes_one (ChangesAt g.F.Fn c.args.f.now) c.args.place c.args.it.now c.f.new.arg3 at
