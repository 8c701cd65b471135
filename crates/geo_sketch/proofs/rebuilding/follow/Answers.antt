use Rattle.std.proofs.Common.{◌≡◌, true, false, rules}
use Rattle.geo_sketch.specs.Followers.{can_follow}
use Rattle.geo_sketch.specs.Rebuilding.{listed}
use Rattle.geo_sketch.proofs.RebuildLaws.{decides_following}
use Rattle.geo_sketch.proofs.rebuilding.follow.Goals as goal

pub returns-then-not-can_come_next : goal.returns-then-not-can_come_next
returns-then-not-can_come_next c sound =
    let x = listed c.args.entry.now in
    let can = (decides_following c.args.elements.now x c.requires).1 sound in
    let cannot : can_follow c.args.elements.now x.number x.kind x.def ≡ false = search rules in
    cc

pub returns-in-Some : goal.returns-in-Some
returns-in-Some c =
    let x = listed c.args.entry.now in
    let can : can_follow c.args.elements.now x.number x.kind x.def ≡ true = search rules in
    let named : c.in-Some.name ≡ x.name = cc in
    ((decides_following c.args.elements.now x c.requires).0 can, λ i. record { number = x.number; name = named i; kind = x.kind; def = x.def })
