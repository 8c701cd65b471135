use Rattle.std.proofs.Common.{rules, refl}
use Rattle.geo_view.proofs.WallLaws.{closed_at}
use Rattle.geo_view.proofs.wall.Wall.close.Goals as goal

pub returns-in-Some-clause-closed : goal.returns-in-Some-clause-closed
returns-in-Some-clause-closed g c = closed_at _ c.args.self.now.places.items c.args.k c.in-Some.place _ (search rules) refl
