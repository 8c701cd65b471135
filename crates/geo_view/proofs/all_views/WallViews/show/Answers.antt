use Rattle.std.proofs.Common.{rules, w64}
use Rattle.std.specs.Prelude.{FitsSigned}
use Rattle.std.proofs.lemmas.Int.{to_z-of_z}
use Rattle.geo_view.proofs.all_views.WallViews.show.Goals as goal

pub returns-clause-refused : goal.returns-clause-refused
returns-clause-refused g c =
    let fits : FitsSigned w64 c.args.k = search rules in
    rw (to_z-of_z w64 c.args.k fits) at c.show.ensures.refused
