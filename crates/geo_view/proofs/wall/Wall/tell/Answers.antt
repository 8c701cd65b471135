use Rattle.std.proofs.Common.{rules}
use Rattle.std.specs.Prelude.{option_map}
use Rattle.geo_view.specs.Sights.{after}
use Rattle.geo_view.proofs.Steps.{one_more}
use Rattle.geo_view.proofs.wall.Wall.tell.Goals as goal

pub loop-place-preserved : goal.loop-place-preserved
loop-place-preserved g c =
    (search rules, one_more _ (option_map (after c.args.changes.now)) _ _ c.loop-place.place _ c.index_mut.result.now (search rules) c.loop-place.invariant.0 c.loop-place.invariant.1 (search rules) (search rules))
