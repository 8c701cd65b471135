use Rattle.std.proofs.Common.{rules, ◌≡◌, true}
use Rattle.geo_check.specs.Grids.{are_for}
use Rattle.geo_check.proofs.PositionLaws.{grid_modest, grid_points}
use Rattle.geo_check.proofs.checking.find_grid_fault.Goals as goal

pub is_small-requires : goal.is_small-requires
is_small-requires c =
    let for : are_for c.args.degrees.now c.args.grid.now ≡ true = search rules in
    grid_points c.args.sketch.now c.requires.drawn c.args.claim.now c.args.degrees.now c.args.grid.now c.requires.right for

pub find_points_fault-requires-clause-modest : goal.find_points_fault-requires-clause-modest
find_points_fault-requires-clause-modest c =
    let for : are_for c.args.degrees.now c.args.grid.now ≡ true = search rules in
    grid_modest c.args.sketch.now c.requires.drawn c.args.claim.now c.args.degrees.now c.args.grid.now c.requires.right for
