use Rattle.std.proofs.Common.{◌≡◌, ◌<◌, ◌≤◌, ◌*◌, drop}
use Rattle.geo_degree.specs.Blocks.{points_of_all}
use Rattle.geo_degree.specs.Grids.{grid_size}
use Rattle.geo_grid.proofs.search.sizes.size_within_limit.Given as goal
use Rattle.geo_degree.specs.declared.limits.TheConstants.{SIZE_LIMIT}

abbrev pub invariant-loop-block : goal.invariant-loop-block
invariant-loop-block l = record {
  positive : 0 < l.size;
  small : l.size ≤ SIZE_LIMIT;
  rest : l.size * grid_size (points_of_all (drop l.block-index l.blocks)) ≡ grid_size (points_of_all l.blocks);
}
