use Rattle.std.proofs.Common.{arith, rules, ◌≡◌, ◌<◌, slice_index_or, ap, ◌∙◌, ◌*◌, drop, ◌+◌}
use Rattle.std.proofs.Math.Nat.{le-mul_of_pos_right}
use Rattle.geo_degree.specs.declared.grids.Block.TheVariants.{One}
use Rattle.geo_degree.specs.Blocks.{point_count, points_of_all}
use Rattle.geo_degree.specs.Grids.{grid_size}
use Rattle.geo_grid.proofs.BlockSizes.{block_past, product_more, product_past, product_within, some_point}
use Rattle.geo_grid.proofs.search.sizes.size_within_limit.Goals as goal
use Rattle.geo_degree.specs.declared.limits.TheConstants.{SIZE_LIMIT}

pub returns-in_default : goal.returns-in_default
returns-in_default c =
    let past : SIZE_LIMIT < point_count (slice_index_or c.args.blocks.now c.loop-block.block-index (One 0)) = search rules in
    block_past c.args.blocks.now c.loop-block.block-index c.loop-block.size SIZE_LIMIT (One 0) c.loop-block-test.true c.loop-block.invariant.positive past c.loop-block.invariant.rest

pub returns-then-count-size : goal.returns-then-count-size
returns-then-count-size c =
    let count : c.in-Some.count ≡ point_count (slice_index_or c.args.blocks.now c.loop-block.block-index (One 0)) = search rules in
    product_past c.args.blocks.now c.loop-block.block-index c.loop-block.size SIZE_LIMIT (One 0) c.loop-block-test.true c.loop-block.invariant.positive (omega (arith, count, c.if-count-size.true)) c.loop-block.invariant.rest

pub loop-block-preserved : goal.loop-block-preserved
loop-block-preserved c =
    let k = c.loop-block.block-index in
    let count : c.in-Some.count ≡ point_count (slice_index_or c.args.blocks.now c.loop-block.block-index (One 0)) = search rules in
    let some : 0 < c.in-Some.count = omega (arith, count, some_point (slice_index_or c.args.blocks.now c.loop-block.block-index (One 0))) in
    record {
      positive = omega (arith, c.loop-block.invariant.positive, le-mul_of_pos_right c.loop-block.size some);
      small = product_within c.loop-block.size c.in-Some.count SIZE_LIMIT c.if-count-size.false;
      rest = ap (λ n. c.loop-block.size * n * grid_size (points_of_all (drop (c.loop-block.block-index + 1) c.args.blocks.now))) count ∙ product_more c.args.blocks.now k c.loop-block.size (One 0) c.loop-block-test.true c.loop-block.invariant.rest;
    }
