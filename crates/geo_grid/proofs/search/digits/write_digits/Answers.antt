use Rattle.std.proofs.Common.{◌∙◌, ◌/◌, ◌<◌, ap, arith, subst, sym}
use Rattle.geo_degree.specs.declared.grids.Block.TheVariants.{One}
use Rattle.geo_grid.proofs.BlockSizes.{own_degrees_within}
use Rattle.geo_grid.proofs.Written.{number_within, positive_behind, room_for_more, written_more}
use Rattle.geo_grid.proofs.search.digits.write_digits.Goals as goal
use Rattle.geo_degree.specs.declared.limits.TheConstants.{SIZE_LIMIT}

pub point_count-behind-requires : goal.point_count-behind-requires
point_count-behind-requires c = own_degrees_within c.args.blocks.now c.loop-block.block-index SIZE_LIMIT (One 0) c.loop-block-test.true (omega (arith, c.requires.size, c.requires.small))

pub nonzero_div-rest : goal.nonzero_div-rest
nonzero_div-rest c = subst (λ n. 0 < c.loop-block.behind / n) (sym c.point_count-behind.ensures) (positive_behind c.args.blocks.now c.loop-block.block-index c.loop-block.behind (One 0) c.loop-block-test.true c.loop-block.invariant.size)

pub nonzero_rem-rest : goal.nonzero_rem-rest
nonzero_rem-rest c = subst (λ n. 0 < c.loop-block.behind / n) (sym c.point_count-behind.ensures) (positive_behind c.args.blocks.now c.loop-block.block-index c.loop-block.behind (One 0) c.loop-block-test.true c.loop-block.invariant.size)

pub write_block_digits-place-requires-clause-within : goal.write_block_digits-place-requires-clause-within
write_block_digits-place-requires-clause-within c = rw c.point_count-behind.ensures (number_within c.args.blocks.now c.loop-block.block-index c.loop-block.behind c.loop-block.rest (One 0) c.loop-block-test.true c.loop-block.invariant.size c.loop-block.invariant.within)

pub write_block_digits-place-requires-clause-room : goal.write_block_digits-place-requires-clause-room
write_block_digits-place-requires-clause-room c = omega (arith, c.requires.room, room_for_more c.args.blocks.now c.loop-block.block-index c.loop-block.place (One 0) c.loop-block-test.true c.loop-block.invariant.place_is)

pub loop-block-preserved : goal.loop-block-preserved
loop-block-preserved c =
    let own = c.write_block_digits-place.ensures.digits in
    let number = own.2 ∙ ap (λ n. c.loop-block.rest / (c.loop-block.behind / n)) c.point_count-behind.ensures in
    rw c.point_count-behind.ensures
    (written_more c.args.blocks.now c.loop-block.block-index c.loop-block.behind c.loop-block.rest c.loop-block.place c.write_block_digits-place.result c.args.index c.loop-block.digits c.write_block_digits-place.new.digits own.0 (One 0) c.loop-block-test.true c.loop-block.invariant c.write_block_digits-place.ensures.place own.1 number own.3)
