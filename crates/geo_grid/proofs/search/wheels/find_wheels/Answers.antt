use Rattle.std.proofs.Common.{◌≡◌, ◌∙◌, ◌++◌, ◌∷◌, [], ap, rules, slice_index_or, sym}
use Rattle.geo_degree.specs.declared.grids.Block.TheVariants.{One}
use Rattle.geo_grid.specs.Walks.{wheels_of}
use Rattle.geo_grid.proofs.Wheeling.{wheels_more}
use Rattle.geo_grid.proofs.search.wheels.find_wheels.Goals as goal

pub loop-block-preserved : goal.loop-block-preserved
loop-block-preserved c =
    let own = wheels_of (slice_index_or c.args.blocks.now c.loop-block.block-index (One 0) ∷ []) in
    let more : c.add_wheels.new.wheels.items ≡ c.loop-block.wheels.items ++ wheels_of (slice_index_or c.args.blocks.now c.loop-block.block-index (One 0) ∷ []) = search rules in
    more ∙ ap (λ ws. ws ++ own) c.loop-block.invariant ∙ sym (wheels_more c.args.blocks.now c.loop-block.block-index (One 0) c.loop-block-test.true)
