use Rattle.std.proofs.Common.{◌≡◌, take}
use Rattle.geo_grid.specs.Walks.{wheels_of}
use Rattle.geo_grid.proofs.search.wheels.find_wheels.Given as goal

abbrev pub invariant-loop-block : goal.invariant-loop-block
invariant-loop-block l = l.wheels.items ≡ wheels_of (take l.block-index l.blocks)
