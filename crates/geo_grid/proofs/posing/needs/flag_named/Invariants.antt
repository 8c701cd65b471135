use Rattle.std.proofs.Common.{length, take}
use Rattle.geo_grid.specs.Flags.{AreFlagged}
use Rattle.geo_grid.proofs.posing.needs.flag_named.Given as goal

abbrev pub invariant-loop-n : goal.invariant-loop-n
invariant-loop-n l = AreFlagged l.elements l.named (take l.n-index l.named) l.flags (length l.elements)
