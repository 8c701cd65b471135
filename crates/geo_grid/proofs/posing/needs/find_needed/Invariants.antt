use Rattle.geo_grid.specs.Flags.{AreFlagged}
use Rattle.geo_grid.proofs.posing.needs.find_needed.Given as goal

abbrev pub invariant-loop-i : goal.invariant-loop-i
invariant-loop-i l = AreFlagged l.elements l.named l.named l.flags l.i
