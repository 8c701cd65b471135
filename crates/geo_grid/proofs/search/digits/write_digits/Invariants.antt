use Rattle.geo_grid.proofs.Written.{IsWritten}
use Rattle.geo_grid.proofs.search.digits.write_digits.Given as goal

abbrev pub invariant-loop-block : goal.invariant-loop-block
invariant-loop-block l = IsWritten l.blocks l.block-index l.behind l.rest l.place l.index l.digits
