use Rattle.std.proofs.Common.{◌≡◌, ◌++◌}
use Rattle.std.specs.Iterator.Adapters.{zip_first, zip_second}
use Rattle.std.specs.Slice.Iter.{iter_rest}
use Rattle.geo_degree.specs.Verdicts.{named}
use Rattle.geo_settle.proofs.values.name_values.Given as goal

abbrev pub invariant-loop-axis : goal.invariant-loop-axis
invariant-loop-axis l = l.list ++ named (iter_rest (zip_first l.axis-iterator)) (iter_rest (zip_second l.axis-iterator)) ≡ named l.axes l.values
