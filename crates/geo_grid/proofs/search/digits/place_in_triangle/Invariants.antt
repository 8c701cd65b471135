use Rattle.std.proofs.Common.{◌≡◌, ◌≤◌, ◌+◌, suc}
use Rattle.geo_degree.specs.Blocks.{rows_before}
use Rattle.geo_grid.proofs.search.digits.place_in_triangle.Given as goal

abbrev pub invariant-loop-row : goal.invariant-loop-row
invariant-loop-row l = record {
  inside : l.row ≤ l.degree;
  number_is : rows_before (suc l.degree) l.row + l.column ≡ l.number;
}

abbrev pub decreases-loop-row : goal.decreases-loop-row
decreases-loop-row l = l.column
