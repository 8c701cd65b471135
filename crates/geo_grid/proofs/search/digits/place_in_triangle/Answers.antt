use Rattle.std.proofs.Common.{◌≡◌, ◌≢◌, ◌+◌, ap, arith, suc}
use Rattle.geo_degree.specs.Blocks.{rows_before}
use Rattle.geo_grid.proofs.BlockSizes.{row_step, triangle_count}
use Rattle.geo_grid.proofs.search.digits.place_in_triangle.Goals as goal

-- the last row has no point to spare
not_last : (c : goal.In-loop-row) → c.loop-row.row ≢ c.args.degree
not_last c e =
    let same : rows_before (suc c.args.degree) c.loop-row.row ≡ rows_before (suc c.args.degree) c.args.degree = ap (rows_before (suc c.args.degree)) e in
    omega (arith, e, same, row_step (suc c.args.degree) c.args.degree (omega arith), triangle_count c.args.degree)

pub overflow_add-row : goal.overflow_add-row
overflow_add-row c = omega (arith, not_last c)

pub loop-row-preserved : goal.loop-row-preserved
loop-row-preserved c =
    let step = row_step (suc c.args.degree) c.loop-row.row (omega arith) in
    let next : suc c.loop-row.row ≡ c.loop-row.row + 1 = omega arith in
    record {
      inside = omega (arith, not_last c);
      number_is = omega (arith, step, ap (rows_before (suc c.args.degree)) next);
    }
