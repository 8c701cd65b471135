use Rattle.std.proofs.Common.{rules, ◌≡◌, ◌∙◌, length, length-set, max, arith}
use Rattle.std.specs.Prelude.{slice_index_or}
use Rattle.geo_degree.proofs.RowLaws.{entry_more}
use Rattle.geo_degree.proofs.degrees.larger.Goals as goal

pub loop-c-preserved : goal.loop-c-preserved
loop-c-preserved c =
    let long : length c.loop-c.row ≡ 24 = c.loop-c.invariant.long in
    record {
      long = length-set c.loop-c.row c.loop-c.c c.max.result ∙ long;
      before = entry_more c.loop-c.row c.loop-c.c c.max.result (λ k. max (slice_index_or c.args.first.now k 0) (slice_index_or c.args.second.now k 0)) (omega (arith, long, c.loop-c-test.true)) c.loop-c.invariant.before (search rules);
    }
