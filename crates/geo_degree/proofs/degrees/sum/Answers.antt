use Rattle.std.proofs.Common.{◌≡◌, ◌∙◌, refl, ℕ, length, length-set, ◌+◌, arith}
use Rattle.std.specs.Prelude.{slice_index_or}
use Rattle.geo_degree.proofs.RowLaws.{entry_more}
use Rattle.geo_degree.proofs.degrees.sum.Goals as goal

pub loop-c-preserved : goal.loop-c-preserved
loop-c-preserved c =
    let long : length c.loop-c.row ≡ 24 = c.loop-c.invariant.long in
    let f = λ (k : ℕ). slice_index_or c.args.first.now k 0 + slice_index_or c.args.second.now k 0 in
    record {
      long = length-set c.loop-c.row c.loop-c.c (f c.loop-c.c) ∙ long;
      before = entry_more c.loop-c.row c.loop-c.c (f c.loop-c.c) f (omega (arith, long, c.loop-c-test.true, c.requires.few)) c.loop-c.invariant.before refl;
    }
