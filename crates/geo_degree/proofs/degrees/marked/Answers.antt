use Rattle.std.proofs.Common.{◌∙◌, ◌<◌, length, length-set, get_or-set_other, arith}
use Rattle.geo_degree.proofs.RowLaws.{marked_elsewhere, marked_there}
use Rattle.geo_degree.proofs.degrees.marked.Goals as goal
use Rattle.geo_degree.proofs.degrees.marked.Goals.{then-own-parameters, else-own-parameters}

pub loop-c-preserved : goal.loop-c-preserved
loop-c-preserved c =
    let old = c.loop-c.invariant in
    let ps = c.args.parameters.now in
    let row = c.args.row.now in
    let i = c.loop-c.c in
    let room : c.loop-c.c < length c.loop-c.marked = omega (arith, old.long, c.loop-c-test.true, c.requires) in
    elim c.if-own-parameters.branch [
      | then-own-parameters w ↦ rw w.marked-is (record {
        long = length-set c.loop-c.marked i 1 ∙ old.long;
        before = marked_there ps row c.loop-c.marked c.args.own i room old.before w.if-own-parameters.true;
        behind = λ k l. get_or-set_other c.loop-c.marked i k 1 0 (λ e. omega (arith, e, l)) ∙ old.behind k (omega (arith, l));
      })
      | else-own-parameters w ↦ rw w.marked-is (record {
        long = old.long;
        before = marked_elsewhere ps row c.loop-c.marked c.args.own i old.before (old.behind i (omega arith)) w.if-own-parameters.false;
        behind = λ k l. old.behind k (omega (arith, l));
      })
    ]
