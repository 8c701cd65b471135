use Rattle.std.proofs.Common.{rules, ◌≡◌, ◌<◌, [], ◌∷◌, length}
use Rattle.geo_io.specs.Lines.{lines_of}
use Rattle.geo_app.proofs.Tallies.{all_counted, line_tallied, tally_is}
use Rattle.geo_app.proofs.generated.count_all.Goals as goal

pub loop-line-preserved : goal.loop-line-preserved
loop-line-preserved g c =
    let cut : lines_of c.loop-line.rest.now ≡ c.in-Some.line.now ∷ lines_of c.in-Some.after.now = search rules in
    let shorter : length c.in-Some.after.now < length c.loop-line.rest.now = search rules in
    let t = c.loop-line.invariant in
    line_tallied g.W.Views.shows c.args.bytes.now c.loop-line.rest.now c.in-Some.line.now c.in-Some.after.now _ _ _ _ t cut shorter (c.in_ok-count_line.ensures t.state t.stands)

pub returns : goal.returns
returns g c =
    let none : c.loop-line.rest.now ≡ [] = search rules in
    let all = all_counted g.W.Views.shows c.args.bytes.now c.loop-line.rest.now _ _ c.loop-line.invariant none in
    tally_is _ c.loop-line.counts _ _ _ all (rw c.deref.ensures.value at c.count_lines.ensures) (rw c.deref-2.ensures.value at c.count_lines-2.ensures) (rw c.deref-3.ensures.value at c.count_lines-3.ensures)
