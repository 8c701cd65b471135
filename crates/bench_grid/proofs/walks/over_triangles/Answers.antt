use Rattle.std.proofs.Common.{◌≡◌, ◌∙◌, ap, inr, length, rules}
use Rattle.std.specs.Vec.{with_items}
use Rattle.std.proofs.lemmas.List.{with_items_is}
use Rattle.bench_grid.proofs.SmallValues.{low_at_small}
use Rattle.bench_grid.proofs.walks.over_triangles.Goals as goal

pub refresh-requires-clause-low : goal.refresh-requires-clause-low
refresh-requires-clause-low g c = rw c.deref.ensures.value (low_at_small (g.F.Form.question c.args.form.now) c.in_ok-far.far.items (g.met.F.Form.is_form c.args.form.now) (c.in_ok-far.ensures.count ∙ ap (λ axes. length axes) c.axes-count.ensures) c.in_ok-far.ensures.small)

pub refresh-requires-in-loop-clause-low : goal.refresh-requires-in-loop-clause-low
refresh-requires-in-loop-clause-low g c = rw c.deref-in-loop.ensures.value (low_at_small (g.F.Form.question c.args.form.now) c.loop.values.items (g.met.F.Form.is_form c.args.form.now) c.loop.invariant.count c.loop.invariant.small)

pub loop-preserved : goal.loop-preserved
loop-preserved g c =
    let digits_room : length c.carry-first.new.digits ≡ c.loop.digits.len = search rules in
    let values_room : length c.carry-first.new.values ≡ c.loop.values.len = search rules in
    let digits : (with_items c.loop.digits c.carry-first.new.digits).items ≡ c.carry-first.new.digits = with_items_is c.loop.digits c.carry-first.new.digits digits_room in
    let values : (with_items c.loop.values c.carry-first.new.values).items ≡ c.carry-first.new.values = with_items_is c.loop.values c.carry-first.new.values values_room in
    rw (digits, values) (record {
      digits = search rules;
      count = search rules;
      small = c.carry-first.ensures.small;
      work = inr (c.loop.values.items, search rules, search rules);
    })
