use Rattle.std.proofs.Common.{◌≡◌, rules}
use Rattle.geo_grid.specs.Orders.{ordered}
use Rattle.geo_grid.proofs.posing.plan.Plan.with_lane.Goals as goal

pub invariant_of-result : goal.invariant_of-result
invariant_of-result c =
    let named : c.deref.result.now ≡ c.args.named.items = search rules in
    let axes : c.deref-2.result.now ≡ c.args.axes.items = search rules in
    let order : c.in_ok-order.order.elements.items ≡ ordered c.args.sketch.now.elements c.args.named.items c.args.axes.items = rw (named, axes) at c.in_ok-order.ensures.elements in
    record {
      drawn = search rules;
      live = c.requires.live;
      order_is = order;
      nodes_are = rw (c.deref-3.ensures.value, c.deref-4.ensures.value, order) at c.in_ok-nodes.ensures;
      starts_are = rw (named, axes) at c.in_ok-order.ensures.starts;
      short_is = c.requires.short;
    }
