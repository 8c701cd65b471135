use Rattle.std.proofs.Common.{◌≡◌, ◌+◌, ◌-◌, ◌<◌, ℕ, length}
use Rattle.geo_grid.specs.Nodes.{triple_there}
use Rattle.geo_grid.specs.Orders.{order_of}
use Rattle.geo_grid.specs.Works.{triples_of}
use Rattle.geo_grid.proofs.posing.plan.Plan.evaluate.Given as goal

abbrev pub invariant-loop-i : goal.invariant-loop-i
invariant-loop-i g l = record {
  room : length l.triples ≡ length (order_of l.fn.self);
  before : (k : ℕ) → k < l.i → triple_there l.triples k ≡ triple_there (triples_of l.fn.self l.values) k;
  ticks : l.steps ≡ l.fn.steps + (l.i - l.start);
}
