use Rattle.std.proofs.Common.{rules, ◌≡◌, ◌∙◌, ◌<◌, ◌≤◌, length, length-set, get_or, arith}
use Rattle.geo_grid.specs.Nodes.{triple_there}
use Rattle.geo_grid.specs.Works.{triples_of}
use Rattle.geo_grid.proofs.PlanLaws.{node_count, seen_plan}
use Rattle.geo_grid.proofs.RunLaws.{all_done, done_more, run_inside, run_made, run_small}
use Rattle.geo_grid.proofs.posing.plan.Plan.evaluate.Goals as goal

pub evaluate_node-triple-requires-clause-inside : goal.evaluate_node-triple-requires-clause-inside
evaluate_node-triple-requires-clause-inside g c =
    let plan = seen_plan c.self.view_is c.self.invariant in
    let here : c.index.result.now ≡ get_or c.self.inside.nodes.items c.loop-i.i c.index.result.now = search rules in
    let within : c.loop-i.i < length c.self.inside.nodes.items = search rules in
    run_inside plan c.args.values.now c.requires.count c.loop-i.triples c.loop-i.i c.index.result.now here within c.loop-i.invariant.before c.loop-i.invariant.room

pub evaluate_node-triple-requires-clause-low : goal.evaluate_node-triple-requires-clause-low
evaluate_node-triple-requires-clause-low g c =
    let plan = seen_plan c.self.view_is c.self.invariant in
    let here : c.index.result.now ≡ get_or c.self.inside.nodes.items c.loop-i.i c.index.result.now = search rules in
    let within : c.loop-i.i < length c.self.inside.nodes.items = search rules in
    run_small plan c.args.values.now c.requires.count c.loop-i.triples c.loop-i.i c.index.result.now here within c.loop-i.invariant.before g.W.Width.limit c.requires.low

pub bounds-triples-i : goal.bounds-triples-i
bounds-triples-i g c =
    let plan = seen_plan c.self.view_is c.self.invariant in
    let within : c.loop-i.i < length c.self.inside.nodes.items = search rules in
    omega (arith, within, c.loop-i.invariant.room, node_count plan)

pub offset_bounds-triples-i : goal.offset_bounds-triples-i
offset_bounds-triples-i g c =
    let plan = seen_plan c.self.view_is c.self.invariant in
    let within : c.loop-i.i < length c.self.inside.nodes.items = search rules in
    let room : c.loop-i.i < length c.loop-i.triples = omega (arith, within, c.loop-i.invariant.room, node_count plan) in
    search rules

pub loop-i-preserved : goal.loop-i-preserved
loop-i-preserved g c =
    let plan = seen_plan c.self.view_is c.self.invariant in
    let here : c.index.result.now ≡ get_or c.self.inside.nodes.items c.loop-i.i c.index.result.now = search rules in
    let within : c.loop-i.i < length c.self.inside.nodes.items = search rules in
    let old = c.loop-i.invariant in
    let made : c.evaluate_node-triple.result ≡ triple_there (triples_of c.args.self.now c.args.values.now) c.loop-i.i =
    c.evaluate_node-triple.ensures.value ∙ run_made plan c.args.values.now c.requires.count c.loop-i.triples c.loop-i.i c.index.result.now here within old.before in
    record {
      room = length-set c.loop-i.triples c.loop-i.i c.evaluate_node-triple.result ∙ old.room;
      before = done_more plan c.args.values.now c.requires.count c.loop-i.triples c.loop-i.i c.evaluate_node-triple.result (omega (arith, within, old.room, node_count plan)) made old.before;
      ticks = omega (arith, c.evaluate_node-triple.ensures.tick, old.ticks, c.loop-i.auto.i);
    }

pub returns-clause-triples : goal.returns-clause-triples
returns-clause-triples g c =
    let plan = seen_plan c.self.view_is c.self.invariant in
    let past : length c.self.inside.nodes.items ≤ c.loop-i.i = search rules in
    all_done plan c.args.values.now c.requires.count c.loop-i.triples c.loop-i.i c.loop-i.invariant.room
    (omega (arith, past, node_count plan)) c.loop-i.invariant.before

pub returns-clause-ticks : goal.returns-clause-ticks
returns-clause-ticks g c =
    let plan = seen_plan c.self.view_is c.self.invariant in
    let all : c.len-i-end.result ≡ length c.self.inside.nodes.items = search rules in
    omega (arith, all, c.loop-i.invariant.ticks, c.loop-i.auto.i-end, c.loop-i-test.false, c.requires.within, node_count plan)
