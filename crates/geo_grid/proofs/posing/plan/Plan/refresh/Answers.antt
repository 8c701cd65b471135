use Rattle.std.proofs.Common.{◌∙◌, ap, arith, length, inl, inr, pos}
use Rattle.std.proofs.lemmas.List.{with_items_is}
use Rattle.geo_grid.specs.Nodes.{triple_there}
use Rattle.geo_triple.specs.declared.limits.TheConstants.{SHORT_LIMIT}
use Rattle.geo_grid.proofs.LaneLaws.{low_on_grid}
use Rattle.geo_grid.proofs.StartLaws.{goes_on, new_mark, new_room, one_number, one_triple_each, stands_before, start_counted, start_within}
use Rattle.geo_grid.proofs.posing.plan.Plan.refresh.Goals as goal

pub put_mark-requires : goal.put_mark-requires
put_mark-requires g c = ap (λ ns. length ns) c.deref_mut.ensures.value ∙ one_number c.args.self.now c.args.work.now c.args.values.now c.args.first c.requires.work

pub put_mark-requires-else-takes_lane : goal.put_mark-requires-else-takes_lane
put_mark-requires-else-takes_lane g c = ap (λ ns. length ns) c.deref_mut-else-takes_lane.ensures.value ∙ one_number c.args.self.now c.args.work.now c.args.values.now c.args.first c.requires.work

pub evaluate-requires-clause-low : goal.evaluate-requires-clause-low
evaluate-requires-clause-low g c =
    let p = c.args.self.now in
    let begin = c.begin-from in
    let grid = goes_on p c.args.work.now c.args.values.now c.args.first c.requires.work c.index-mark.result.now c.index-mark.ensures begin.result.0 (λ t. ap (λ b. b.0) (begin.ensures.fresh t)) (λ t. ap (λ b. b.0) (begin.ensures.used t)) (c.takes_lane.ensures.narrow c.if-takes_lane.true) (c.takes_lane.ensures.on_grid c.if-takes_lane.true) in
    low_on_grid p begin.ensures.drawn SHORT_LIMIT c.args.values.now c.requires.count (c.takes_lane.ensures.low c.if-takes_lane.true) grid

pub evaluate-requires-clause-within : goal.evaluate-requires-clause-within
evaluate-requires-clause-within g c =
    let begin = c.begin-from in
    start_within c.args.self.now c.args.work.now c.args.values.now c.args.first c.requires.work c.index-mark.result.now c.index-mark.ensures begin.result.1 (λ t. ap (λ b. b.1) (begin.ensures.fresh t)) (λ t. ap (λ b. b.1) (begin.ensures.used t)) begin.ensures.drawn

pub evaluate-requires-clause-before : goal.evaluate-requires-clause-before
evaluate-requires-clause-before g c k early =
    let begin = c.begin-from in
    ap (λ ts. triple_there ts k) c.deref_mut-then-takes_lane.ensures.value
    ∙ stands_before c.args.self.now c.args.work.now c.args.values.now c.args.first c.requires.work c.index-mark.result.now c.index-mark.ensures begin.result.1 (λ t. ap (λ b. b.1) (begin.ensures.fresh t)) (λ t. ap (λ b. b.1) (begin.ensures.used t)) begin.ensures.drawn c.requires.count k early

pub evaluate-requires-clause-room : goal.evaluate-requires-clause-room
evaluate-requires-clause-room g c =
    ap (λ ts. length ts) c.deref_mut-then-takes_lane.ensures.value ∙ one_triple_each c.args.self.now c.args.work.now c.args.values.now c.args.first c.requires.work

pub evaluate-requires-else-takes_lane-clause-within : goal.evaluate-requires-else-takes_lane-clause-within
evaluate-requires-else-takes_lane-clause-within g c =
    let begin = c.begin-from in
    start_within c.args.self.now c.args.work.now c.args.values.now c.args.first c.requires.work c.index-mark.result.now c.index-mark.ensures begin.result.1 (λ t. ap (λ b. b.1) (begin.ensures.fresh t)) (λ t. ap (λ b. b.1) (begin.ensures.used t)) begin.ensures.drawn

pub evaluate-requires-else-takes_lane-clause-before : goal.evaluate-requires-else-takes_lane-clause-before
evaluate-requires-else-takes_lane-clause-before g c k early =
    let begin = c.begin-from in
    ap (λ ts. triple_there ts k) c.deref_mut-else-takes_lane-2.ensures.value
    ∙ stands_before c.args.self.now c.args.work.now c.args.values.now c.args.first c.requires.work c.index-mark.result.now c.index-mark.ensures begin.result.1 (λ t. ap (λ b. b.1) (begin.ensures.fresh t)) (λ t. ap (λ b. b.1) (begin.ensures.used t)) begin.ensures.drawn c.requires.count k early

pub evaluate-requires-else-takes_lane-clause-room : goal.evaluate-requires-else-takes_lane-clause-room
evaluate-requires-else-takes_lane-clause-room g c =
    ap (λ ts. length ts) c.deref_mut-else-takes_lane-2.ensures.value ∙ one_triple_each c.args.self.now c.args.work.now c.args.values.now c.args.first c.requires.work

pub returns-then-takes_lane-clause-stands : goal.returns-then-takes_lane-clause-stands
returns-then-takes_lane-clause-stands g c =
    let p = c.args.self.now in
    let begin = c.begin-from in
    let grid = goes_on p c.args.work.now c.args.values.now c.args.first c.requires.work c.index-mark.result.now c.index-mark.ensures begin.result.0 (λ t. ap (λ b. b.0) (begin.ensures.fresh t)) (λ t. ap (λ b. b.0) (begin.ensures.used t)) (c.takes_lane.ensures.narrow c.if-takes_lane.true) (c.takes_lane.ensures.on_grid c.if-takes_lane.true) in
    record { count = c.requires.count; low = c.requires.low; triples_are = with_items_is c.args.work.now.triples c.evaluate.new.triples (new_room p c.args.work.now c.args.values.now c.args.first c.requires.work c.evaluate.new.triples c.evaluate.ensures.triples) ∙ c.evaluate.ensures.triples; marked = inr (with_items_is c.args.work.now.numbers c.put_mark.new.numbers (new_mark p c.args.work.now c.args.values.now c.args.first c.requires.work c.put_mark.new.numbers (pos 2) c.put_mark.ensures) ∙ c.put_mark.ensures, grid) }

pub returns-else-takes_lane-clause-stands : goal.returns-else-takes_lane-clause-stands
returns-else-takes_lane-clause-stands g c =
    let p = c.args.self.now in
    record { count = c.requires.count; low = c.requires.low; triples_are = with_items_is c.args.work.now.triples c.evaluate-else-takes_lane.new.triples (new_room p c.args.work.now c.args.values.now c.args.first c.requires.work c.evaluate-else-takes_lane.new.triples c.evaluate-else-takes_lane.ensures.triples) ∙ c.evaluate-else-takes_lane.ensures.triples; marked = inl (with_items_is c.args.work.now.numbers c.put_mark-else-takes_lane.new.numbers (new_mark p c.args.work.now c.args.values.now c.args.first c.requires.work c.put_mark-else-takes_lane.new.numbers (pos 1) c.put_mark-else-takes_lane.ensures) ∙ c.put_mark-else-takes_lane.ensures) }

pub returns-then-takes_lane-clause-ticks : goal.returns-then-takes_lane-clause-ticks
returns-then-takes_lane-clause-ticks g c used =
    let begin = c.begin-from in
    let counted = start_counted c.args.self.now c.args.work.now c.args.values.now c.args.first c.requires.work c.index-mark.result.now c.index-mark.ensures begin.result.1 (λ t. ap (λ b. b.1) (begin.ensures.fresh t)) (λ t. ap (λ b. b.1) (begin.ensures.used t)) begin.ensures.drawn used in
    omega (arith, counted, c.evaluate.ensures.ticks)

pub returns-else-takes_lane-clause-ticks : goal.returns-else-takes_lane-clause-ticks
returns-else-takes_lane-clause-ticks g c used =
    let begin = c.begin-from in
    let counted = start_counted c.args.self.now c.args.work.now c.args.values.now c.args.first c.requires.work c.index-mark.result.now c.index-mark.ensures begin.result.1 (λ t. ap (λ b. b.1) (begin.ensures.fresh t)) (λ t. ap (λ b. b.1) (begin.ensures.used t)) begin.ensures.drawn used in
    omega (arith, counted, c.evaluate-else-takes_lane.ensures.ticks)
