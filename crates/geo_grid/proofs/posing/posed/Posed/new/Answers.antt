use Rattle.std.proofs.Common.{◌≡◌, ◌∙◌, ap, length, map, refl, sym, arith}
use Rattle.std.specs.Prelude.{All}
use Rattle.geo_sketch.specs.Lookups.{IsLive}
use Rattle.geo_sketch.specs.Sketches.{Drawing, IsDrawn}
use Rattle.geo_degree.specs.Grids.{axis_magnitude}
use Rattle.geo_degree.proofs.FormLaws.{posed_live}
use Rattle.geo_triple.specs.declared.limits.TheConstants.{SHORT_LIMIT}
use Rattle.geo_grid.specs.Plans.{Planned, moved_count, planned_for}
use Rattle.geo_grid.proofs.ConditionLaws.{planned_is, statement_asks, statement_low}
use Rattle.geo_grid.proofs.NamedLaws.{to_list}
use Rattle.geo_grid.proofs.PairLaws.{few_axes}
use Rattle.geo_grid.proofs.posing.posed.Posed.new.Goals.{then-is_short, else-is_short}
use Rattle.geo_grid.proofs.posing.posed.Posed.new.Goals as goal

pub is_short_statement-is_short-requires-clause-live : goal.is_short_statement-is_short-requires-clause-live
is_short_statement-is_short-requires-clause-live c = posed_live c.args.sketch.now.elements c.args.statement c.requires

pub is_short_statement-is_short-requires-clause-few : goal.is_short_statement-is_short-requires-clause-few
is_short_statement-is_short-requires-clause-few c =
    omega (arith, few_axes c.args.sketch.now c.args.statement c.in_ok-found.ensures.drawn, ap (λ axes. length axes) (c.deref.ensures.value ∙ c.in_ok-found.ensures.axes))

pub are_short_elements-are_short-requires-clause-live : goal.are_short_elements-are_short-requires-clause-live
are_short_elements-are_short-requires-clause-live c =
    let es = c.args.sketch.now.elements in
    rw (c.deref-else-is_short.ensures.value, c.in_ok-named.ensures) (to_list (IsLive es) c.args.statement (posed_live es c.args.statement c.requires))

pub are_short_elements-are_short-requires-clause-few : goal.are_short_elements-are_short-requires-clause-few
are_short_elements-are_short-requires-clause-few c =
    omega (arith, few_axes c.args.sketch.now c.args.statement c.in_ok-found.ensures.drawn, ap (λ axes. length axes) (c.deref-else-is_short-2.ensures.value ∙ c.in_ok-found.ensures.axes))

pub with_lane-requires-clause-live : goal.with_lane-requires-clause-live
with_lane-requires-clause-live c =
    let es = c.args.sketch.now.elements in
    rw c.in_ok-named.ensures (to_list (IsLive es) c.args.statement (posed_live es c.args.statement c.requires))

pub with_lane-requires-clause-short : goal.with_lane-requires-clause-short
with_lane-requires-clause-short c t =
    let s = c.args.statement in
    let sketch = c.args.sketch.now in
    let p : Planned = record { drawing = sketch; named = c.in_ok-named.named.items; axes = c.in_ok-found.found.axes.items } in
    let live : All (IsLive sketch.elements) c.in_ok-named.named.items = rw c.in_ok-named.ensures (to_list (IsLive sketch.elements) s (posed_live sketch.elements s c.requires)) in
    let planned : p ≡ planned_for sketch s = planned_is sketch s p c.in_ok-named.named.items c.in_ok-found.found.axes.items refl c.in_ok-named.ensures c.in_ok-found.ensures.axes in
    elim c.if-is_short.branch [
      | then-is_short w ↦ statement_low p s c.in_ok-found.ensures.drawn live planned SHORT_LIMIT (map axis_magnitude c.in_ok-found.found.axes.items) (rw c.deref.ensures.value at (c.is_short_statement-is_short.ensures.0 w.if-is_short.true))
      | else-is_short w ↦ rw (w.deref-else-is_short.ensures.value, w.deref-else-is_short-2.ensures.value) at (w.are_short_elements-are_short.ensures.0 (sym w.are_short-is ∙ t))
    ]

pub invariant_of-result : goal.invariant_of-result
invariant_of-result c =
    let s = c.args.statement in
    let p = c.in_ok-plan.plan in
    let plan : c.in_ok-plan.plan ≡ planned_for c.args.sketch.now c.args.statement = planned_is c.args.sketch.now s p c.in_ok-named.named.items c.in_ok-found.found.axes.items c.in_ok-plan.ensures c.in_ok-named.ensures c.in_ok-found.ensures.axes in
    let sketch : c.in_ok-plan.plan.drawing ≡ c.args.sketch.now = ap (λ (q : Planned). q.drawing) plan in
    let planned : c.in_ok-plan.plan ≡ planned_for c.in_ok-plan.plan.drawing c.args.statement = plan ∙ ap (λ (d : Drawing). planned_for d s) (sym sketch) in
    let live : All (IsLive c.in_ok-plan.plan.drawing.elements) c.in_ok-plan.plan.named = rw plan (to_list (IsLive c.args.sketch.now.elements) s (posed_live c.args.sketch.now.elements s c.requires)) in
    let drawn : IsDrawn c.in_ok-plan.plan.drawing = rw sketch c.in_ok-found.ensures.drawn in
    record {
      form = rw sketch (c.statements_are_forms.ensures c.args.sketch.now s c.in_ok-found.ensures.drawn c.requires);
      planned = planned;
      covered = rw sketch c.in_ok-found.ensures.blocks;
      short = λ t. rw (ap (λ (q : Planned). q.axes) c.in_ok-plan.ensures, sketch) (rw c.deref.ensures.value at (c.is_short_statement-is_short.ensures.0 t));
      low = statement_low p s drawn live planned;
      asks = statement_asks p s drawn live planned c.condition_of-condition.result c.condition_of-condition.ensures;
    }

pub returns-clause-counts : goal.returns-clause-counts
returns-clause-counts c first =
    ap (λ (p : Planned). moved_count p first) (planned_is c.args.sketch.now c.args.statement c.in_ok-plan.plan c.in_ok-named.named.items c.in_ok-found.found.axes.items c.in_ok-plan.ensures c.in_ok-named.ensures c.in_ok-found.ensures.axes)
