use Rattle.std.proofs.Common.{◌≡◌, ◌∙◌, ap, length, refl, sym, arith}
use Rattle.std.specs.Prelude.{All, Contains}
use Rattle.geo_sketch.specs.Lookups.{IsLive}
use Rattle.geo_sketch.specs.Sketches.{Drawing, IsDrawn}
use Rattle.geo_grid.specs.Plans.{Planned, moved_count}
use Rattle.geo_bracket.specs.Posing.{named_in, planned_expression}
use Rattle.geo_bracket.specs.Terms.{AtEach}
use Rattle.geo_bracket.proofs.AskLaws.{expression_asks, expression_low}
use Rattle.geo_bracket.proofs.FoundAxes.{few_axes, planned_is}
use Rattle.geo_bracket.proofs.NamedLaws.{all_contained, to_named}
use Rattle.geo_bracket.proofs.posed.posing.PosedZero.new.Goals as goal

pub find_axes-requires-clause-live : goal.find_axes-requires-clause-live
find_axes-requires-clause-live c = rw c.terms-terms.ensures.terms c.requires.live

pub is_short-is_short-requires-clause-live : goal.is_short-is_short-requires-clause-live
is_short-is_short-requires-clause-live c = rw c.terms-terms.ensures.terms c.requires.live

pub is_short-is_short-requires-clause-few : goal.is_short-is_short-requires-clause-few
is_short-is_short-requires-clause-few c =
    omega (arith, few_axes c.args.sketch.now c.args.expression.now c.in_ok-found.ensures.drawn, ap (λ axes. length axes) (c.deref.ensures.value ∙ rw c.terms-terms.ensures.terms at c.in_ok-found.ensures.axes))

pub of-requires-clause-live : goal.of-requires-clause-live
of-requires-clause-live c =
    let es = c.args.sketch.now.elements in
    rw (c.in_ok-named.ensures, c.terms-terms.ensures.terms) (to_named (IsLive es) c.args.expression.now c.requires.live)

pub of-requires-clause-few : goal.of-requires-clause-few
of-requires-clause-few c =
    omega (arith, few_axes c.args.sketch.now c.args.expression.now c.in_ok-found.ensures.drawn, ap (λ axes. length axes) (rw c.terms-terms.ensures.terms at c.in_ok-found.ensures.axes))

pub invariant_of-result : goal.invariant_of-result
invariant_of-result c =
    let ts = c.args.expression.now in
    let p = c.in_ok-plan.plan in
    let named : c.in_ok-named.named.items ≡ named_in c.args.expression.now = rw c.terms-terms.ensures.terms at c.in_ok-named.ensures in
    let axes = rw c.terms-terms.ensures.terms at c.in_ok-found.ensures.axes in
    let plan : c.in_ok-plan.plan ≡ planned_expression c.args.sketch.now c.args.expression.now = planned_is c.args.sketch.now ts p c.in_ok-named.named.items c.in_ok-found.found.axes.items c.in_ok-plan.ensures named axes in
    let sketch : c.in_ok-plan.plan.drawing ≡ c.args.sketch.now = ap (λ (q : Planned). q.drawing) plan in
    let planned : c.in_ok-plan.plan ≡ planned_expression c.in_ok-plan.plan.drawing c.args.expression.now = plan ∙ ap (λ (d : Drawing). planned_expression d ts) (sym sketch) in
    let live : AtEach (IsLive c.in_ok-plan.plan.drawing.elements) c.args.expression.now = rw sketch c.requires.live in
    let drawn : IsDrawn c.in_ok-plan.plan.drawing = rw sketch c.in_ok-found.ensures.drawn in
    record {
      form = rw sketch (c.expressions_are_forms.ensures c.args.sketch.now ts c.in_ok-found.ensures.drawn c.requires);
      planned = planned;
      covered = rw sketch (rw c.terms-terms.ensures.terms at c.in_ok-found.ensures.blocks);
      short = λ t. rw (ap (λ (q : Planned). q.axes) c.in_ok-plan.ensures, sketch) (rw (c.deref.ensures.value, c.terms-terms.ensures.terms) at (c.is_short-is_short.ensures t));
      low = expression_low p ts drawn live planned;
      asks = expression_asks p ts drawn live planned c.in_ok-placed.placed.items (rw c.terms-terms.ensures.terms at c.in_ok-placed.ensures);
    }

pub returns-clause-counts : goal.returns-clause-counts
returns-clause-counts c first =
    let named = rw c.terms-terms.ensures.terms at c.in_ok-named.ensures in
    let axes = rw c.terms-terms.ensures.terms at c.in_ok-found.ensures.axes in
    ap (λ (p : Planned). moved_count p first) (planned_is c.args.sketch.now c.args.expression.now c.in_ok-plan.plan c.in_ok-named.named.items c.in_ok-found.found.axes.items c.in_ok-plan.ensures named axes)

pub place_terms-requires : goal.place_terms-requires
place_terms-requires c =
    let named = rw c.terms-terms.ensures.terms at c.in_ok-named.ensures in
    let plan = ap (λ (p : Planned). p.named) c.in_ok-plan.ensures ∙ named in
    rw (plan, c.terms-terms.ensures.terms) (all_contained c.args.expression.now)
