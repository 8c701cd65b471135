use Rattle.std.proofs.Common.{◌∙◌, ◌+◌, sym, subst, ap, false, set, length-set, arith}
use Rattle.geo_triple.specs.declared.Triple.{Triple}
use Rattle.geo_sketch.specs.Needs.{needs}
use Rattle.geo_check.specs.Instances.{assigned}
use Rattle.geo_check.specs.Positions.{AreKnown}
use Rattle.geo_check.proofs.EvaluationLaws.{flag_at, known_less, known_more, named_low, no_element, number_low, sums_low}
use Rattle.geo_check.proofs.evaluating.evaluate.Goals.{then-claim-i, else-claim-i}
use Rattle.geo_check.proofs.evaluating.evaluate.Goals as goal

pub triple_of-requires-clause-number : goal.triple_of-requires-clause-number
triple_of-requires-clause-number c =
    let drawing = c.args.claim.now.sketch.now in
    let all = c.elements-elements.ensures.elements in
    number_low drawing c.loop-i.i c.index-elements-i.result c.requires.ready.drawn (rw all at c.loop-i-test.true) (rw all at c.index-elements-i.is)

pub triple_of-requires-clause-named : goal.triple_of-requires-clause-named
triple_of-requires-clause-named c =
    let drawing = c.args.claim.now.sketch.now in
    let all = c.elements-elements.ensures.elements in
    named_low drawing c.loop-i.i c.index-elements-i.result c.requires.ready.drawn (rw all at c.loop-i-test.true) (rw all at c.index-elements-i.is)

pub triple_of-requires-clause-low : goal.triple_of-requires-clause-low
triple_of-requires-clause-low c =
    let drawing = c.args.claim.now.sketch.now in
    let s = c.args.claim.now.statement.now in
    let all = c.elements-elements.ensures.elements in
    let x = c.index-elements-i.result in
    let is = rw all at c.index-elements-i.is in
    let within = rw all at c.loop-i-test.true in
    let need = sym (flag_at drawing.elements s c.args.claim.now.needed.now c.loop-i.i x false c.requires.ready.flags within) ∙ c.if-claim-i.true in
    sums_low drawing c.requires.ready.drawn s c.requires.ready.live (assigned c.args.values.now) c.loop-i.triples c.loop-i.i x within is (ap (λ e. needs drawing.elements s e.number) is ∙ need) c.loop-i.invariant.known c.requires.low

pub bounds-triples-element : goal.bounds-triples-element
bounds-triples-element c =
    let drawing = c.args.claim.now.sketch.now in
    let all = c.elements-elements.ensures.elements in
    let low = number_low drawing c.loop-i.i c.index-elements-i.result c.requires.ready.drawn (rw all at c.loop-i-test.true) (rw all at c.index-elements-i.is) in
    omega (arith, low, c.loop-i.invariant.room)

pub loop-i-preserved : goal.loop-i-preserved
loop-i-preserved c =
    let drawing = c.args.claim.now.sketch.now in
    let es = drawing.elements in
    let s = c.args.claim.now.statement.now in
    let v = assigned c.args.values.now in
    let i = c.loop-i.i in
    let all = c.elements-elements.ensures.elements in
    let within = rw all at c.loop-i-test.true in
    let room = c.loop-i.invariant.room in
    elim c.if-claim-i.branch [
      | then-claim-i w ↦ (
          let x = w.index-elements-i.result in
          let is = rw all at w.index-elements-i.is in
          let need = ap (λ e. needs es s e.number) is ∙ sym (flag_at es s c.args.claim.now.needed.now i x false c.requires.ready.flags within) ∙ w.if-claim-i.true in
          let low = number_low drawing i x c.requires.ready.drawn within is in
          let made = w.triple_of.ensures in
          rw w.triples-is (record {
            room = length-set c.loop-i.triples x.number w.triple_of.result ∙ room;
            known = subst (λ (t : Triple). AreKnown es s v (set c.loop-i.triples x.number t) (i + 1)) (sym made) (known_more drawing c.requires.ready.drawn s c.requires.ready.live v c.loop-i.triples i x within is need (omega (arith, low, room)) c.loop-i.invariant.known);
          }))
      | else-claim-i w ↦ (
          let skip = sym (flag_at es s c.args.claim.now.needed.now i no_element false c.requires.ready.flags within) ∙ w.if-claim-i.false in
          rw w.triples-is (record {
            room = room;
            known = known_less drawing c.requires.ready.drawn s c.requires.ready.live v c.loop-i.triples i no_element within skip c.loop-i.invariant.known;
          }))
    ]
