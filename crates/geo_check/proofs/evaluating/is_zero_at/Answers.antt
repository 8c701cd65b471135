use Rattle.std.proofs.Common.{◌∙◌, ap, length}
use Rattle.geo_triple.specs.Zero.{are_zero}
use Rattle.geo_check.specs.Instances.{assigned}
use Rattle.geo_check.proofs.EvaluationLaws.{parts_known, stated_low, sum_low}
use Rattle.geo_check.proofs.evaluating.is_zero_at.Goals as goal

pub are_parts_zero-requires-clause-room : goal.are_parts_zero-requires-clause-room
are_parts_zero-requires-clause-room c =
    let claim = c.args.claim.now in
    stated_low claim.sketch.now c.requires.ready.drawn claim.statement.now c.requires.ready.live (length c.evaluate.new.triples) (c.evaluate.auto.triples ∙ c.requires.triples_room)

pub are_parts_zero-requires-clause-low : goal.are_parts_zero-requires-clause-low
are_parts_zero-requires-clause-low c =
    let claim = c.args.claim.now in
    sum_low claim.sketch.now c.requires.ready.drawn claim.statement.now c.requires.ready.live (assigned c.args.values.now) c.evaluate.new.triples c.evaluate.ensures c.requires.low

pub returns : goal.returns
returns c =
    let claim = c.args.claim.now in
    c.are_parts_zero.ensures ∙ ap are_zero (parts_known claim.sketch.now c.requires.ready.drawn claim.statement.now c.requires.ready.live (assigned c.args.values.now) c.evaluate.new.triples c.evaluate.ensures)
