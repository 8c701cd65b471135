use Rattle.std.proofs.Common.{FitsSigned, w64, rules}
use Rattle.std.proofs.lemmas.Int.{to_z-of_z}
use Rattle.std.proofs.lemmas.Slice.Zip.{Zip-more, either_empty_from_Zip}
use Rattle.geo_settle.proofs.AxisValues.{named_end, named_step}
use Rattle.geo_settle.proofs.values.name_values.Goals as goal

pub loop-axis-preserved : goal.loop-axis-preserved
loop-axis-preserved c =
    let rest = Zip-more c.loop-axis.axis-iterator c.next.new.self c.next.result (c.in-Some.axis, c.in-Some.value) c.in-Some.is c.next.ensures.steps in
    let fits : FitsSigned w64 c.in-Some.value.now = search rules in
    rw (c.in_ok-push.ensures.after, to_z-of_z w64 c.in-Some.value.now fits) (named_step c.loop-axis.list _ c.in-Some.axis.now c.in-Some.value.now _ _ _ _ rest.0 rest.1 c.loop-axis.invariant)

pub returns : goal.returns
returns c =
    named_end c.loop-axis.list _ _ _ (either_empty_from_Zip c.loop-axis.axis-iterator c.next.new.self c.next.result c.in-None.is c.next.ensures.steps) c.loop-axis.invariant
