use Rattle.std.proofs.Common.{◌≡◌, ◌∙◌, sym, ◌<◌, None, Some, length, get_or, true, false, arith}
use Rattle.std.specs.Prelude.{slice_get}
use Rattle.std.proofs.lemmas.Option.{get_or_from_slice_get, slice_get-get_or}
use Rattle.geo_infer.specs.Derivations.{is_known}
use Rattle.geo_sketch.specs.declared.statements.Statement.TheVariants as statement
use Rattle.geo_session.proofs.StepLaws.{known_next, not_known, posed_here}
use Rattle.geo_session.proofs.steps.are_known.Goals as goal

pub is_known-requires-clause-posed : goal.is_known-requires-clause-posed
is_known-requires-clause-posed g c κs under =
    let within : c.loop-k.k < length c.args.premises.now = omega (arith, c.len-k-end.ensures, c.loop-k-test.true) in
    let found : slice_get c.args.premises.now c.loop-k.k ≡ Some c.in-Some.premise = sym c.get.ensures ∙ c.in-Some.is in
    posed_here c.args.sketch.now.elements c.args.premises.now c.loop-k.k c.in-Some.premise within (get_or_from_slice_get c.args.premises.now c.loop-k.k c.in-Some.premise c.in-Some.premise found) c.requires.posed

pub returns-then-not-branch-clause-known : goal.returns-then-not-branch-clause-known
returns-then-not-branch-clause-known g c =
    let within : c.loop-k.k < length c.args.premises.now = omega (arith, c.len-k-end.ensures, c.loop-k-test.true) in
    let found : slice_get c.args.premises.now c.loop-k.k ≡ Some c.in-Some.premise = sym c.get.ensures ∙ c.in-Some.is in
    let other : is_known c.args.sketch.now.elements c.in-Some.premise ≡ false = sym c.in_ok-is_known-in-Some.ensures.known ∙ c.if-not-branch.true in
    not_known c.args.sketch.now.elements c.args.premises.now c.loop-k.k c.in-Some.premise within (get_or_from_slice_get c.args.premises.now c.loop-k.k c.in-Some.premise c.in-Some.premise found) other c.loop-k.invariant.1

pub unreachable-requires : goal.unreachable-requires
unreachable-requires g c =
    let within : c.loop-k.k < length c.args.premises.now = omega (arith, c.len-k-end.ensures, c.loop-k-test.true) in
    let there : slice_get c.args.premises.now c.loop-k.k ≡ Some (get_or c.args.premises.now c.loop-k.k (statement.Null 0)) = slice_get-get_or c.args.premises.now c.loop-k.k (statement.Null 0) within in
    let none : slice_get c.args.premises.now c.loop-k.k ≡ None = sym c.get.ensures ∙ c.in-None.is in
    cc

pub loop-k-preserved : goal.loop-k-preserved
loop-k-preserved g c =
    let within : c.loop-k.k < length c.args.premises.now = omega (arith, c.len-k-end.ensures, c.loop-k-test.true) in
    let found : slice_get c.args.premises.now c.loop-k.k ≡ Some c.in-Some.premise = sym c.get.ensures ∙ c.in-Some.is in
    let known : is_known c.args.sketch.now.elements c.in-Some.premise ≡ true = sym c.in_ok-is_known-in-Some.ensures.known ∙ c.if-not-branch.false in
    (c.in_ok-is_known-in-Some.ensures.kept, known_next c.args.sketch.now.elements c.args.premises.now c.loop-k.k c.in-Some.premise within (get_or_from_slice_get c.args.premises.now c.loop-k.k c.in-Some.premise c.in-Some.premise found) known c.loop-k.invariant.1)
