use Rattle.std.proofs.Common.{rules, ◌≡◌, ◌||◌, ◌<◌, None, Some, length, arith}
use Rattle.std.specs.Prelude.{slice_get}
use Rattle.geo_session.specs.Answers.{is_refused}
use Rattle.geo_session.specs.Standing.{StandsFor}
use Rattle.geo_script.proofs.PlaceLaws.{found_within, none_carried, one_carried, one_longer}
use Rattle.geo_script.proofs.script.carry_out_all.Goals as goal

pub loop-k-init : goal.loop-k-init
loop-k-init g c = λ state stands. none_carried state c.args.out.now.items (StandsFor g.W.Views.shows c.args.session.now) stands

pub unreachable-requires : goal.unreachable-requires
unreachable-requires g c =
    let none : slice_get c.args.lines.now c.loop-k.k ≡ None = search rules in
    let within : c.loop-k.k < length c.args.lines.now = omega (arith, c.loop-k-test.true, c.len-k-end.ensures) in
    found_within c.args.lines.now c.loop-k.k within none

pub loop-k-preserved : goal.loop-k-preserved
loop-k-preserved g c = λ state stands.
    let found : slice_get c.args.lines.now c.loop-k.k ≡ Some c.in-Some.line.now = search rules in
    let refused : c.or_refused-refused.result ≡ (c.loop-k.refused || is_refused c.in_ok-reply-in-Some.reply) = search rules in
    let before = c.loop-k.invariant state stands in
    rw (one_longer c.args.lines.now c.loop-k.k c.in-Some.line.now found, refused)
    (one_carried state _ c.in-Some.line.now c.loop-k.refused c.in_ok-reply-in-Some.reply _ _ _ _ _ before (c.in_ok-reply-in-Some.ensures.answer _ before.stands))
