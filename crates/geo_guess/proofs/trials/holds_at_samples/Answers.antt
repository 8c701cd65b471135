use Rattle.std.proofs.Common.{◌≡◌, ◌∙◌, ap, arith}
use Rattle.geo_guess.specs.Conjectures.{holds_at_samples, holds_below}
use Rattle.geo_guess.proofs.trials.holds_at_samples.Goals as goal

pub returns : goal.returns
unfolding holds_at_samples
returns c es are =
    let all : c.loop-position.position ≡ 8 = omega (arith, c.loop-position-test.false, c.loop-position.auto.position-end) in
    c.loop-position.invariant es are ∙ ap (holds_below es c.args.s.now) all
