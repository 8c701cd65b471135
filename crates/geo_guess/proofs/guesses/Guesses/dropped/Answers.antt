use Rattle.std.proofs.Common.{◌∙◌, ap, not}
use Rattle.std.specs.Prelude.{filter}
use Rattle.geo_sketch.specs.Drops.{speaks_of}
use Rattle.geo_guess.proofs.ConjectureLaws.{others_listed}
use Rattle.geo_guess.proofs.SampleLaws.{samples_leave}
use Rattle.geo_guess.proofs.guesses.Guesses.dropped.Goals as goal

pub returns-clause-after : goal.returns-clause-after
returns-clause-after c drawing rest w h =
    let before = rw (← c.self.view_is) at h in
    record {
      list = c.forget.ensures ∙ ap (filter (λ s. not (speaks_of s c.args.n))) before.list ∙ others_listed drawing rest c.args.n w;
      samples = samples_leave drawing rest c.args.n w _ _ c.let_go.ensures.others before.samples c.let_go.ensures.here;
    }
