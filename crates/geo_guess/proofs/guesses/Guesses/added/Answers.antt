use Rattle.std.proofs.Common.{◌∙◌}
use Rattle.geo_guess.proofs.SampleLaws.{low_there, samples_back, samples_come}
use Rattle.geo_guess.proofs.guesses.Guesses.added.Goals as goal

pub list_with-requires-clause-samples : goal.list_with-requires-clause-samples
list_with-requires-clause-samples g c κs under =
    let before = rw (← c.self.view_is) at c.requires.2 in
    rw c.deref-3.ensures.value
    (samples_come c.args.sketch.now c.requires.0 c.args.n c.requires.1 _ _ c.in_ok-keep.ensures.others before.samples (λ position within. c.in_ok-keep.ensures.here position within ∙ c.triples_in-triples.ensures position within))

pub list_with-requires-clause-low : goal.list_with-requires-clause-low
list_with-requires-clause-low g c κs under =
    let before = rw (← c.self.view_is) at c.requires.2 in
    rw c.deref-3.ensures.value
    (low_there c.args.sketch.now c.keep.new.samples.items c.requires.1.drawn
    (samples_come c.args.sketch.now c.requires.0 c.args.n c.requires.1 _ _ c.in_ok-keep.ensures.others before.samples (λ position within. c.in_ok-keep.ensures.here position within ∙ c.triples_in-triples.ensures position within)))

pub returns-in-Ok-clause-after : goal.returns-in-Ok-clause-after
returns-in-Ok-clause-after g c =
    let before = rw (← c.self.view_is) at c.requires.2 in
    record {
      list = c.in-Ok.ensures;
      samples = samples_come c.args.sketch.now c.requires.0 c.args.n c.requires.1 _ _ c.in_ok-keep.ensures.others before.samples (λ position within. c.in_ok-keep.ensures.here position within ∙ c.triples_in-triples.ensures position within);
    }

pub returns-in-Err-clause-unchanged : goal.returns-in-Err-clause-unchanged
returns-in-Err-clause-unchanged g c rest w h =
    let before = rw (← c.self.view_is) at h in
    record {
      list = before.list;
      samples = samples_back c.args.sketch.now rest c.args.n w _ _
          (λ m position within ne. c.let_go.ensures.others m position within ne ∙ c.in_ok-keep.ensures.others m position within ne)
          before.samples c.let_go.ensures.here;
    }
