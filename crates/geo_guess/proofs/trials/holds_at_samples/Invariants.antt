use Rattle.std.proofs.Common.{◌≡◌, List}
use Rattle.geo_sketch.specs.declared.elements.Element.{Element}
use Rattle.geo_guess.specs.Conjectures.{holds_below}
use Rattle.geo_guess.specs.Samples.{AreSamples}
use Rattle.geo_guess.proofs.trials.holds_at_samples.Given as goal

abbrev pub invariant-loop-position : goal.invariant-loop-position
invariant-loop-position l = (es : List Element) → AreSamples es l.samples → l.holds ≡ holds_below es l.s l.position
