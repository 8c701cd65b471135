use Rattle.std.proofs.Common.{◌≡◌, ℕ, ◌+◌, ◌-◌, length}
use Rattle.geo_guess.specs.Samples.{sample_in}
use Rattle.geo_guess.proofs.samples.keep.Given as goal

abbrev pub invariant-loop-samples : goal.invariant-loop-samples
invariant-loop-samples l = (n position : ℕ) → sample_in l.samples.items n position ≡ sample_in l.fn.samples.items n position

abbrev pub decreases-loop-samples : goal.decreases-loop-samples
decreases-loop-samples l = l.place + 1 - length l.samples.items
