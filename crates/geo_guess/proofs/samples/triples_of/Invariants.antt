use Rattle.std.proofs.Common.{◌≡◌, length}
use Rattle.geo_sketch.specs.declared.limits.TheConstants.{SAMPLE_COUNT}
use Rattle.geo_guess.specs.Samples.{AreMade}
use Rattle.geo_guess.proofs.samples.triples_of.Given as goal

abbrev pub invariant-loop-position : goal.invariant-loop-position
invariant-loop-position l = record {
  made : AreMade l.samples l.element l.triples l.position;
  long : length l.triples ≡ SAMPLE_COUNT;
}
