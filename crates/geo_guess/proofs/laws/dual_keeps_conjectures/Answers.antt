use Rattle.std.proofs.Common.{◌∙◌, sym}
use Rattle.geo_guess.proofs.ListedLaws.{dual_listed}
use Rattle.geo_guess.proofs.SampleLaws.{samples_exchanged}
use Rattle.geo_guess.proofs.laws.dual_keeps_conjectures.Goals as goal

pub returns-clause-conjectures : goal.returns-clause-conjectures
returns-clause-conjectures c = dual_listed

pub returns-clause-kept : goal.returns-clause-kept
returns-clause-kept c drawing noticed h = record {
  list = h.list ∙ sym (dual_listed drawing.elements);
  samples = samples_exchanged drawing.elements noticed.samples h.samples;
}
