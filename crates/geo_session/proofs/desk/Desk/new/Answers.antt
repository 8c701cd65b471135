use Rattle.std.proofs.Common.{rules, ◌∙◌, refl}
use Rattle.geo_session.proofs.SightLaws.{begun}
use Rattle.geo_session.proofs.desk.Desk.new.Goals as goal

pub returns-clause-at : goal.returns-clause-at
returns-clause-at g c = λ kinds shown. record {
  sketch = search rules;
  done = search rules;
  undone = search rules;
  views = shown ∙ begun kinds;
  count = refl;
}
