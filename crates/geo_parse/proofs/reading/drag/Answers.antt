use Rattle.std.proofs.Common.{refl}
use Rattle.geo_parse.proofs.FillLemmas.{passed_nxx}
use Rattle.geo_parse.proofs.reading.drag.Goals as goal

pub returns-in_ok-name-2-clause-ok : goal.returns-in_ok-name-2-clause-ok
returns-in_ok-name-2-clause-ok c = (refl, passed_nxx _ _ _ _ c.in_ok-name-2.ensures.range c.in_ok-name-2.ensures.ok)
