use Rattle.geo_sketch.specs.Lookups.{IsLive}
use Rattle.geo_bracket.proofs.FactorLaws.{each_at}
use Rattle.geo_bracket.proofs.degrees.degree.Goals as goal

pub degree_of_term-requires-clause-live : goal.degree_of_term-requires-clause-live
degree_of_term-requires-clause-live c = rw c.brackets.ensures (each_at (IsLive c.args.degrees.now) c.args.terms.now c.loop-term.term-index c.term-item.result c.loop-term-test.true c.term-item.is c.requires.live)
