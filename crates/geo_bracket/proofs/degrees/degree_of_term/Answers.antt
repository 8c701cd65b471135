use Rattle.geo_bracket.proofs.FactorLaws.{no_bracket}
use Rattle.geo_bracket.proofs.degrees.degree_of_term.Goals as goal

pub of_statement-sum-requires : goal.of_statement-sum-requires
of_statement-sum-requires c = rw c.statement_of.ensures (c.requires.live c.loop-bracket.bracket-index no_bracket c.loop-bracket-test.true)
