use Rattle.std.proofs.Common.{IfOk, sym, arith}
use Rattle.geo_parse.specs.Grammar.{FillAll, statement_parts}
use Rattle.geo_parse.proofs.CommandWordLemmas.{begun, statement-begins}
use Rattle.geo_parse.proofs.statements.read_statement.Goals as goal

pub returns-in-Some-clause-ok : goal.returns-in-Some-clause-ok
returns-in-Some-clause-ok c =
    begun (λ ts. IfOk c.said_of.result (λ s. FillAll (statement_parts s) ts)) c.args.words.now _ _ (omega arith)
    (statement-begins _ _ (sym c.in-Some.ensures)) c.said_of.ensures.ok
