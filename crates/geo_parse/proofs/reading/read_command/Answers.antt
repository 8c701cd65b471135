use Rattle.std.proofs.Common.{IfOk, sym, arith}
use Rattle.geo_parse.specs.Grammar.{FillAll, parts}
use Rattle.geo_parse.proofs.CommandWordLemmas.{begun, command-begins}
use Rattle.geo_parse.proofs.reading.read_command.Goals as goal

pub returns-in-Some-clause-ok : goal.returns-in-Some-clause-ok
returns-in-Some-clause-ok c =
    begun (λ ts. IfOk c.read_operands.result (λ command. FillAll (parts command) ts)) c.args.words.now _ _ (omega arith)
    (command-begins _ _ (sym c.in-Some.ensures)) c.read_operands.ensures.ok
