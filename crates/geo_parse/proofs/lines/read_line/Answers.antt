use Rattle.std.proofs.Common.{Ok, Err, Some, None, subst}
use Rattle.geo_parse.specs.Words.{words}
use Rattle.geo_parse.specs.Grammar.{parts, IsSpelling}
use Rattle.geo_parse.specs.Readers.{Reads}
use Rattle.geo_parse.proofs.NumberLemmas.{fill_stands}
use Rattle.geo_parse.proofs.LineLemmas.{exact, reads_is}
use Rattle.geo_parse.proofs.lines.read_line.Goals as goal

pub returns-clause-command : goal.returns-clause-command
returns-clause-command c = λ d. exact c.args.line.now c.reading.result (Ok (Some d)) c.reading.ensures

pub returns-clause-quiet : goal.returns-clause-quiet
returns-clause-quiet c = exact c.args.line.now c.reading.result (Ok None) c.reading.ensures

pub returns-clause-refused : goal.returns-clause-refused
returns-clause-refused c = λ r. exact c.args.line.now c.reading.result (Err r) c.reading.ensures

pub returns-clause-writable : goal.returns-clause-writable
returns-clause-writable c = λ d e.
    let s : IsSpelling c.args.line.now d = subst (Reads c.args.line.now) e c.reading.ensures in
    fill_stands (parts d) (words c.args.line.now) s.filled

pub returns-clause-function : goal.returns-clause-function
returns-clause-function c = reads_is c.args.line.now c.reading.result c.reading.ensures
