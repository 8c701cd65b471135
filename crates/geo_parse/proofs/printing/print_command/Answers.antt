use Rattle.std.proofs.Common.{Ok, Some, sym}
use Rattle.geo_parse.specs.Printing.{canonical}
use Rattle.geo_parse.proofs.JoinLemmas.{canonical_spells}
use Rattle.geo_parse.proofs.LineLemmas.{reads_is, spells_once}
use Rattle.geo_parse.proofs.printing.print_command.Goals as goal

pub returns-in-Ok-clause-spelt : goal.returns-in-Ok-clause-spelt
returns-in-Ok-clause-spelt c = canonical_spells c.args.command.now c.requires c.in-Ok.ensures.named

pub returns-in-Ok-clause-only : goal.returns-in-Ok-clause-only
returns-in-Ok-clause-only c = λ other s.
    spells_once (canonical c.args.command.now) other c.args.command.now s (canonical_spells c.args.command.now c.requires c.in-Ok.ensures.named)

pub returns-in-Ok-clause-read : goal.returns-in-Ok-clause-read
returns-in-Ok-clause-read c =
    sym (reads_is (canonical c.args.command.now) (Ok (Some c.args.command.now)) (canonical_spells c.args.command.now c.requires c.in-Ok.ensures.named))
