use Rattle.std.proofs.Common.{sym, ◌∙◌}
use Rattle.geo_parse.proofs.LineLemmas.{six_quiet, six_spelling, six_refusal}
use Rattle.geo_parse.proofs.lines.read_plain.Goals as goal

pub returns-then-is_silent : goal.returns-then-is_silent
returns-then-is_silent c =
    six_quiet c.args.line.now _ _ c.requires c.gather-count.auto.found c.gather-count.ensures.texts (sym c.is_silent.ensures ∙ c.if-is_silent.true)

pub returns-in-Ok : goal.returns-in-Ok
returns-in-Ok c = six_spelling c.args.line.now _ _ _ c.requires c.gather-count.auto.found c.gather-count.ensures.texts c.in-Ok.ensures.ok

pub returns-in-Err : goal.returns-in-Err
returns-in-Err c =
    six_refusal c.args.line.now _ _ _ c.requires c.gather-count.auto.found c.gather-count.ensures.texts (sym c.is_silent.ensures ∙ c.if-is_silent.false) c.in-Err.ensures.err
