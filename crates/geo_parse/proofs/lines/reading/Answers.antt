use Rattle.std.proofs.Common.{sym, ◌∙◌}
use Rattle.geo_parse.proofs.LineLemmas.{refused_long, refused_ascii}
use Rattle.geo_parse.proofs.lines.reading.Goals as goal

pub returns-then-line-gt-LINE_LIMIT : goal.returns-then-line-gt-LINE_LIMIT
returns-then-line-gt-LINE_LIMIT c = refused_long c.args.line.now c.if-line-gt-LINE_LIMIT.true

pub returns-then-not-are_plain : goal.returns-then-not-are_plain
returns-then-not-are_plain c = refused_ascii c.args.line.now c.if-line-gt-LINE_LIMIT.false (sym c.are_plain.ensures ∙ c.if-not-are_plain.true)
