use Rattle.std.proofs.Common.{◌∙◌}
use Rattle.geo_sketch.proofs.RebuildLaws.{one_digit, two_digits, three_digits}
use Rattle.geo_sketch.proofs.rebuilding.spell_number.Goals as goal

pub returns-then-n-lt10 : goal.returns-then-n-lt10
returns-then-n-lt10 c = c.new.ensures ∙ one_digit c.args.n c.if-n-lt10.true

pub returns-then-n-lt100 : goal.returns-then-n-lt100
returns-then-n-lt100 c = c.new-then-n-lt100.ensures ∙ two_digits c.args.n c.if-n-lt10.false c.if-n-lt100.true

pub returns : goal.returns
returns c = c.new-2.ensures ∙ three_digits c.args.n c.if-n-lt100.false c.requires
