use Rattle.std.proofs.Common.{◌∙◌, sym, arith}
use Rattle.std.proofs.lemmas.Bool.Decides.{nat_tests}
use Rattle.geo_grid.proofs.PairLaws.{within_none, within_some}
use Rattle.geo_grid.proofs.posing.shortness.is_short.Goals as goal

pub returns-in-Some : goal.returns-in-Some
returns-in-Some c h same = let it = within_some h c.in-Some.height (sym c.in-Some.is ∙ same) in (λ t. grind (arith, nat_tests), λ l. grind (arith, nat_tests))

pub returns-in-None : goal.returns-in-None
returns-in-None c h same = let above = within_none h (sym c.in-None.is ∙ same) in (λ t. cc, λ l. absurd (omega arith))
