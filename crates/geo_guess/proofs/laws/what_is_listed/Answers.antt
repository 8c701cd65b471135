use Rattle.geo_guess.proofs.NoticedLaws.{conjectures_in_order, is_conjecture_where_listed, listed_where_conjecture}
use Rattle.geo_guess.proofs.laws.what_is_listed.Goals as goal

pub returns-clause-exactly : goal.returns-clause-exactly
returns-clause-exactly c drawing s drawn = (is_conjecture_where_listed drawing s, listed_where_conjecture drawing drawn s)

pub returns-clause-in_order : goal.returns-clause-in_order
returns-clause-in_order c = conjectures_in_order
