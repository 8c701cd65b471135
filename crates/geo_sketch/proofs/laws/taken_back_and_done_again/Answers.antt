use Rattle.geo_sketch.proofs.ChangeLaws.{applied_taken, leads_there, taken_applied, taken_back_drawn, taken_back_leads}
use Rattle.geo_sketch.proofs.laws.taken_back_and_done_again.Goals as goal

pub returns-clause-taken_back : goal.returns-clause-taken_back
returns-clause-taken_back c = taken_applied

pub returns-clause-leads_to : goal.returns-clause-leads_to
returns-clause-leads_to c = leads_there

pub returns-clause-done_again : goal.returns-clause-done_again
returns-clause-done_again c = applied_taken

pub returns-clause-leads_from : goal.returns-clause-leads_from
returns-clause-leads_from c = taken_back_leads

pub returns-clause-drawn : goal.returns-clause-drawn
returns-clause-drawn c = taken_back_drawn
