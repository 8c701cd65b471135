use Rattle.geo_guess.proofs.ListedLaws.{added_one, dropped_one, returned_one, taken_away_one}
use Rattle.geo_guess.proofs.laws.changes_by_one_element.Goals as goal

pub returns-clause-added : goal.returns-clause-added
returns-clause-added c = added_one

pub returns-clause-dropped : goal.returns-clause-dropped
returns-clause-dropped c = dropped_one

pub returns-clause-taken_away : goal.returns-clause-taken_away
returns-clause-taken_away c = taken_away_one

pub returns-clause-returned : goal.returns-clause-returned
returns-clause-returned c = returned_one
