use Rattle.std.proofs.Common.{◌+◌, ◌*◌, length}
use Rattle.geo_settle.proofs.threads.+places.Given as goal

abbrev pub decreases-from_place : goal.decreases-from_place
decreases-from_place g l = 4 * length l.list.now

abbrev pub decreases-first_and_rest : goal.decreases-first_and_rest
decreases-first_and_rest g l = 4 * length l.rest.now + 3

abbrev pub decreases-first_and_rest-others : goal.decreases-first_and_rest-others
decreases-first_and_rest-others g l = 4 * length l.rest.now + 1
