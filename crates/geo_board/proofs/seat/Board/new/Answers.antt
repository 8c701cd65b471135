use Rattle.std.proofs.Common.{[]}
use Rattle.geo_board.proofs.TableSteps.{opening_obeys}
use Rattle.geo_board.proofs.seat.Board.new.Goals as goal

pub of_words-requires : goal.of_words-requires
of_words-requires c = opening_obeys record { total = c.args.total; workers = c.args.workers } []
