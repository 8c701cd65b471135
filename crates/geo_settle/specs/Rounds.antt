-- What contracts see of a round and of its workers: the form, and the board or the seat.
use Rattle.std.specs.Prelude.{◌≡◌, false, None, [], All}
use Rattle.geo_board.specs.declared.seat.Board.{Board}
use Rattle.geo_board.specs.declared.seat.BoardSeat.{BoardSeat}
use Rattle.geo_board.specs.BoardSeats.{worker_of, HasEnded, IsInitialSeatOf, IsSeatOf}
use Rattle.geo_degree.specs.Questions.{Question}
use Rattle.geo_settle.specs.Fails.{IsTruthfulOf}

module _ {F : Type 0} where
  -- the worker has the round's form, and its seat is one of the round's board
  abbrev pub IsWorkerOf : F × Board → F × BoardSeat → Type 0
  IsWorkerOf round worker = (worker.0 ≡ round.0) × IsSeatOf round.1 worker.1

  -- the same, and it has done nothing
  abbrev pub IsNewWorkerOf : F × Board → F × BoardSeat → Type 0
  IsNewWorkerOf round worker = (worker.0 ≡ round.0) × IsInitialSeatOf round.1 worker.1

  -- the worker has not ended, and has neither a chunk nor an entry
  abbrev pub IsIdle : F × BoardSeat → Type 0
  IsIdle worker = ((worker_of worker.1).ended ≡ false) × ((worker_of worker.1).chunk ≡ None) × ((worker_of worker.1).entries ≡ [])

  -- the worker has ended, and all that it tells is so
  abbrev pub HasSwept : Question → F × BoardSeat → Type 0
  HasSwept q worker = HasEnded worker.1 × All (IsTruthfulOf q) (worker_of worker.1).entries
