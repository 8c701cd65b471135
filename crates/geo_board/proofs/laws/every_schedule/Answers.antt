use Rattle.geo_board.specs.Machine.{final_state, final_entries}
use Rattle.geo_board.specs.Truth.{chunk_count}
use Rattle.geo_board.proofs.Schedule.{schedule_closes}
use Rattle.geo_board.proofs.Truths.{entries_answer}
use Rattle.geo_board.proofs.laws.every_schedule.Goals as goal

pub returns-clause-each_chunk_once : goal.returns-clause-each_chunk_once
returns-clause-each_chunk_once c total workers events whole = (schedule_closes total workers events whole).each_chunk_once

pub returns-clause-least : goal.returns-clause-least
returns-clause-least c total workers events whole = (schedule_closes total workers events whole).is_least_found

pub returns-clause-answer : goal.returns-clause-answer
returns-clause-answer c size workers events fails small whole truthful =
    let total = chunk_count size in
    let end = schedule_closes total workers events whole in
    entries_answer size (final_state total workers events).least fails (final_entries total workers events) end.is_least_found end.bounds end.each_chunk_once truthful small
