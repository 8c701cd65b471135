use Rattle.geo_board.proofs.Truths.{entries_answer}
use Rattle.geo_board.proofs.laws.truthful_entries.Goals as goal

pub returns : goal.returns
returns c size least fails es small is bounds once truthful = entries_answer size least fails es is bounds once truthful small
