use Rattle.geo_ledger.proofs.KeptLaws.{kept_done, kept_taken_back}
use Rattle.geo_ledger.proofs.laws.kept_through_changes.Goals as goal

pub returns-clause-done : goal.returns-clause-done
returns-clause-done c = kept_done

pub returns-clause-taken_back : goal.returns-clause-taken_back
returns-clause-taken_back c drawing d kept drawn = kept_taken_back drawing d kept
