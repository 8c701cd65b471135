use Rattle.std.proofs.Common.{Bool, ap, ◌∙◌}
use Rattle.geo_board.specs.Machine.{WorkerState}
use Rattle.geo_board.proofs.Seats.{after_chunk}
use Rattle.geo_board.proofs.tests.three_seats_share_two_chunks.Goals as goal

abbrev ended : WorkerState → Bool
ended w = w.ended

pub claim-requires-4-clause-free : goal.claim-requires-4-clause-free
claim-requires-4-clause-free g c =
    let claimed = c.in-Some-claim.ensures.claimed in (
      ap (λ (w : WorkerState). w.chunk) c.finish-2.ensures.finished,
      ap ended c.finish-2.ensures.finished ∙ ap ended c.look-2.ensures.looked ∙ ap ended c.look.ensures.looked ∙ ap ended (after_chunk _ _ _ _ _ claimed.1 claimed.2.0 claimed.2.1) ∙ ap ended c.in-Some.ensures.0.1,
    )

pub claim-requires-5-clause-free : goal.claim-requires-5-clause-free
claim-requires-5-clause-free g c =
    let claimed = c.in-Some-claim-2.ensures.claimed in (
      ap (λ (w : WorkerState). w.chunk) c.finish.ensures.finished,
      ap ended c.finish.ensures.finished ∙ ap ended (after_chunk _ _ _ _ _ claimed.1 claimed.2.0 claimed.2.1) ∙ ap ended c.in-Some.ensures.1.1,
    )
