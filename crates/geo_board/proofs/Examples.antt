-- Schedules computed by the definitions.
use Rattle.std.proofs.Common.{◌≡◌, List, [], ◌∷◌, refl, lit<, lit≤, arith}
use Rattle.geo_board.specs.declared.views.BoardEvent.{BoardEvent}
use Rattle.geo_board.specs.declared.views.BoardEvent.TheVariants.{Claim, Look, Finish}
use Rattle.geo_board.specs.Machine.{no_find, entry, final_state, final_entries, IsSchedule}

-- of two workers and three chunks; the second worker leaves its last chunk at the first one's find
abbrev events : List BoardEvent
events = Claim 0 ∷ Claim 1 ∷ Look 0 ∷ Finish 1 2000 ∷ Look 0 ∷ Claim 1 ∷ Finish 0 700 ∷ Look 1 ∷ Finish 1 no_find ∷ Claim 0 ∷ Claim 1 ∷ []

least_is : (final_state 3 2 events).least ≡ 700
least_is = refl

entries_are : final_entries 3 2 events ≡ entry 0 700 2000 ∷ entry 1 2000 no_find ∷ entry 2 no_find 700 ∷ []
entries_are = refl

-- of one worker, whose end is no event more
alone : IsSchedule 1 1 (Claim 0 ∷ Finish 0 7 ∷ Claim 0 ∷ Look 0 ∷ [])
alone = ((lit< tt, refl, refl), ((lit< tt, refl, lit≤ tt), ((lit< tt, refl, refl), (lit< tt, tt))))

with_a_chunk : ¬ IsSchedule 1 1 (Claim 0 ∷ Claim 0 ∷ [])
with_a_chunk h = let chunk = h.1.0.1 in cc

without_a_chunk : ¬ IsSchedule 1 1 (Finish 0 7 ∷ [])
without_a_chunk h = let chunk = h.0.1 in cc

after_its_end : ¬ IsSchedule 0 1 (Claim 0 ∷ Claim 0 ∷ [])
after_its_end h = let ended = h.1.0.2 in cc

of_nobody : ¬ IsSchedule 1 1 (Look 1 ∷ [])
of_nobody h = let worker = h.0 in omega arith
