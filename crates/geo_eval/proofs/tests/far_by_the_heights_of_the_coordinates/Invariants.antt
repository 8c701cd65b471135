use Rattle.geo_eval.proofs.tests.far_by_the_heights_of_the_coordinates.Given as goal

abbrev pub ghosts-drag_far_out : goal.ghosts-drag_far_out
ghosts-drag_far_out g a = record { name = a.blank.name; parts = a.blank.parts }

abbrev pub ghosts-meet_and_join : goal.ghosts-meet_and_join
ghosts-meet_and_join g a = record { name = a.blank.name; parts = a.blank.parts }
