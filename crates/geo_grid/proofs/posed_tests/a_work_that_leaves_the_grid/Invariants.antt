use Rattle.geo_grid.proofs.posed_tests.a_work_that_leaves_the_grid.Given as goal

abbrev pub ghosts-fails_at : goal.ghosts-fails_at
ghosts-fails_at g a = record { name = a.blank.name; parts = a.blank.parts }
