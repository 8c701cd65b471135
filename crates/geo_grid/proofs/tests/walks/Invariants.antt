use Rattle.geo_grid.proofs.tests.walks.Given as goal

abbrev pub ghosts-go_over : goal.ghosts-go_over
ghosts-go_over g a = record { name = a.blank.name; parts = a.blank.parts }
