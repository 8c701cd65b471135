use Rattle.geo_grid.proofs.tests.what_depends_on_an_axis.Given as goal

abbrev pub ghosts-fourth_fails : goal.ghosts-fourth_fails
ghosts-fourth_fails g a = record { name = a.blank.name; parts = a.blank.parts }
