use Rattle.bench_grid.proofs.count_failing.Given as goal

abbrev pub ghosts-over_grid : goal.ghosts-over_grid
ghosts-over_grid a = record { name = a.blank.name; parts = a.blank.parts }

abbrev pub ghosts-over_triangles : goal.ghosts-over_triangles
ghosts-over_triangles a = record { name = a.blank.name; parts = a.blank.parts }
