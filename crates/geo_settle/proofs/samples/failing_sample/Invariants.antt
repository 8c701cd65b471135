use Rattle.geo_settle.proofs.samples.failing_sample.Given as goal

abbrev pub ghosts-first_failing : goal.ghosts-first_failing
ghosts-first_failing g a = record { name = a.blank.name; parts = a.blank.parts }
