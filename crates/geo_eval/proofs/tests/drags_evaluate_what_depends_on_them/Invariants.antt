use Rattle.geo_eval.proofs.tests.drags_evaluate_what_depends_on_them.Given as goal

abbrev pub ghosts-drag_all : goal.ghosts-drag_all
ghosts-drag_all g a = record { name = a.blank.name; parts = a.blank.parts }
