use Rattle.geo_session.proofs.followers.Followers.follow.Given as goal

abbrev pub ghosts-show : goal.ghosts-show
ghosts-show g a = record { name = a.blank.name; parts = a.blank.parts }
