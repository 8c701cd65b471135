-- What a session keeps together.
use Rattle.std.specs.Prelude.{◌≡◌}
use Rattle.geo_sketch.specs.Sketches.{Drawing}
use Rattle.geo_sketch.specs.Changes.{made_of}
use Rattle.geo_eval.specs.Scenes.{IsSceneOf}
use Rattle.geo_guess.specs.Guesses.{IsGuessesOf}
use Rattle.geo_ledger.specs.Ledgers.{AreKept}
use Rattle.geo_session.specs.declared.desk.Desk.{Desk}
use Rattle.geo_session.specs.declared.followers.Followers.{Followers}

-- the scene and the guesses are those of the sketch, and the kept verdicts are right in it
pub record AreFollowersOf (drawing : Drawing) (followers : Followers) : Type 0 where
  pub shown : IsSceneOf followers.scene drawing
  pub noticed : IsGuessesOf followers.guesses drawing
  pub right : AreKept drawing followers.ledger

-- the sketch is what the done changes make, and the followers are those of the sketch
pub record IsTogether {W : Type 0} (desk : Desk W) : Type 0 where
  pub made : desk.sketch ≡ made_of desk.history.done
  pub followers : AreFollowersOf desk.sketch desk.followers
