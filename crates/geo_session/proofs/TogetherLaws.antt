-- Sketch, history and followers go on fitting.
use Rattle.std.proofs.Common.{◌≡◌, ◌∙◌, sym, ap, subst}
use Rattle.geo_sketch.specs.declared.changes.Delta.{Delta}
use Rattle.geo_sketch.specs.Sketches.{Drawing, IsDrawn}
use Rattle.geo_sketch.specs.Changes.{applied, taken_back, LeadsFrom}
use Rattle.geo_sketch.proofs.ChangeLaws.{taken_applied}
use Rattle.geo_session.specs.declared.followers.Followers.{Followers}
use Rattle.geo_session.specs.Together.{AreFollowersOf}

-- the sketch that a change leads back to is the one before
pub before_is : (old new : Drawing) (d : Delta) → new ≡ applied old d → IsDrawn old → LeadsFrom old d → taken_back new d ≡ old
before_is old new d new_is drawn leads = ap (λ (k : Drawing). taken_back k d) new_is ∙ taken_applied old d drawn leads

-- so the followers of the one are those of the other
pub before_following : (old new : Drawing) (d : Delta) (followers : Followers) → new ≡ applied old d → IsDrawn old → LeadsFrom old d → AreFollowersOf old followers → AreFollowersOf (taken_back new d) followers
before_following old new d followers new_is drawn leads following = subst (λ (k : Drawing). AreFollowersOf k followers) (sym (before_is old new d new_is drawn leads)) following
