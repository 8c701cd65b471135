use Rattle.std.proofs.Common.{◌∙◌, ◌∷◌, [], ap}
use Rattle.std.proofs.lemmas.Result.{on_ok_weaker}
use Rattle.geo_sketch.specs.Changes.{made_of}
use Rattle.geo_sketch.specs.Sketches.{blank}
use Rattle.geo_sketch.proofs.ChangeLaws.{made_both}
use Rattle.geo_undo.specs.Timelines.{Timeline}
use Rattle.geo_undo.proofs.MadeLaws.{done_drawn}
use Rattle.geo_undo.proofs.history.History.push.Goals as goal

pub returns-then-can_redo-clause-makes : goal.returns-then-can_redo-clause-makes
returns-then-can_redo-clause-makes c = ap (λ (timeline : Timeline). made_of timeline.done) c.put_over_undone.ensures ∙ made_both blank c.args.self.now.done (c.args.delta ∷ [])

pub returns-else-can_redo-clause-makes : goal.returns-else-can_redo-clause-makes
returns-else-can_redo-clause-makes c = on_ok_weaker c.put_last.result (λ after. ap (λ (timeline : Timeline). made_of timeline.done) after ∙ made_both blank c.args.self.now.done (c.args.delta ∷ [])) c.put_last.ensures.after

pub returns-then-can_redo-clause-drawn : goal.returns-then-can_redo-clause-drawn
returns-then-can_redo-clause-drawn c = done_drawn c.args.self.now c.can_redo.ensures.sound

pub returns-else-can_redo-clause-drawn : goal.returns-else-can_redo-clause-drawn
returns-else-can_redo-clause-drawn c = done_drawn c.args.self.now c.can_redo.ensures.sound
