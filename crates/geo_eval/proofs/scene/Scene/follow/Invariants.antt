use Rattle.std.proofs.Common.{◌≡◌, ◌+◌, take}
use Rattle.std.specs.Prelude.{count_by}
use Rattle.geo_sketch.specs.declared.changes.Delta.TheVariants.{Dragged}
use Rattle.geo_sketch.specs.Dependence.{depends_on}
use Rattle.geo_eval.specs.Scenes.{before_of}
use Rattle.geo_eval.proofs.FollowLaws.{Following}
use Rattle.geo_eval.proofs.scene.Scene.follow.Given as goal

abbrev pub invariant-loop-i : goal.invariant-loop-i
invariant-loop-i g l = record {
  followed : Following (before_of l.fn.sketch (Dragged l.fn.number l.fn.from l.fn.to) l.fn.forward) l.fn.sketch l.fn.number l.moved l.self l.i;
  ticks : l.steps ≡ l.fn.steps + count_by (λ e. depends_on l.fn.sketch.elements e.number l.fn.number) (take l.i l.fn.sketch.elements);
}
