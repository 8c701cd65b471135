use Rattle.std.proofs.Common.{drop, map}
use Rattle.geo_app.proofs.Alone.{Alone}
use Rattle.geo_app.proofs.work.take_all.Given as goal

abbrev pub invariant-loop-line : goal.invariant-loop-line
invariant-loop-line g l = Alone g.W.Views.shows l.script l.refused (map (λ line. line.items) (drop l.line-index l.lines)) (map (λ line. line.items) l.lines) l.fn.out.items l.out.items
