use Rattle.std.proofs.Common.{◌≡◌, ◌++◌, map, take}
use Rattle.geo_tool.specs.Asked.{asked_line}
use Rattle.geo_tool.proofs.uses.put_use.Given as goal

abbrev pub invariant-loop-line : goal.invariant-loop-line
invariant-loop-line l = l.out ≡ l.fn.out ++ map (asked_line l.asked) (map (λ line. line.items) (take l.line-index l.asked.body.now))
