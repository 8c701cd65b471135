use Rattle.std.proofs.Common.{◌≡◌, ◌++◌, ◌-◌}
use Rattle.geo_gen.specs.Scripts.{changes}
use Rattle.geo_gen.proofs.scripts.write_changes.Given as goal

-- what is written, and the lines that are to come, are all of them
abbrev pub invariant-loop : goal.invariant-loop
invariant-loop l = l.out.items ++ changes (1000 - l.counter) l.words ≡ l.initial.out.items ++ changes 1000 l.initial.words
