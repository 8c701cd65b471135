use Rattle.std.proofs.Common.{◌≡◌, take}
use Rattle.std.specs.Prelude.{count_by}
use Rattle.geo_sketch.specs.Dependence.{depends_on}
use Rattle.geo_eval.proofs.tests.count_dependents.Given as goal

abbrev pub invariant-loop-element : goal.invariant-loop-element
invariant-loop-element l = l.count ≡ count_by (λ e. depends_on l.sketch.elements e.number l.on) (take l.element-index l.sketch.elements)
