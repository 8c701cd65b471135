use Rattle.std.proofs.Common.{◌≡◌, length}
use Rattle.geo_degree.specs.Rows.{HaveRows}
use Rattle.geo_degree.proofs.degrees.list_rows.Given as goal

abbrev pub invariant-loop-element : goal.invariant-loop-element
invariant-loop-element l = record { long : length l.rows.items ≡ l.element-index; have : HaveRows l.fn.sketch.elements l.rows.items l.element-index }
