use Rattle.std.proofs.Common.{◌≡◌, ◌+◌, ◌-◌, ◌*◌, ℤ, length, drop}
use Rattle.std.specs.Prelude.{slice_set}
use Rattle.std.specs.List.{list_all}
use Rattle.geo_degree.specs.Polynomials.{with_value}
use Rattle.geo_check.specs.Instances.{assigned, is_zero_on, on_triangle}
use Rattle.geo_check.specs.Positions.{IsPosition}
use Rattle.geo_check.proofs.walking.+walk.Given as goal

abbrev pub decreases-is_zero_from : goal.decreases-is_zero_from
decreases-is_zero_from l = 3 * (length l.grid.now - l.k)

abbrev pub decreases-is_zero_along : goal.decreases-is_zero_along
decreases-is_zero_along l = 3 * (length l.grid.now - l.k) + 1

abbrev pub decreases-is_zero_on_triangle : goal.decreases-is_zero_on_triangle
decreases-is_zero_on_triangle l = 3 * (length l.grid.now - l.k) + 2

abbrev pub invariant-is_zero_along-loop-i : goal.invariant-is_zero_along-loop-i
invariant-is_zero_along-loop-i l = record {
  position : IsPosition l.grid l.values;
  others : (x : ℤ) → slice_set l.values l.place x ≡ slice_set l.initial.values l.place x;
  zero : list_all (λ x. is_zero_on l.claim.sketch.now.elements l.claim.statement.now (drop l.k l.grid) (with_value (assigned l.initial.values) l.p x)) (drop l.i l.list) ≡ list_all (λ x. is_zero_on l.claim.sketch.now.elements l.claim.statement.now (drop l.k l.grid) (with_value (assigned l.initial.values) l.p x)) l.list;
}

abbrev pub invariant-is_zero_on_triangle-loop-i : goal.invariant-is_zero_on_triangle-loop-i
invariant-is_zero_on_triangle-loop-i l = record {
  position : IsPosition l.grid l.values;
  others : (x : ℤ) → slice_set l.values l.place x ≡ slice_set l.initial.values l.place x;
  zero : on_triangle (λ x y. is_zero_on l.claim.sketch.now.elements l.claim.statement.now (drop l.k l.grid) (with_value (with_value (assigned l.initial.values) l.pair.0 x) l.pair.1 y)) (drop l.i l.first) l.second ≡ on_triangle (λ x y. is_zero_on l.claim.sketch.now.elements l.claim.statement.now (drop l.k l.grid) (with_value (with_value (assigned l.initial.values) l.pair.0 x) l.pair.1 y)) l.first l.second;
}
