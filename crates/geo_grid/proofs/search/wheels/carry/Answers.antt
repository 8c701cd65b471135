use Rattle.std.proofs.Common.{◌≡◌, ◌∙◌, ◌+◌, ◌-◌, ap, arith, get_or, length, rules, set, sym, FitsSigned}
use Rattle.std.specs.Int.{w64}
use Rattle.std.proofs.lemmas.Int.{to_z-of_z}
use Rattle.std.proofs.lemmas.List.{length-map}
use Rattle.geo_degree.specs.Grids.{grid_value}
use Rattle.geo_degree.proofs.BlockLaws.{length_digits}
use Rattle.geo_grid.proofs.BlockSizes.{degree_below}
use Rattle.geo_grid.proofs.Carries.{all_carried, carried, carried_on, limit_there, nothing_carried, rest_there, value_set}
use Rattle.geo_grid.proofs.Changes.{by_digits, digit_change, moved}
use Rattle.geo_grid.proofs.Ranks.{Rises, limit_at_most}
use Rattle.geo_grid.proofs.Wheeling.{one_wheel_each}
use Rattle.geo_grid.proofs.search.wheels.carry.Goals as goal

pub loop-place-init : goal.loop-place-init
loop-place-init c =
    let s = c.requires.stands.1 in
    let ds = c.args.digits.now in
    let digits : length c.args.digits.now ≡ length c.wheels-wheels.result.now = length_digits c.args.grid.now ds s.digits ∙ sym (one_wheel_each c.args.grid.now) ∙ ap (λ ws. length ws) (sym c.wheels-wheels.ensures) in
    let values = by_digits c.args.grid.now c.requires.stands.0 ds c.args.values.now s in
    record {
      carried = nothing_carried c.args.grid.now ds (length c.wheels-wheels.result.now) (omega (arith, digits));
      digits = digits;
      values = ap (λ xs. length xs) values ∙ length-map ds grid_value ∙ digits;
      values_are = values;
    }

pub limit_at-requires-clause-rest : goal.limit_at-requires-clause-rest
limit_at-requires-clause-rest c = λ d r.
    let rest = rest_there c.args.grid.now c.args.digits.now c.loop-place.digits c.loop-place.place (c.loop-place.place - 1) d c.wheels-wheels.result.now c.wheels-wheels.ensures c.requires.stands.1.digits c.loop-place.invariant.carried (omega arith) (omega arith) r in
    (rest.0, omega arith, rest.1)

pub grid_value-requires : goal.grid_value-requires
grid_value-requires c =
    let bs = c.args.grid.now in
    let k = c.loop-place.place - 1 in
    let limit = limit_there bs c.args.digits.now c.loop-place.digits c.loop-place.place k c.limit_at.result c.wheels-wheels.result.now c.wheels-wheels.ensures c.requires.stands.1.digits c.loop-place.invariant.carried (omega arith) (omega arith) c.limit_at.ensures in
    omega (arith, limit, limit_at_most bs c.args.digits.now k, degree_below bs k)

rises : (c : goal.After-grid_value) → Rises c.args.grid.now c.args.digits.now (set c.loop-place.digits (c.loop-place.place - 1) (get_or c.loop-place.digits (c.loop-place.place - 1) 0 + 1)) (c.loop-place.place - 1)
rises c =
    let k = c.loop-place.place - 1 in
    let limit = limit_there c.args.grid.now c.args.digits.now c.loop-place.digits c.loop-place.place k c.limit_at.result c.wheels-wheels.result.now c.wheels-wheels.ensures c.requires.stands.1.digits c.loop-place.invariant.carried (omega arith) (omega arith) c.limit_at.ensures in
    carried c.args.grid.now c.args.digits.now c.loop-place.digits c.loop-place.place k c.loop-place.invariant.carried (omega arith) (omega arith) (omega arith) (omega (arith, limit))

pub returns-then-digit-limit_at-clause-next : goal.returns-then-digit-limit_at-clause-next
returns-then-digit-limit_at-clause-next c = λ i s.
    let k = c.loop-place.place - 1 in
    let fits : FitsSigned w64 c.grid_value.result = search rules in
    rw (to_z-of_z w64 c.grid_value.result fits, c.grid_value.ensures)
    (moved c.args.grid.now i k c.args.digits.now _ c.args.values.now _ s (rises c) (value_set c.loop-place.digits c.loop-place.values k (get_or c.loop-place.digits (c.loop-place.place - 1) 0 + 1) c.loop-place.invariant.values_are))

pub returns-then-digit-limit_at-clause-change : goal.returns-then-digit-limit_at-clause-change
returns-then-digit-limit_at-clause-change c =
    let k = c.loop-place.place - 1 in
    let s = c.requires.stands in
    let fits : FitsSigned w64 c.grid_value.result = search rules in
    rw (to_z-of_z w64 c.grid_value.result fits, c.grid_value.ensures, by_digits c.args.grid.now s.0 c.args.digits.now c.args.values.now s.1, value_set c.loop-place.digits c.loop-place.values k (get_or c.loop-place.digits (c.loop-place.place - 1) 0 + 1) c.loop-place.invariant.values_are)
    (digit_change c.args.grid.now c.args.digits.now _ k (rises c))

pub loop-place-preserved : goal.loop-place-preserved
loop-place-preserved c =
    let k = c.loop-place.place - 1 in
    let limit = limit_there c.args.grid.now c.args.digits.now c.loop-place.digits c.loop-place.place k c.limit_at.result c.wheels-wheels.result.now c.wheels-wheels.ensures c.requires.stands.1.digits c.loop-place.invariant.carried (omega arith) (omega arith) c.limit_at.ensures in
    record {
      carried = carried_on c.args.grid.now c.args.digits.now c.loop-place.digits c.loop-place.place k c.requires.stands.1.digits c.loop-place.invariant.carried (omega arith) (omega arith) (omega arith) (omega (arith, limit));
      digits = search rules;
      values = search rules;
      values_are = value_set c.loop-place.digits c.loop-place.values k 0 c.loop-place.invariant.values_are;
    }

pub unreachable-requires : goal.unreachable-requires
unreachable-requires c =
    let s = c.requires.stands in
    let place : c.loop-place.place ≡ 0 = omega arith in
    let all = all_carried c.args.grid.now c.args.digits.now c.loop-place.digits s.1.digits (rw place at c.loop-place.invariant.carried) in
    omega (arith, all, s.1.rank_is, s.2)
