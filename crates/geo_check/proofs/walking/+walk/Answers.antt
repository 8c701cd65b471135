use Rattle.std.proofs.Common.{rules, ◌≡◌, ◌∙◌, ◌≤◌, ◌-◌, sym, ap, subst, true, false, ℤ, pos, length, get_or, set, take, drop, arith}
use Rattle.std.specs.Prelude.{unsigned_abs}
use Rattle.std.specs.List.{list_all, AllByRecursion}
use Rattle.geo_degree.specs.Polynomials.{with_value}
use Rattle.geo_height.specs.Bounds.{magnitude_of}
use Rattle.geo_check.specs.Grids.{magnitudes_in}
use Rattle.geo_check.specs.Instances.{assigned, is_zero_on, on_triangle}
use Rattle.geo_check.specs.Positions.{IsModest, IsPosition}
use Rattle.geo_check.proofs.PositionLaws.{all_go_on, all_stop, assigned_there, bound_taken, others_next, position_low, position_set, restored, triangle_go_on, triangle_stop, value_bound}
use Rattle.geo_check.proofs.ValueLaws.{never_gone}
use Rattle.geo_check.proofs.walking.+walk.Goals as goal

pub is_zero_from-is_zero_at-requires-clause-low : goal.is_zero_from-is_zero_at-requires-clause-low
is_zero_from-is_zero_at-requires-clause-low t c =
    let claim = c.args.claim.now in
    position_low claim.sketch.now c.requires.ready.drawn claim.statement.now c.args.grid.now c.args.values.now c.requires.walkable c.requires.position

pub is_zero_from-returns-in-None-clause-zero : goal.is_zero_from-returns-in-None-clause-zero
is_zero_from-returns-in-None-clause-zero t c = never_gone c.args.grid.now c.args.k (omega (arith, c.if-k-len.false, c.len.ensures)) c.in-None.ensures.entry

-- ---- along a list
pub is_zero_along-returns-then-not-is_zero_from-clause-zero : goal.is_zero_along-returns-then-not-is_zero_from-clause-zero
is_zero_along-returns-then-not-is_zero_from-clause-zero t c =
    let es = c.args.claim.now.sketch.now.elements in
    let s = c.args.claim.now.statement.now in
    let gs = drop c.args.k c.args.grid.now in
    let start = c.args.values.now in
    let p = c.args.p in
    let list = c.args.list.now in
    let i = c.loop-i.i in
    let x = c.value_in-value.result in
    let is : c.value_in-value.result ≡ get_or c.args.list.now c.loop-i.i (pos 0) = c.value_in-value.ensures in
    let set_there : c.put.new.values ≡ set c.loop-i.values c.args.p c.value_in-value.result = search rules in
    let f = λ (x : ℤ). is_zero_on es s gs (with_value (assigned start) p x) in
    let inv = c.loop-i.invariant in
    let there = ap assigned set_there ∙ assigned_there start c.loop-i.values p x (omega (arith, c.requires.position.room, c.requires.modest.parameter)) (inv.others x) in
    let fails : f (get_or c.args.list.now c.loop-i.i (pos 0)) ≡ false = ap f (sym is) ∙ ap (is_zero_on es s gs) (sym there) ∙ sym c.is_zero_from.ensures.zero ∙ c.if-not-is_zero_from.true in
    all_stop f list i (pos 0) (list_all f list) c.loop-i-test.true inv.zero fails

pub is_zero_along-loop-i-preserved : goal.is_zero_along-loop-i-preserved
is_zero_along-loop-i-preserved t c =
    let es = c.args.claim.now.sketch.now.elements in
    let s = c.args.claim.now.statement.now in
    let gs = drop c.args.k c.args.grid.now in
    let start = c.args.values.now in
    let before = c.loop-i.values in
    let p = c.args.p in
    let list = c.args.list.now in
    let i = c.loop-i.i in
    let x = c.value_in-value.result in
    let is : c.value_in-value.result ≡ get_or c.args.list.now c.loop-i.i (pos 0) = c.value_in-value.ensures in
    let set_there : c.put.new.values ≡ set c.loop-i.values c.args.p c.value_in-value.result = search rules in
    let f = λ (x : ℤ). is_zero_on es s gs (with_value (assigned start) p x) in
    let inv = c.loop-i.invariant in
    let within = c.loop-i-test.true in
    let kept = c.is_zero_from.ensures.same c.if-not-is_zero_from.false ∙ set_there in
    let there = ap assigned set_there ∙ assigned_there start before p x (omega (arith, c.requires.position.room, c.requires.modest.parameter)) (inv.others x) in
    let passes : f (get_or c.args.list.now c.loop-i.i (pos 0)) ≡ true = ap f (sym is) ∙ ap (is_zero_on es s gs) (sym there) ∙ sym c.is_zero_from.ensures.zero ∙ c.if-not-is_zero_from.false in
    record {
      position = subst (IsPosition c.args.grid.now) (sym kept) (position_set c.args.grid.now before p x inv.position c.requires.modest.parameter (subst (λ (z : ℤ). unsigned_abs z ≤ magnitude_of (magnitudes_in c.args.grid.now) c.args.p) (sym is) (value_bound (magnitude_of (magnitudes_in c.args.grid.now) p) list i (pos 0) c.requires.modest.values within)));
      others = λ y. ap (λ vs. set vs p y) kept ∙ others_next start before p x inv.others y;
      zero = all_go_on f list i (pos 0) (list_all f list) within inv.zero passes;
    }

pub is_zero_along-returns-clause-same : goal.is_zero_along-returns-clause-same
is_zero_along-returns-clause-same t c e =
    let back : c.put-2.new.values ≡ set c.loop-i.values c.args.p c.value_in-before.result = search rules in
    back ∙ ap (λ z. set c.loop-i.values c.args.p z) c.value_in-before.ensures ∙ restored c.args.values.now c.loop-i.values c.args.p (pos 0) c.loop-i.invariant.others

-- ---- on a triangle
pub is_zero_on_triangle-is_zero_along-requires : goal.is_zero_on_triangle-is_zero_along-requires
is_zero_on_triangle-is_zero_along-requires t c =
    let p = c.args.pair.0 in
    let first = c.args.first.now in
    let i = c.loop-i.i in
    let x = c.value_in-value.result in
    let is : c.value_in-value.result ≡ get_or c.args.first.now c.loop-i.i (pos 0) = c.value_in-value.ensures in
    let set_there : c.put.new.values ≡ set c.loop-i.values c.args.pair.0 c.value_in-value.result = search rules in
    let room : length c.loop-i.triples ≡ length c.args.triples.now = search rules in
    let q = c.args.pair.1 in
    let modest : IsModest (magnitude_of (magnitudes_in c.args.grid.now)) c.args.pair.1 c.row_of-row.result.now
    = record {
      parameter = c.requires.second_modest.parameter;
      values = subst (AllByRecursion (λ (z : ℤ). unsigned_abs z ≤ magnitude_of (magnitudes_in c.args.grid.now) q)) (sym c.row_of-row.ensures) (bound_taken (magnitude_of (magnitudes_in c.args.grid.now) q) c.args.second.now (length first - i) c.requires.second_modest.values);
    } in
    let position = subst (IsPosition c.args.grid.now) (sym set_there) (position_set c.args.grid.now c.loop-i.values p x c.loop-i.invariant.position c.requires.first_modest.parameter (subst (λ (z : ℤ). unsigned_abs z ≤ magnitude_of (magnitudes_in c.args.grid.now) c.args.pair.0) (sym is) (value_bound (magnitude_of (magnitudes_in c.args.grid.now) p) first i (pos 0) c.requires.first_modest.values c.loop-i-test.true))) in
    (omega (arith, c.decreases), (c.requires.ready, (c.requires.walkable, (modest, (position, room ∙ c.requires.triples_room)))))

pub is_zero_on_triangle-returns-then-not-is_zero_along-clause-zero : goal.is_zero_on_triangle-returns-then-not-is_zero_along-clause-zero
is_zero_on_triangle-returns-then-not-is_zero_along-clause-zero t c =
    let es = c.args.claim.now.sketch.now.elements in
    let s = c.args.claim.now.statement.now in
    let gs = drop c.args.k c.args.grid.now in
    let start = c.args.values.now in
    let p = c.args.pair.0 in
    let q = c.args.pair.1 in
    let first = c.args.first.now in
    let second = c.args.second.now in
    let i = c.loop-i.i in
    let x = c.value_in-value.result in
    let is : c.value_in-value.result ≡ get_or c.args.first.now c.loop-i.i (pos 0) = c.value_in-value.ensures in
    let set_there : c.put.new.values ≡ set c.loop-i.values c.args.pair.0 c.value_in-value.result = search rules in
    let f = λ (x : ℤ) (y : ℤ). is_zero_on es s gs (with_value (with_value (assigned start) p x) q y) in
    let inv = c.loop-i.invariant in
    let there = ap assigned set_there ∙ assigned_there start c.loop-i.values p x (omega (arith, c.requires.position.room, c.requires.first_modest.parameter)) (inv.others x) in
    let fails : list_all (f (get_or c.args.first.now c.loop-i.i (pos 0))) (take (length c.args.first.now - c.loop-i.i) c.args.second.now) ≡ false
    = ap (λ z. list_all (f z) (take (length first - i) second)) (sym is) ∙ ap (λ v. list_all (λ (y : ℤ). is_zero_on es s gs (with_value v q y)) (take (length first - i) second)) (sym there) ∙ ap (λ ys. list_all (λ (y : ℤ). is_zero_on es s gs (with_value (assigned c.put.new.values) q y)) ys) (sym c.row_of-row.ensures) ∙ sym c.is_zero_along.ensures.zero ∙ c.if-not-is_zero_along.true in
    triangle_stop f first second i (pos 0) (on_triangle f first second) c.loop-i-test.true inv.zero fails

pub is_zero_on_triangle-loop-i-preserved : goal.is_zero_on_triangle-loop-i-preserved
is_zero_on_triangle-loop-i-preserved t c =
    let es = c.args.claim.now.sketch.now.elements in
    let s = c.args.claim.now.statement.now in
    let gs = drop c.args.k c.args.grid.now in
    let start = c.args.values.now in
    let before = c.loop-i.values in
    let p = c.args.pair.0 in
    let q = c.args.pair.1 in
    let first = c.args.first.now in
    let second = c.args.second.now in
    let i = c.loop-i.i in
    let x = c.value_in-value.result in
    let is : c.value_in-value.result ≡ get_or c.args.first.now c.loop-i.i (pos 0) = c.value_in-value.ensures in
    let set_there : c.put.new.values ≡ set c.loop-i.values c.args.pair.0 c.value_in-value.result = search rules in
    let f = λ (x : ℤ) (y : ℤ). is_zero_on es s gs (with_value (with_value (assigned start) p x) q y) in
    let inv = c.loop-i.invariant in
    let within = c.loop-i-test.true in
    let kept = c.is_zero_along.ensures.same c.if-not-is_zero_along.false ∙ set_there in
    let there = ap assigned set_there ∙ assigned_there start before p x (omega (arith, c.requires.position.room, c.requires.first_modest.parameter)) (inv.others x) in
    let passes : list_all (f (get_or c.args.first.now c.loop-i.i (pos 0))) (take (length c.args.first.now - c.loop-i.i) c.args.second.now) ≡ true
    = ap (λ z. list_all (f z) (take (length first - i) second)) (sym is) ∙ ap (λ v. list_all (λ (y : ℤ). is_zero_on es s gs (with_value v q y)) (take (length first - i) second)) (sym there) ∙ ap (λ ys. list_all (λ (y : ℤ). is_zero_on es s gs (with_value (assigned c.put.new.values) q y)) ys) (sym c.row_of-row.ensures) ∙ sym c.is_zero_along.ensures.zero ∙ c.if-not-is_zero_along.false in
    record {
      position = subst (IsPosition c.args.grid.now) (sym kept) (position_set c.args.grid.now before p x inv.position c.requires.first_modest.parameter (subst (λ (z : ℤ). unsigned_abs z ≤ magnitude_of (magnitudes_in c.args.grid.now) c.args.pair.0) (sym is) (value_bound (magnitude_of (magnitudes_in c.args.grid.now) p) first i (pos 0) c.requires.first_modest.values within)));
      others = λ y. ap (λ vs. set vs p y) kept ∙ others_next start before p x inv.others y;
      zero = triangle_go_on f first second i (pos 0) (on_triangle f first second) within inv.zero passes;
    }

pub is_zero_on_triangle-returns-clause-same : goal.is_zero_on_triangle-returns-clause-same
is_zero_on_triangle-returns-clause-same t c e =
    let back : c.put-2.new.values ≡ set c.loop-i.values c.args.pair.0 c.value_in-before.result = search rules in
    back ∙ ap (λ z. set c.loop-i.values c.args.pair.0 z) c.value_in-before.ensures ∙ restored c.args.values.now c.loop-i.values c.args.pair.0 (pos 0) c.loop-i.invariant.others
