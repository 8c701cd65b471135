use Rattle.std.proofs.Common.{rules, ◌≡◌, ◌∙◌, ◌+◌, ◌-◌, sym, ap, ℕ, ℤ, drop, set, length, length-set, arith}
use Rattle.geo_sketch.specs.Assignments.{assignment_of}
use Rattle.geo_check.specs.Instances.{assigned}
use Rattle.geo_check.proofs.EntryLaws.{no_more}
use Rattle.geo_check.proofs.ValueLaws.{assigned_more, value_low}
use Rattle.geo_check.proofs.values.assign.Goals as goal

pub loop-k-init : goal.loop-k-init
loop-k-init c = record {
  room = c.requires.room;
  set = c.requires.nothing ∙ ap assignment_of (sym (no_more c.args.values.now c.len-k.result (omega (arith, c.len-k.ensures))));
}

pub put-requires : goal.put-requires
put-requires c = omega (arith, c.loop-k.invariant.room, value_low c.args.values.now (c.loop-k.k - 1) (c.in-Some.p, c.in-Some.value) c.requires.within (sym c.get.ensures ∙ c.in-Some.is))

pub loop-k-preserved : goal.loop-k-preserved
loop-k-preserved c =
    let vs = c.args.values.now in
    let k = c.loop-k.k - 1 in
    let v : ℕ × ℤ = (c.in-Some.p, c.in-Some.value) in
    let is = sym c.get.ensures ∙ c.in-Some.is in
    let before = c.loop-k.position in
    let room = c.loop-k.invariant.room in
    let next : c.loop-k.k ≡ c.loop-k.k - 1 + 1 = omega (arith, c.loop-k-test.true) in
    let set_there : c.put.new.values ≡ set c.loop-k.position c.in-Some.p c.in-Some.value = search rules in
    let low = value_low vs k v c.requires.within is in
    record {
      room = ap length set_there ∙ length-set before v.0 v.1 ∙ room;
      set = ap assigned set_there ∙ assigned_more before vs k v is (omega (arith, low, room)) (c.loop-k.invariant.set ∙ ap (λ n. assignment_of (drop n vs)) next);
    }
