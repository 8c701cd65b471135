use Rattle.std.proofs.Common.{◌≡◌, ◌+◌, ◌-◌, length, subst, arith}
use Rattle.geo_grid.specs.Flags.{AreFlagged}
use Rattle.geo_grid.proofs.FlagLaws.{flags_pass, flags_spread, flags_tell, names_before}
use Rattle.geo_grid.proofs.PlanLaws.{no_element}
use Rattle.geo_grid.proofs.posing.needs.find_needed.Goals as goal

pub flag_references-requires : goal.flag_references-requires
flag_references-requires c =
    names_before c.args.elements.now c.requires.construction c.args.named.now (c.loop-i.i - 1) c.index-elements-i.result (omega (arith, c.loop-i-test.true, c.loop-i.auto.i)) (length c.loop-i.flags) (omega (arith, c.requires.room, c.loop-i.invariant.room))

pub loop-i-preserved : goal.loop-i-preserved
loop-i-preserved c =
    let next : c.loop-i.i ≡ c.loop-i.i - 1 + 1 = omega (arith, c.loop-i-test.true) in
    flags_pass c.args.elements.now c.requires.construction c.args.named.now (c.loop-i.i - 1) no_element (omega (arith, c.loop-i-test.true, c.loop-i.auto.i)) c.args.named.now c.loop-i.flags c.if-flags-i.false (subst (λ i. AreFlagged c.args.elements.now c.args.named.now c.args.named.now c.loop-i.flags i) next c.loop-i.invariant)

pub loop-i-preserved-then-flags-i : goal.loop-i-preserved-then-flags-i
loop-i-preserved-then-flags-i c =
    let next : c.loop-i.i ≡ c.loop-i.i - 1 + 1 = omega (arith, c.loop-i-test.true) in
    rw c.flag_references.ensures (flags_spread c.args.elements.now c.requires.construction c.args.named.now (c.loop-i.i - 1) c.index-elements-i.result (omega (arith, c.loop-i-test.true, c.loop-i.auto.i)) c.args.named.now c.loop-i.flags c.requires.room c.if-flags-i.true (subst (λ i. AreFlagged c.args.elements.now c.args.named.now c.args.named.now c.loop-i.flags i) next c.loop-i.invariant))

pub returns : goal.returns
returns c =
    flags_tell c.args.elements.now c.requires.construction c.args.named.now c.loop-i.flags c.requires.live
    (let end : c.loop-i.i ≡ 0 = omega (arith, c.loop-i-test.false) in subst (λ i. AreFlagged c.args.elements.now c.args.named.now c.args.named.now c.loop-i.flags i) end c.loop-i.invariant)
