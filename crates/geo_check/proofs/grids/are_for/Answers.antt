use Rattle.std.proofs.Common.{◌≡◌, ◌∙◌, sym, ap, length, arith}
use Rattle.std.specs.Prelude.{nat_le}
use Rattle.geo_check.proofs.ValueLaws.{entries_end, entries_gone}
use Rattle.geo_check.proofs.grids.are_for.Goals as goal

pub returns-in-None : goal.returns-in-None
returns-in-None c = sym (entries_gone c.args.degrees.now c.args.grid.now c.loop-k.k c.loop-k-test.true c.in-None.ensures.entry) ∙ c.loop-k.invariant

pub returns : goal.returns
returns c =
    let ds = c.args.degrees.now in
    let gs = c.args.grid.now in
    let last : c.loop-k.k ≡ length c.args.degrees.now = omega (arith, c.loop-k-test.false, c.loop-k.auto.k-end) in
    ap (λ n. nat_le n (length ds)) c.len.ensures ∙ ap (nat_le (length gs)) (sym last) ∙ sym (entries_end ds gs c.loop-k.k (omega (arith, last))) ∙ c.loop-k.invariant
