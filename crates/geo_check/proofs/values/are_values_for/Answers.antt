use Rattle.std.proofs.Common.{◌≡◌, ◌∙◌, ◌+◌, sym, ap, length, drop, get_or, arith}
use Rattle.std.specs.Prelude.{◌&&◌, is_none, slice_get}
use Rattle.std.proofs.lemmas.Bool.{eq-eqb, ne_eqb}
use Rattle.geo_check.specs.Grids.{are_values_for}
use Rattle.geo_check.proofs.FaultLaws.{none_is}
use Rattle.geo_check.proofs.ValueLaws.{values_end, values_gone, values_here}
use Rattle.geo_check.proofs.values.are_values_for.Goals as goal

pub returns-then-q-p : goal.returns-then-q-p
returns-then-q-p c =
    let ps = c.args.parameters.now in
    let vs = c.args.values.now in
    let k = c.loop-k.k in
    let rest = are_values_for (drop (k + 1) ps) (drop (k + 1) vs) in
    sym (values_here ps vs k 0 (c.in-Some.q, c.in-Some.field-0-1) c.loop-k-test.true (sym c.get.ensures ∙ c.in-Some.is) ∙ ap (λ b. b && rest) (ne_eqb c.in-Some.q (get_or ps k 0) c.if-q-p.true)) ∙ c.loop-k.invariant

pub returns-in-None : goal.returns-in-None
returns-in-None c = sym (values_gone c.args.parameters.now c.args.values.now c.loop-k.k 0 c.loop-k-test.true (sym c.get.ensures ∙ c.in-None.is)) ∙ c.loop-k.invariant

pub loop-k-preserved : goal.loop-k-preserved
loop-k-preserved c =
    let ps = c.args.parameters.now in
    let vs = c.args.values.now in
    let k = c.loop-k.k in
    let rest = are_values_for (drop (k + 1) ps) (drop (k + 1) vs) in
    sym (values_here ps vs k 0 (c.in-Some.q, c.in-Some.field-0-1) c.loop-k-test.true (sym c.get.ensures ∙ c.in-Some.is) ∙ ap (λ b. b && rest) (eq-eqb c.in-Some.q (get_or ps k 0) c.if-q-p.false)) ∙ c.loop-k.invariant

pub returns : goal.returns
returns c =
    let ps = c.args.parameters.now in
    let vs = c.args.values.now in
    let k = c.loop-k.k in
    let last : c.loop-k.k ≡ length c.args.parameters.now = omega (arith, c.loop-k-test.false, c.loop-k.auto.k-end) in
    sym (none_is c.get-2.result c.is_none.result c.is_none.ensures) ∙ ap is_none (c.get-2.ensures ∙ ap (slice_get vs) (sym last)) ∙ sym (values_end ps vs k (omega (arith, last))) ∙ c.loop-k.invariant
