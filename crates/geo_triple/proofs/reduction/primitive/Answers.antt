use Rattle.std.proofs.Common.{◌≡◌, None, Some, rules, le_trans, ap, ◌∙◌, sym, refl, of_z}
use Rattle.std.specs.Int.{w128}
use Rattle.geo_triple.specs.Primitive.{primitive_of}
use Rattle.geo_triple.proofs.Sizes.{a-size, b-size, c-size}
use Rattle.geo_triple.proofs.Readings.{abs_read, by_divisor, quotient_read, zero_read}
use Rattle.geo_triple.proofs.Primitives.{none_at_zero, some_at_nonzero, is-primitive, none_iff_zero}
use Rattle.geo_triple.proofs.reduction.primitive.Goals as goal

pub divisor-by-requires-clause-a_small : goal.divisor-by-requires-clause-a_small
divisor-by-requires-clause-a_small c = abs_read c.args.t.now.a (le_trans (a-size c.args.t.now) c.requires)

pub divisor-by-requires-clause-b_small : goal.divisor-by-requires-clause-b_small
divisor-by-requires-clause-b_small c = abs_read c.args.t.now.b (le_trans (b-size c.args.t.now) c.requires)

pub divisor-by-requires-clause-c_small : goal.divisor-by-requires-clause-c_small
divisor-by-requires-clause-c_small c = abs_read c.args.t.now.c (le_trans (c-size c.args.t.now) c.requires)

none_then : (c : goal.Then-by-eq0) → primitive_of c.args.t.now ≡ None
none_then c =
    none_at_zero c.args.t.now (sym (by_divisor c.args.t.now c.requires c.divisor-by.ensures) ∙ zero_read (search rules) c.if-by-eq0.true)

pub returns-then-by-eq0-clause-value : goal.returns-then-by-eq0-clause-value
returns-then-by-eq0-clause-value c = sym (none_then c)

pub returns-then-by-eq0-clause-none_for_zero : goal.returns-then-by-eq0-clause-none_for_zero
returns-then-by-eq0-clause-none_for_zero c = (λ e. (none_iff_zero c.args.t.now).0 (none_then c), λ e. refl)

pub quotient-requires-clause-small : goal.quotient-requires-clause-small
quotient-requires-clause-small c = abs_read c.args.t.now.a (le_trans (a-size c.args.t.now) c.requires)

pub quotient-requires-2-clause-small : goal.quotient-requires-2-clause-small
quotient-requires-2-clause-small c = abs_read c.args.t.now.b (le_trans (b-size c.args.t.now) c.requires)

pub quotient-requires-3-clause-small : goal.quotient-requires-3-clause-small
quotient-requires-3-clause-small c = abs_read c.args.t.now.c (le_trans (c-size c.args.t.now) c.requires)

pub returns-clause-value : goal.returns-clause-value
returns-clause-value c =
    let t = c.args.t.now in
    let is_divisor = by_divisor t c.requires c.divisor-by.ensures in
    let reduced =
    quotient_read t c.requires c.divisor-by.ensures c.quotient.ensures c.quotient-2.ensures c.quotient-3.ensures (search rules) (search rules) (search rules) (search rules)
    in
    ap Some reduced ∙ sym (some_at_nonzero t (λ e. c.if-by-eq0.false (ap (of_z w128) (is_divisor ∙ e))))

pub returns-clause-primitive : goal.returns-clause-primitive
returns-clause-primitive c = is-primitive c.args.t.now _ (sym (returns-clause-value c))

pub returns-clause-none_for_zero : goal.returns-clause-none_for_zero
returns-clause-none_for_zero c =
    (λ e. absurd (cc), λ e. let none = (none_iff_zero c.args.t.now).1 e in let value = returns-clause-value c in absurd (cc))
