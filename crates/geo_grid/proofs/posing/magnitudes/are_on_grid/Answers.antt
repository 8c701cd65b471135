use Rattle.std.proofs.Common.{◌∙◌, inl, inr, ap, get_or, pos, refl, unsigned_abs, FitsSigned, rules, arith}
use Rattle.std.specs.Int.{w64}
use Rattle.std.proofs.lemmas.Bool.{cases_eq}
use Rattle.std.proofs.lemmas.Int.{to_z-of_z}
use Rattle.geo_grid.proofs.posing.magnitudes.are_on_grid.Goals as goal

pub loop-k-preserved : goal.loop-k-preserved
loop-k-preserved c j from below =
    elim (cases_eq j c.loop-k.k) [
      | inl e ↦ (let fits : FitsSigned w64 (get_or c.args.values.now c.loop-k.k (pos 0)) = search rules in
          rw e (omega (arith, c.unsigned_abs.ensures.value ∙ ap unsigned_abs (to_z-of_z w64 (get_or c.args.values.now c.loop-k.k (pos 0)) fits), c.magnitude_of.ensures, c.if-unsigned_abs-magnitude_of.false)))
      | inr ne ↦ c.loop-k.invariant j from (omega arith)
    ]

pub returns : goal.returns
returns c = (λ t k from within. c.loop-k.invariant k from (omega (arith, within, c.loop-k-test.false, c.requires)), λ h. refl)
