-- Kept verdicts through a change that a sketch has followed.
use Rattle.std.proofs.Common.{◌≡◌, ◌∙◌, sym, ap, subst, refl, ℕ, Option, List}
use Rattle.std.specs.Prelude.{Bool, true, false}
use Rattle.geo_sketch.specs.declared.changes.Delta.{Delta}
use Rattle.geo_sketch.specs.declared.statements.Statement.{Statement}
use Rattle.geo_sketch.specs.declared.verdicts.Verdict.{Verdict}
use Rattle.geo_sketch.specs.Changes.{applied, taken_back, LeadsFrom, LeadsTo}
use Rattle.geo_sketch.specs.Sketches.{Drawing, IsDrawn}
use Rattle.geo_sketch.proofs.ChangeLaws.{taken_applied}
use Rattle.geo_eval.specs.Scenes.{Leads, before_of}
use Rattle.geo_ledger.specs.Changes.{kept_without, leaving}
use Rattle.geo_ledger.specs.Ledgers.{AreKept}

module _
    (done : (drawing : Drawing) (d : Delta) (kept : List (Statement × Verdict)) → IsDrawn drawing → LeadsFrom drawing d → AreKept drawing kept → AreKept (applied drawing d) (kept_without (leaving d true) kept))
    (back : (drawing : Drawing) (d : Delta) (kept : List (Statement × Verdict)) → IsDrawn drawing → LeadsTo drawing d → AreKept drawing kept → AreKept (taken_back drawing d) (kept_without (leaving d false) kept))
    (drawing : Drawing) (drawn : IsDrawn drawing) where
  -- those that name an element that left are let go
  followed : (d : Delta) (forward : Bool) (kept : List (Statement × Verdict)) → Leads drawing d forward → AreKept (before_of drawing d forward) kept → AreKept drawing (kept_without (leaving d forward) kept)
  followed d true kept leads right =
      let before = taken_back drawing d in
      let from : before ≡ leads.before = ap (λ (k : Drawing). taken_back k d) (sym leads.gives) ∙ taken_applied leads.before d leads.drawn leads.leads in
      let same : applied before d ≡ drawing = ap (λ (k : Drawing). applied k d) from ∙ leads.gives in
      let before_drawn : IsDrawn before = subst (λ (k : Drawing). IsDrawn k) (sym from) leads.drawn in
      let leads_from : LeadsFrom before d = subst (λ (k : Drawing). LeadsFrom k d) (sym from) leads.leads in
      subst (λ (k : Drawing). AreKept k (kept_without (leaving d true) kept)) same (done before d kept before_drawn leads_from right)
  followed d false kept leads right =
      let after = applied drawing d in
      let same : taken_back after d ≡ drawing = taken_applied drawing d drawn leads in
      let leads_to : LeadsTo after d = record { before = drawing; drawn = drawn; leads = leads; gives = refl } in
      subst (λ (k : Drawing). AreKept k (kept_without (leaving d false) kept)) same (back after d kept leads.drawn leads_to right)

  -- which element leaves is known
  pub followed_without : (d : Delta) (forward : Bool) (kept : List (Statement × Verdict)) (o : Option ℕ) → leaving d forward ≡ o → Leads drawing d forward → AreKept (before_of drawing d forward) kept → AreKept drawing (kept_without o kept)
  followed_without d forward kept o is leads right = subst (λ (p : Option ℕ). AreKept drawing (kept_without p kept)) is (followed d forward kept leads right)
