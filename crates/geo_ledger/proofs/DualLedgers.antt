-- Where all kinds are exchanged, the ledger stays.
use Rattle.std.proofs.Common.{◌≡◌, ◌∙◌, sym, true, false, Bool, List, ◌++◌, map}
use Rattle.std.specs.Prelude.{filter, not}
use Rattle.geo_sketch.specs.declared.changes.Delta.TheVariants as delta
use Rattle.geo_sketch.specs.declared.elements.Element.{Element}
use Rattle.geo_sketch.specs.declared.statements.Statement.{Statement}
use Rattle.geo_sketch.specs.Changes.{applied, exchanged}
use Rattle.geo_sketch.specs.Claims.{is_claimed}
use Rattle.geo_sketch.specs.Sketches.{Drawing, IsDrawn}
use Rattle.geo_sketch.proofs.DualLaws.{computed_exchanged, dual_drawn}
use Rattle.geo_sketch.proofs.SketchLaws.{constructed}
use Rattle.geo_sketch.proofs.StatementLaws.{at_all}
use Rattle.geo_degree.specs.VerdictFunction.{verdict_of}
use Rattle.geo_degree.specs.Verdicts.{question_of}
use Rattle.geo_guess.specs.Conjectures.{conjectures_of}
use Rattle.geo_ledger.specs.Ledgers.{further_claims, ledger_of}
use Rattle.geo_ledger.proofs.SameQuestions.{by_all, verdict_same, AreSame}

module _ (drawing : Drawing) (drawn : IsDrawn drawing) where
  verdict_exchanged : (s : Statement) → verdict_of (question_of (map exchanged drawing.elements) s) ≡ verdict_of (question_of drawing.elements s)
  verdict_exchanged s =
      let es = drawing.elements in
      let fs = map exchanged es in
      verdict_same fs es (constructed (applied drawing delta.Dual) (dual_drawn _ _ _ drawn)) (constructed drawing drawn) s (at_all (AreSame fs es) s (λ n. by_all fs es n (λ X A. computed_exchanged A es n)))

  pub ledger_exchanged : conjectures_of (map exchanged drawing.elements) ≡ conjectures_of drawing.elements → ledger_of (applied drawing delta.Dual) ≡ ledger_of drawing
  ledger_exchanged conjectures =
      λ i. map (λ (line : Statement × Bool). record { statement = line.0; guessed = line.1; verdict = verdict_exchanged line.0 i })
      (map (λ s. (s, true)) (conjectures i) ++ map (λ s. (s, false)) (filter (λ s. not (is_claimed (conjectures i) s)) drawing.claims))
