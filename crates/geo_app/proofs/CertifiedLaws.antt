-- To the certificate that `certify` prints the checker answers that it is valid, with the same verdict.
use Rattle.std.proofs.Common.{◌≡◌, refl, [], ◌∷◌}
use Rattle.std.specs.Prelude.{false, Option, None, Some, Result, Ok, Err}
use Rattle.geo_sketch.specs.declared.changes.Refusal.{Refusal}
use Rattle.geo_sketch.specs.declared.statements.Statement.{Statement}
use Rattle.geo_sketch.specs.declared.verdicts.Verdict.{Verdict}
use Rattle.geo_sketch.specs.Sketches.{Drawing, IsDrawn, IsPosed}
use Rattle.geo_degree.specs.VerdictFunction.{verdict_of}
use Rattle.geo_degree.specs.Verdicts.{question_of, IsStatementVerdict}
use Rattle.geo_cert.specs.declared.certificates.Certificate.{Certificate}
use Rattle.geo_cert.specs.Making.{certificate_by}
use Rattle.geo_cert.specs.Written.{line_of}
use Rattle.geo_checker.specs.Answers.{answered, has_invalid, text_of, verdict_text}
use Rattle.geo_session.specs.Answers.{State, certified, drawing_of}
use Rattle.geo_session.specs.Printed.{piece_by}
use Rattle.geo_app.specs.Certified.{AreAnsweredAlike, IsAnsweredAlike}

-- the verdict of a statement is the one that is computed
abbrev HasVerdicts : Type 0
HasVerdicts = (drawing : Drawing) (s : Statement) → IsDrawn drawing → IsPosed drawing.elements s → IsStatementVerdict drawing.elements s (verdict_of (question_of drawing.elements s))

-- what is answered to the line of a certificate that is made of a statement's own verdict
abbrev AnswersText : Type 0
AnswersText = (drawing : Drawing) (s : Statement) (r : Verdict) (c : Certificate) → IsDrawn drawing → IsPosed drawing.elements s → IsStatementVerdict drawing.elements s r → certificate_by drawing.elements s r ≡ Some c → text_of (answered (line_of c ∷ [])) ≡ verdict_text r

abbrev Accepts : Type 0
Accepts = (drawing : Drawing) (s : Statement) (r : Verdict) (c : Certificate) → IsDrawn drawing → IsPosed drawing.elements s → IsStatementVerdict drawing.elements s r → certificate_by drawing.elements s r ≡ Some c → has_invalid (answered (line_of c ∷ [])) ≡ false

module _ (right : HasVerdicts) (text : AnswersText) (accepted : Accepts) where
  piece_alike : (drawing : Drawing) (s : Statement) (r : Verdict) → IsDrawn drawing → IsPosed drawing.elements s → IsStatementVerdict drawing.elements s r → (o : Option Certificate) → certificate_by drawing.elements s r ≡ o → IsAnsweredAlike (piece_by drawing.elements s r o)
  piece_alike drawing s r drawn posed verdict None e = tt
  piece_alike drawing s r drawn posed verdict (Some c) e = (refl, text drawing s r c drawn posed verdict e, accepted drawing s r c drawn posed verdict e)

  pub certify_alike : (state : State) → IsDrawn (drawing_of state) → (r : Result Statement Refusal) → ((s : Statement) → r ≡ Ok s → IsPosed (drawing_of state).elements s) → AreAnsweredAlike (certified state r).printed
  certify_alike state drawn (Err r) posed = (tt, tt)
  certify_alike state drawn (Ok s) posed =
      let es = (drawing_of state).elements in
      let r = verdict_of (question_of es s) in
      (piece_alike (drawing_of state) s r drawn (posed s refl) (right (drawing_of state) s drawn (posed s refl)) (certificate_by es s r) refl, tt)
