-- A certificate that is printed, and that it is true in the sketch of its own elements where
-- its verdict is.
use Rattle.std.proofs.Common.{◌≡◌, ◌∙◌, sym, ap, subst, refl, ℕ, ◌++◌, Option, List, [], ◌∷◌}
use Rattle.std.proofs.lemmas.List.{append-nil}
use Rattle.geo_sketch.specs.declared.elements.Element.{Element}
use Rattle.geo_sketch.specs.declared.statements.Statement.{Statement}
use Rattle.geo_sketch.specs.declared.verdicts.Verdict.{Verdict}
use Rattle.geo_sketch.specs.declared.verdicts.Verdict.TheVariants.{Proved, False, Unsettled}
use Rattle.geo_sketch.specs.Assignments.{assignment_of}
use Rattle.geo_sketch.specs.Sketches.{Drawing, IsDrawn}
use Rattle.geo_triple.specs.Zero.{AreZero}
use Rattle.geo_sketch.proofs.NeededParts.{needed_holds, needed_parts}
use Rattle.geo_sketch.proofs.SketchLaws.{constructed}
use Rattle.geo_cert.specs.Making.{certificate_by}
use Rattle.geo_session.specs.declared.desk.Desk.{Desk}
use Rattle.geo_session.specs.declared.state.Reply.TheVariants as reply
use Rattle.geo_session.specs.Answers.{State, drawing_of, replied}
use Rattle.geo_session.specs.Printed.{IsTruePiece, bytes_of, certified_piece, piece_by}
use Rattle.geo_session.specs.Standing.{Gives, IsAt}
use Rattle.geo_session.specs.Truth.{IsTrue}
use Rattle.geo_view.specs.Sights.{Sight}

pub piece_true : (drawing : Drawing) (s : Statement) (r : Verdict) → IsDrawn drawing → IsTrue drawing.elements s r → IsTruePiece (piece_by drawing.elements s r (certificate_by drawing.elements s r))
piece_true drawing s Proved drawn h = (h, (needed_holds drawing.elements (constructed drawing drawn) s).1 h)
piece_true drawing s (False values) drawn h = (h, λ others zeros. h others (subst AreZero (needed_parts drawing.elements (constructed drawing drawn) s (assignment_of (values ++ others))) zeros))
piece_true drawing s (Unsettled past) drawn h = h

-- its line was printed, and nothing changed
pub certified_given : {W : Type 0} (shows : W → List (Option Sight)) (old new : Desk W) (s : Statement) (before after : List ℕ) → new.sketch ≡ old.sketch → new.history ≡ old.history → new.views ≡ old.views → new.count ≡ old.count → after ≡ before ++ bytes_of (certified_piece old.sketch.elements s)
    → (state : State) → IsAt shows old state → Gives (replied state (certified_piece (drawing_of state).elements s ∷ [])) reply.Accepted before after (IsAt shows new)
certified_given shows old new s before after sketch history wall count written state stands =
    let elements : old.sketch.elements ≡ (drawing_of state).elements = ap (λ (d : Drawing). d.elements) stands.sketch in
    record {
      reply_is = refl;
      appends = written ∙ ap (λ (es : List Element). before ++ bytes_of (certified_piece es s)) elements ∙ ap (λ (l : List ℕ). before ++ l) (sym (append-nil (bytes_of (certified_piece (drawing_of state).elements s))));
      stands = record {
        sketch = sketch ∙ stands.sketch;
        done = ap (λ h. h.done) history ∙ stands.done;
        undone = ap (λ h. h.undone) history ∙ stands.undone;
        views = ap (λ w. shows w) wall ∙ stands.views;
        count = count ∙ stands.count;
      };
    }
