-- What is made of the lines to come, each of which may be a certificate, and what that is for the whole program.
use Rattle.std.proofs.Common.{◌≡◌, ◌∙◌, sym, ap, subst, refl, ℕ, ◌++◌, Bool, false, ◌||◌, Option, List, [], ◌∷◌, take, map, append-nil}
use Rattle.std.specs.Io.KnownBytes.{Appends}
use Rattle.std.proofs.lemmas.Grind.{flat_map-append}
use Rattle.std.proofs.lemmas.List.Folds.{list_any-append}
use Rattle.geo_checker.specs.Answers.{Answered, answer_text, answered, answers_to, has_invalid, is_invalid, text_of}
use Rattle.geo_checker.specs.Truth.{AreRight}
use Rattle.geo_io.specs.Lines.{lines_of, whole_lines_of}
use Rattle.geo_io.specs.Pieces.{AppendsFront}
use Rattle.geo_view.specs.declared.shown.ViewKind.{ViewKind}
use Rattle.geo_app.specs.Checking.{check_course}
use Rattle.geo_app.specs.Courses.{Course, Takes, IsCarriedOut, IsLastReply, IsReplied}
use Rattle.geo_app.specs.declared.program.Outcome.{Outcome}
use Rattle.geo_app.specs.declared.task.Task.TheVariants.{Check}
use Rattle.geo_app.specs.Outcomes.{Headline}

text_first : (line : List ℕ) (lines : List (List ℕ)) → text_of (answered (line ∷ lines)) ≡ text_of (answers_to line) ++ text_of (answered lines)
text_first line lines = flat_map-append (λ (a : Answered). answer_text a.answer) (answers_to line) (answered lines)

invalid_first : (line : List ℕ) (lines : List (List ℕ)) → has_invalid (answered (line ∷ lines)) ≡ (has_invalid (answers_to line) || has_invalid (answered lines))
invalid_first line lines = list_any-append (λ (a : Answered). is_invalid a.answer) (answers_to line) (answered lines)

takes_line : (line : List ℕ) (invalid : Bool) → invalid ≡ has_invalid (answers_to line) → Takes check_course check_course line invalid (text_of (answers_to line))
takes_line line invalid is = record {
  text = λ lines. text_first line lines;
  meanwhile = λ lines. text_first line lines;
  refuses = λ lines. invalid_first line lines ∙ ap (λ b. b || has_invalid (answered lines)) (sym is);
  silent = refl;
}

-- a line was checked
pub line_checked : (line before after : List ℕ) (invalid : Bool) → after ≡ before ++ text_of (answers_to line) → invalid ≡ has_invalid (answers_to line)
    → (course : Course) → course ≡ check_course → IsReplied (λ (c : Course). c ≡ check_course) course line invalid before after
line_checked line before after invalid appends is course goes =
    let text = text_of (answers_to line) in (
      check_course,
      refl,
      (text, appends, subst (λ (c : Course). Takes c check_course line invalid text) (sym goes) (takes_line line invalid is)),
    )

-- at the end nothing more is written
pub over : (held : List ℕ) (course : Course) → course ≡ check_course → IsLastReply course false held held
over held course goes = (sym (append-nil held) ∙ ap (λ l. held ++ l) (sym (ap (λ (c : Course). c.text []) goes)), sym (ap (λ (c : Course). c.refuses []) goes))

-- what was made of lines that were cut is what the lines make
pub certificates_checked : (kinds : List ViewKind) (workers : ℕ) (outcome : Outcome) (taken : List ℕ) (left before after : Option (List ℕ)) → IsCarriedOut check_course 65537 outcome taken left before after
    → ((lines : List (List ℕ)) → text_of (answered (map (take 65537) lines)) ≡ text_of (answered lines)) → ((lines : List (List ℕ)) → has_invalid (answered (map (take 65537) lines)) ≡ has_invalid (answered lines)) → AreRight (answered (lines_of taken))
    → Headline kinds Check workers outcome taken left before after
certificates_checked kinds workers outcome taken left before after carried alike invalid_alike right =
    let text = alike (lines_of taken) ∙ sym (append-nil (text_of (answered (lines_of taken)))) in
    let whole = alike (whole_lines_of taken) in
    let invalid = invalid_alike (lines_of taken) in record {
      answered = λ a.
          let all = carried.answered a in
          (all.0, subst (λ (l : List ℕ). Appends before after l) text all.1, (λ e. sym invalid ∙ all.2.0 e, λ e. all.2.1 (invalid ∙ e)));
      stopped = λ s. subst (λ (l : List ℕ). AppendsFront before after l) text (carried.stopped s);
      read_fault = λ e. subst (λ (l : List ℕ). Appends before after l) whole (carried.read_fault e);
      too_long = carried.too_long;
      true_verdicts = (tt, tt);
      right_answers = right;
    }
