-- What a script makes of the lines to come, line by line, and what that is for the whole program.
use Rattle.std.proofs.Common.{◌≡◌, ◌∙◌, sym, ap, subst, refl, ℕ, ◌++◌, Bool, false, ◌||◌, Option, List, [], take, map, append-nil}
use Rattle.std.specs.Prelude.{Result, Ok, Err, IfOk}
use Rattle.std.specs.Io.KnownBytes.{Appends}
use Rattle.geo_io.specs.Lines.{lines_of, whole_lines_of}
use Rattle.geo_io.specs.Pieces.{AppendsFront}
use Rattle.geo_view.specs.declared.shown.ViewKind.{ViewKind}
use Rattle.geo_view.specs.Sights.{Sight}
use Rattle.geo_session.specs.Printed.{AreTrue, text_of}
use Rattle.geo_sketch.specs.declared.changes.NoMemory.{NoMemory}
use Rattle.geo_script.specs.declared.script.Script.{Script}
use Rattle.geo_session.specs.Standing.{StandsFor}
use Rattle.geo_script.specs.Places.{AreCarriedOut, Place, StandsAt, beginning, given_at, place_after, printed_at, refuses_at}
use Rattle.geo_script.proofs.PlaceLaws.{refuses_next}
use Rattle.geo_app.specs.declared.program.Outcome.{Outcome}
use Rattle.geo_app.specs.declared.task.Task.TheVariants.{Run}
use Rattle.geo_app.specs.Courses.{Course, Takes, IsCarriedOut, IsLastReply, IsReplied}
use Rattle.geo_app.specs.Outcomes.{Headline}
use Rattle.geo_app.specs.Output.{printed}
use Rattle.geo_app.specs.Scripts.{ScriptGoes, script_course}
use Rattle.geo_app.specs.Steps.{reply_text, reply_refuses}
use Rattle.geo_app.proofs.PlaceTexts.{no_reply, none_refused, reply_first}

pub silent : (place : Place) → (script_course place).meanwhile [] ≡ []
silent place = no_reply place

takes_line : (place : Place) (line : List ℕ) (refused : Bool) → refused ≡ reply_refuses place line → Takes (script_course place) (script_course (place_after place line)) line refused (reply_text place line)
takes_line place line refused is = record {
  text = λ lines. reply_first place line lines;
  meanwhile = λ lines. reply_first place line lines;
  refuses = λ lines. refuses_next place line lines ∙ ap (λ b. b || refuses_at (place_after place line) lines) (sym is);
  silent = no_reply (place_after place line);
}

-- a line was carried out
pub line_taken : {W : Type 0} (shows : W → List (Option Sight)) (script script' : Script W) (refused : Bool) (line before after : List ℕ) → ((place : Place) → StandsAt shows script place → AreCarriedOut place.state (given_at place line) refused before after (StandsFor shows script'.session))
    → ((place : Place) → StandsAt shows script place → StandsAt shows script' (place_after place line)) → (course : Course) → ScriptGoes shows script course → IsReplied (ScriptGoes shows script') course line refused before after
line_taken shows script script' refused line before after carried stands course (place, at, is) =
    let done = carried place at in
    let next = script_course (place_after place line) in
    let text = reply_text place line in (
      next,
      (place_after place line, stands place at, refl),
      (text, done.appends, subst (λ (c : Course). Takes c next line refused text) (sym is) (takes_line place line refused done.refuses)),
    )

-- where memory was there
pub script_taken : {W : Type 0} (shows : W → List (Option Sight)) (script script' : Script W) (line before after : List ℕ) (result : Result Bool NoMemory)
    → IfOk result (λ refused. (place : Place) → StandsAt shows script place → AreCarriedOut place.state (given_at place line) refused before after (StandsFor shows script'.session)) → IfOk result (λ refused. (place : Place) → StandsAt shows script place → StandsAt shows script' (place_after place line))
    → IfOk result (λ refused. (course : Course) → ScriptGoes shows script course → IsReplied (ScriptGoes shows script') course line refused before after)
script_taken shows script script' line before after (Ok refused) carried stands = λ course goes. line_taken shows script script' refused line before after carried stands course goes
script_taken shows script script' line before after (Err stop) carried stands = tt

-- at the end nothing more is written
pub over : {W : Type 0} (shows : W → List (Option Sight)) (script : Script W) (held : List ℕ) (course : Course) → ScriptGoes shows script course → IsLastReply course false held held
over shows script held course (place, at, is) = (
  sym (append-nil held) ∙ ap (λ l. held ++ l) (sym (ap (λ (c : Course). c.text []) is ∙ no_reply place)),
  sym (ap (λ (c : Course). c.refuses []) is ∙ none_refused place),
)

-- what was carried out of a script, whose lines were cut, is what its lines make
pub script_carried : (kinds : List ViewKind) (workers : ℕ) (outcome : Outcome) (taken : List ℕ) (left before after : Option (List ℕ)) → IsCarriedOut (script_course (beginning kinds)) 201 outcome taken left before after
    → ((lines : List (List ℕ)) → printed_at (beginning kinds) (map (take 201) lines) ≡ printed_at (beginning kinds) lines) → ((lines : List (List ℕ)) → refuses_at (beginning kinds) (map (take 201) lines) ≡ refuses_at (beginning kinds) lines) → AreTrue (printed kinds Run taken)
    → Headline kinds Run workers outcome taken left before after
script_carried kinds workers outcome taken left before after carried alike refused_alike true_verdicts =
    let text = ap text_of (alike (lines_of taken)) in
    let whole = ap text_of (alike (whole_lines_of taken)) in
    let refused = refused_alike (lines_of taken) in record {
      answered = λ a.
          let all = carried.answered a in
          (all.0, subst (λ (l : List ℕ). Appends before after l) text all.1, (λ e. sym refused ∙ all.2.0 e, λ e. all.2.1 (refused ∙ e)));
      stopped = λ s. subst (λ (l : List ℕ). AppendsFront before after l) text (carried.stopped s);
      read_fault = λ e. subst (λ (l : List ℕ). Appends before after l) whole (carried.read_fault e);
      too_long = carried.too_long;
      true_verdicts = true_verdicts;
      right_answers = tt;
    }
