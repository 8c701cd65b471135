-- A generated script that was counted as far as some line.
use Rattle.std.proofs.Common.{◌≡◌, ◌∙◌, sym, ap, refl, ℕ, ◌+◌, ◌≤◌, ◌<◌, ◌++◌, Bool, true, false, cond, Option, List, [], ◌∷◌, length, append_assoc, arith}
use Rattle.std.specs.Prelude.{codes}
use Rattle.std.specs.List.{count_by}
use Rattle.std.proofs.lemmas.List.{append-nil}
use Rattle.std.proofs.lemmas.List.Sums.{sum_by-cons}
use Rattle.geo_io.specs.Lines.{lines_of}
use Rattle.geo_io.specs.Pieces.{AppendsFront}
use Rattle.geo_view.specs.Sights.{Sight}
use Rattle.geo_session.specs.declared.state.Session.{Session}
use Rattle.geo_session.specs.Answers.{State, start, answer_of}
use Rattle.geo_session.specs.Printed.{Text, text_of}
use Rattle.geo_session.specs.Standing.{StandsFor}
use Rattle.geo_app.specs.declared.generated.Counts.{Counts}
use Rattle.geo_app.specs.Generated.{Answered, answered_from, is_ok, is_bad, ledger_part, ledger_text, lines_that_begin, tally_of}
use Rattle.geo_app.specs.Counting.{IsCounted, answered, one_more_if}

-- the answers to the lines of some bytes
abbrev pub answered_to : State → List ℕ → List Answered
answered_to state bytes = answered_from state (lines_of bytes)

-- so many of them were counted, and those of the rest are left
pub record Counted (all left : List Answered) (counts : Counts) : Type 0 where
  pub lines : counts.lines + length left ≡ length all
  pub ok : counts.ok + count_by is_ok left ≡ count_by is_ok all
  pub refused : counts.refused + count_by is_bad left ≡ count_by is_bad all
  pub ledger : counts.ledger.items ++ ledger_text left ≡ ledger_text all
  pub few_ok : counts.ok ≤ counts.lines
  pub few_refused : counts.refused ≤ counts.lines

-- and the session stands for the state of the first line that is left
pub record Tallied {W : Type 0} (shows : W → List (Option Sight)) (bytes rest : List ℕ) (counts : Counts) (session : Session W) : Type 0 where
  pub state : State
  pub stands : StandsFor shows session state
  pub counted : Counted (answered_to (start []) bytes) (answered_to state rest) counts
  pub room : counts.lines + length rest ≤ length bytes

-- a line counted is one less that is left
more_counted : {X : Type 0} (p : X → Bool) (x : X) (left : List X) (count after all : ℕ) → after ≡ one_more_if (p x) count → count + count_by p (x ∷ left) ≡ all → after + count_by p left ≡ all
more_counted p x left count after all e h = by_case (p x) e (sum_by-cons (λ y. cond (p y) 1 0) x left)
  where
    by_case : (b : Bool) → after ≡ one_more_if b count → count_by p (x ∷ left) ≡ cond b 1 0 + count_by p left → after + count_by p left ≡ all
    by_case true e s = omega (arith, e, s, h)
    by_case false e s = omega (arith, e, s, h)

more_if_most : (b : Bool) (count after lines : ℕ) → after ≡ one_more_if b count → count ≤ lines → after ≤ lines + 1
more_if_most true count after lines e few = omega (arith, e, few)
more_if_most false count after lines e few = omega (arith, e, few)

pub one_counted : {W : Type 0} (shows : W → List (Option Sight)) (all left : List Answered) (state : State) (line : List ℕ) (before after : Counts) (session : Session W) → Counted all (answered state line ∷ left) before → IsCounted shows state line before after session → Counted all left after
one_counted shows all left state line before after session c i =
    let a = answered state line in record {
      lines = omega (arith, c.lines, i.lines);
      ok = more_counted is_ok a left before.ok after.ok _ i.ok c.ok;
      refused = more_counted is_bad a left before.refused after.refused _ i.refused c.refused;
      ledger = ap (λ l. l ++ ledger_text left) i.ledger ∙ append_assoc before.ledger.items (ledger_part a) (ledger_text left) ∙ c.ledger;
      few_ok = rw i.lines (more_if_most (is_ok a) before.ok after.ok before.lines i.ok c.few_ok);
      few_refused = rw i.lines (more_if_most (is_bad a) before.refused after.refused before.lines i.refused c.few_refused);
    }

-- the first line that is left
next_left : (state : State) (rest line after : List ℕ) → lines_of rest ≡ line ∷ lines_of after → answered_to state rest ≡ answered state line ∷ answered_to (answer_of state line).next after
unfolding answered_from
next_left state rest line after cut = ap (answered_from state) cut

pub line_tallied : {W : Type 0} (shows : W → List (Option Sight)) (bytes rest line after : List ℕ) (before counts : Counts) (session next : Session W) → (t : Tallied shows bytes rest before session) → lines_of rest ≡ line ∷ lines_of after → length after < length rest → IsCounted shows t.state line before counts next → Tallied shows bytes after counts next
line_tallied shows bytes rest line after before counts session next t cut shorter i = record {
  state = (answer_of t.state line).next;
  stands = i.stands;
  counted = one_counted shows _ (answered_to (answer_of t.state line).next after) t.state line before counts next (rw (next_left t.state rest line after cut) at t.counted) i;
  room = omega (arith, t.room, shorter, i.lines);
}

none_left : (state : State) → answered_to state [] ≡ []
unfolding answered_from
none_left state = refl

-- no line is left
pub record IsAllCounted (all : List Answered) (counts : Counts) : Type 0 where
  pub lines : counts.lines ≡ length all
  pub ok : counts.ok ≡ count_by is_ok all
  pub refused : counts.refused ≡ count_by is_bad all
  pub ledger : counts.ledger.items ≡ ledger_text all

pub all_counted : {W : Type 0} (shows : W → List (Option Sight)) (bytes rest : List ℕ) (counts : Counts) (session : Session W) → Tallied shows bytes rest counts session → rest ≡ [] → IsAllCounted (answered_to (start []) bytes) counts
all_counted shows bytes rest counts session t none =
    let c : Counted (answered_to (start []) bytes) [] counts = rw (none, none_left t.state) at t.counted in record {
      lines = omega (arith, c.lines);
      ok = omega (arith, c.ok);
      refused = omega (arith, c.refused);
      ledger = sym (append-nil counts.ledger.items) ∙ c.ledger;
    }

-- what they come to
pub tally_is : (all : List Answered) (counts : Counts) (proved falsified unsettled : ℕ) → IsAllCounted all counts → proved ≡ lines_that_begin (codes "proved ") counts.ledger.items → falsified ≡ lines_that_begin (codes "false ") counts.ledger.items → unsettled ≡ lines_that_begin (codes "unsettled ") counts.ledger.items → record { lines = counts.lines; ok = counts.ok; refused = counts.refused; proved = proved; falsified = falsified; unsettled = unsettled } ≡ tally_of all
tally_is all counts proved falsified unsettled c p f u = rw (p, f, u, c.lines, c.ok, c.refused, c.ledger) refl

-- one piece of text, printed whole or in part
pub one_text : (before after : Option (List ℕ)) (text : List ℕ) → AppendsFront before after text → AppendsFront before after (text_of (Text text ∷ []))
one_text before after text front = rw (append-nil text) front
