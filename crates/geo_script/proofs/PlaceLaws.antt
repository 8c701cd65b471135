-- Scripts carried out in two parts.
-- lemmas for other crates
use Rattle.std.proofs.Common.{◌≡◌, ◌∙◌, refl, sym, ap, ℕ, zero, suc, ◌+◌, ◌++◌, ◌<◌, Bool, true, false, ◌||◌, None, Some, List, [], ◌∷◌, length, take, append_assoc, arith}
use Rattle.std.specs.Prelude.{slice_get}
use Rattle.std.proofs.lemmas.Grind.{flat_map-append}
use Rattle.std.proofs.lemmas.List.{append-nil, take_more}
use Rattle.std.proofs.lemmas.Option.{get_or_from_slice_get, slice_get_within}
use Rattle.geo_session.specs.declared.state.Reply.{Reply}
use Rattle.geo_session.specs.Answers.{State, answer_of, has_refusal, is_refused, printed_from}
use Rattle.geo_session.specs.Printed.{bytes_of, text_of}
use Rattle.geo_session.specs.Standing.{Gives}
use Rattle.geo_tool.specs.Expansion.{after_line, expansion_from}
use Rattle.geo_script.specs.Places.{AreCarriedOut, Place, given_at, place_after, printed_at, refuses_at, state_after}

pub printed_both : (state : State) (front back : List (List ℕ)) → printed_from state (front ++ back) ≡ printed_from state front ++ printed_from (state_after state front) back
unfolding printed_from state_after
printed_both state [] back = refl
printed_both state (line ∷ front) back =
    let answer = answer_of state line in
    ap (λ l. answer.printed ++ l) (printed_both answer.next front back) ∙ sym (append_assoc answer.printed (printed_from answer.next front) (printed_from (state_after answer.next front) back))

or_assoc : (a b c : Bool) → (a || (b || c)) ≡ ((a || b) || c)
or_assoc true b c = refl
or_assoc false b c = refl

or_false : (b : Bool) → (b || false) ≡ b
or_false true = refl
or_false false = refl

pub refuses_both : (state : State) (front back : List (List ℕ)) → has_refusal state (front ++ back) ≡ (has_refusal state front || has_refusal (state_after state front) back)
unfolding has_refusal state_after
refuses_both state [] back = refl
refuses_both state (line ∷ front) back =
    let answer = answer_of state line in
    ap (λ b. is_refused answer.reply || b) (refuses_both answer.next front back) ∙ or_assoc (is_refused answer.reply) (has_refusal answer.next front) (has_refusal (state_after answer.next front) back)

pub state_both : (state : State) (front back : List (List ℕ)) → state_after state (front ++ back) ≡ state_after (state_after state front) back
unfolding state_after
state_both state [] back = refl
state_both state (line ∷ front) back = state_both (answer_of state line).next front back

-- one line
printed_one : (state : State) (line : List ℕ) → printed_from state (line ∷ []) ≡ (answer_of state line).printed
unfolding printed_from
printed_one state line = append-nil (answer_of state line).printed

refuses_one : (state : State) (line : List ℕ) → has_refusal state (line ∷ []) ≡ is_refused (answer_of state line).reply
unfolding has_refusal
refuses_one state line = or_false (is_refused (answer_of state line).reply)

state_one : (state : State) (line : List ℕ) → state_after state (line ∷ []) ≡ (answer_of state line).next
unfolding state_after
state_one state line = refl

pub none_carried : (state : State) (held : List ℕ) (Stands : State → Type 0) → Stands state → AreCarriedOut state [] false held held Stands
unfolding printed_from has_refusal state_after
none_carried state held Stands stands = record { appends = sym (append-nil held); refuses = refl; stands = stands }

-- one line more
pub one_carried : (state : State) (lines : List (List ℕ)) (line : List ℕ) (refused : Bool) (reply : Reply) (before held after : List ℕ) (Stood Stands : State → Type 0)
    → AreCarriedOut state lines refused before held Stood → Gives (answer_of (state_after state lines) line) reply held after Stands → AreCarriedOut state (lines ++ line ∷ []) (refused || is_refused reply) before after Stands
one_carried state lines line refused reply before held after Stood Stands c g =
    let next = state_after state lines in
    let one = (answer_of next line).printed in record {
      appends = g.appends ∙ ap (λ h. h ++ text_of one) c.appends ∙ append_assoc before (text_of (printed_from state lines)) (text_of one)
          ∙ ap (λ t. before ++ t) (sym (flat_map-append bytes_of (printed_from state lines) one) ∙ ap (λ p. text_of (printed_from state lines ++ p)) (sym (printed_one next line)) ∙ ap text_of (sym (printed_both state lines (line ∷ []))));
      refuses = ap (λ r. refused || is_refused r) g.reply_is ∙ ap (λ b. b || is_refused (answer_of next line).reply) c.refuses ∙ ap (λ b. has_refusal state lines || b) (sym (refuses_one next line)) ∙ sym (refuses_both state lines (line ∷ []));
      stands = rw (state_both state lines (line ∷ []), state_one next line) g.stands;
    }

-- a place within a list has something
pub found_within : {X : Type 0} (xs : List X) (k : ℕ) → k < length xs → slice_get xs k ≡ None → ⊥
found_within [] k within e = omega (arith, within)
found_within (x ∷ xs) zero within e = absurd (cc)
found_within (x ∷ xs) (suc k) within e = found_within xs k (omega (arith, within)) e

-- the lines before a place and the one there
pub one_longer : (lines : List (List ℕ)) (k : ℕ) (line : List ℕ) → slice_get lines k ≡ Some line → take (k + 1) lines ≡ take k lines ++ line ∷ []
one_longer lines k line found =
    take_more lines k line (slice_get_within lines k line found) ∙ ap (λ l. take k lines ++ l ∷ []) (get_or_from_slice_get lines k line line found)

-- the first line of an expansion, and the others
pub printed_next : (place : Place) (line : List ℕ) (lines : List (List ℕ)) → printed_at place (line ∷ lines) ≡ printed_from place.state (given_at place line) ++ printed_at (place_after place line) lines
printed_next place line lines = printed_both place.state (given_at place line) (expansion_from (after_line place.bench line) lines)

pub refuses_next : (place : Place) (line : List ℕ) (lines : List (List ℕ)) → refuses_at place (line ∷ lines) ≡ (has_refusal place.state (given_at place line) || refuses_at (place_after place line) lines)
refuses_next place line lines = refuses_both place.state (given_at place line) (expansion_from (after_line place.bench line) lines)
