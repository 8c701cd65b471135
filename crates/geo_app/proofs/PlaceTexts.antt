-- What a script writes, line by line.
use Rattle.std.proofs.Common.{◌≡◌, ◌∙◌, refl, ap, ℕ, ◌++◌, Bool, true, false, ◌||◌, List, [], ◌∷◌}
use Rattle.std.proofs.lemmas.Grind.{flat_map-append}
use Rattle.geo_session.specs.Answers.{has_refusal, printed_from}
use Rattle.geo_session.specs.Printed.{bytes_of, text_of}
use Rattle.geo_script.specs.Places.{Place, given_at, place_after, printed_at, refuses_at}
use Rattle.geo_script.proofs.PlaceLaws.{printed_next}
use Rattle.geo_app.specs.Steps.{reply_text}

-- the replies to a line, and to those that follow
pub reply_first : (place : Place) (line : List ℕ) (lines : List (List ℕ)) → text_of (printed_at place (line ∷ lines)) ≡ reply_text place line ++ text_of (printed_at (place_after place line) lines)
reply_first place line lines = ap text_of (printed_next place line lines) ∙ flat_map-append bytes_of (printed_from place.state (given_at place line)) (printed_at (place_after place line) lines)

pub no_reply : (place : Place) → text_of (printed_at place []) ≡ []
unfolding printed_from
no_reply place = refl

pub none_refused : (place : Place) → refuses_at place [] ≡ false
unfolding has_refusal
none_refused place = refl

pub or_assoc : (a b c : Bool) → (a || (b || c)) ≡ ((a || b) || c)
or_assoc true b c = refl
or_assoc false b c = refl

pub or_false : (b : Bool) → (b || false) ≡ b
or_false true = refl
or_false false = refl
