-- One line of a script carried out.
use Rattle.std.specs.Prelude.{ℕ, Bool, List}
use Rattle.geo_session.specs.Answers.{has_refusal, printed_from}
use Rattle.geo_session.specs.Printed.{text_of}
use Rattle.geo_script.specs.Places.{Place, given_at}

-- the replies to what a line gives
abbrev pub reply_text : Place → List ℕ → List ℕ
reply_text place line = text_of (printed_from place.state (given_at place line))

-- whether one of them is a refusal
abbrev pub reply_refuses : Place → List ℕ → Bool
reply_refuses place line = has_refusal place.state (given_at place line)
