-- What is made of the lines of an input, one after the other.
use Rattle.std.specs.Prelude.{◌≡◌, ℕ, ◌^◌, ◌<◌, ◌↔◌, ◌||◌, Bool, true, Option, List, [], ◌∷◌, ◌++◌, length, take, map}
use Rattle.std.specs.Io.KnownBytes.{Appends, IsAtEnd}
use Rattle.geo_io.specs.declared.ends.LineEnd.{LineEnd}
use Rattle.geo_io.specs.declared.ends.LineEnd.TheVariants as source
use Rattle.geo_io.specs.declared.ends.SinkEnd.{SinkEnd}
use Rattle.geo_io.specs.declared.ends.SinkEnd.TheVariants as sink
use Rattle.geo_io.specs.Lines.{cut_lines_of, whole_lines_of}
use Rattle.geo_io.specs.Pieces.{AppendsFront}
use Rattle.geo_app.specs.declared.program.Outcome.{Outcome}
use Rattle.geo_app.specs.declared.program.Outcome.TheVariants.{SomeRefused, ReadFault, WriteFault, TooLong, NoMemory}
use Rattle.geo_app.specs.Outcomes.{IsAnswered, IsStopped}
use Rattle.geo_io.specs.declared.limits.TheConstants.{INPUT_LIMIT}

-- what is written for lines and then for the end of the input, what is written for them while more may follow, and whether
-- one of them is refused
pub record Course : Type 0 where
  pub text : List (List ℕ) → List ℕ
  pub meanwhile : List (List ℕ) → List ℕ
  pub refuses : List (List ℕ) → Bool

-- a line was taken, these bytes were written for it, and it is told whether something in them is a refusal
pub record Takes (before after : Course) (line : List ℕ) (refused : Bool) (written : List ℕ) : Type 0 where
  pub text : (lines : List (List ℕ)) → before.text (line ∷ lines) ≡ written ++ after.text lines
  pub meanwhile : (lines : List (List ℕ)) → before.meanwhile (line ∷ lines) ≡ written ++ after.meanwhile lines
  pub refuses : (lines : List (List ℕ)) → before.refuses (line ∷ lines) ≡ (refused || after.refuses lines)
  pub silent : after.meanwhile [] ≡ []

-- what is written for a line was put behind some bytes, and what is to come is what goes on
abbrev pub IsReplied : (Course → Type 0) → Course → List ℕ → Bool → List ℕ → List ℕ → Type 0
IsReplied Goes course line refused before after = (next : Course) × Goes next × ((written : List ℕ) × (after ≡ before ++ written) × Takes course next line refused written)

-- and so was what is written at the end of the input
abbrev pub IsLastReply : Course → Bool → List ℕ → List ℕ → Type 0
IsLastReply course refused before after = (after ≡ before ++ course.text []) × (refused ≡ course.refuses [])

-- the lines among the bytes that were taken, each cut to `limit` bytes, were carried out: to the end, or up to a stop
pub record IsCarriedOut (course : Course) (limit : ℕ) (outcome : Outcome) (taken : List ℕ) (left before after : Option (List ℕ)) : Type 0 where
  pub answered : IsAnswered outcome → IsAtEnd left × Appends before after (course.text (cut_lines_of limit taken)) × ((outcome ≡ SomeRefused) ↔ (course.refuses (cut_lines_of limit taken) ≡ true))
  pub stopped : IsStopped outcome → AppendsFront before after (course.text (cut_lines_of limit taken))
  pub read_fault : outcome ≡ ReadFault → Appends before after (course.meanwhile (map (take limit) (whole_lines_of taken)))
  pub too_long : (outcome ≡ TooLong) ↔ (INPUT_LIMIT < length taken)

-- how the program ends where a source does
abbrev pub outcome_of_source : LineEnd → Outcome
outcome_of_source source.Failed = ReadFault
outcome_of_source source.TooLong = TooLong
outcome_of_source source.NoMemory = NoMemory

-- and where a sink does
abbrev pub outcome_of_sink : SinkEnd → Outcome
outcome_of_sink sink.Failed = WriteFault
outcome_of_sink sink.NoMemory = NoMemory
