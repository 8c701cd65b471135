-- How the program ends, and what it did.
use Rattle.std.specs.Prelude.{◌≡◌, ℕ, ◌^◌, ◌<◌, ◌⊎◌, ◌↔◌, Option, List, length}
use Rattle.std.specs.Io.KnownBytes.{Appends, IsAtEnd}
use Rattle.geo_io.specs.Pieces.{AppendsFront}
use Rattle.geo_view.specs.declared.shown.ViewKind.{ViewKind}
use Rattle.geo_session.specs.Printed.{AreTrue}
use Rattle.geo_app.specs.declared.program.Outcome.{Outcome}
use Rattle.geo_app.specs.declared.program.Outcome.TheVariants.{Done, SomeRefused, Usage, ReadFault, WriteFault, TooLong, NoMemory}
use Rattle.geo_app.specs.declared.task.Task.{Task}
use Rattle.geo_app.specs.declared.task.Task.TheVariants.{Run, Check, Generate, Batch}
use Rattle.geo_app.specs.Output.{output_of, output_at_fault, printed, AreRightAnswers, HasRefusal}
use Rattle.geo_io.specs.declared.limits.TheConstants.{INPUT_LIMIT}

-- the exit status of an outcome
abbrev pub status_of : Outcome → ℕ
status_of Done = 0
status_of SomeRefused = 1
status_of Usage = 2
status_of ReadFault = 3
status_of WriteFault = 4
status_of TooLong = 5
status_of NoMemory = 6

-- the input was carried out to its end
abbrev pub IsAnswered : Outcome → Type 0
IsAnswered outcome = (outcome ≡ Done) ⊎ (outcome ≡ SomeRefused)

-- the program stopped before its end
abbrev pub IsStopped : Outcome → Type 0
IsStopped outcome = (outcome ≡ ReadFault) ⊎ ((outcome ≡ WriteFault) ⊎ ((outcome ≡ TooLong) ⊎ (outcome ≡ NoMemory)))

-- what there is to read was read to its end: a generated script is not read
abbrev pub IsReadToEnd : Task → Option (List ℕ) → Type 0
IsReadToEnd Run left = IsAtEnd left
IsReadToEnd Check left = IsAtEnd left
IsReadToEnd (Generate seed) left = Unit {0}
IsReadToEnd Batch left = IsAtEnd left

-- the headline: what the program did with the bytes that it took, where it was given views of
-- these kinds. The source has `left` left, and the sink held `before` and holds `after`, each
-- where it tells. How many workers there are says only what was written of a batch where the
-- source failed
pub record Headline (kinds : List ViewKind) (task : Task) (workers : ℕ) (outcome : Outcome) (taken : List ℕ) (left before after : Option (List ℕ)) : Type 0 where
  -- Done or SomeRefused: all was read, the whole output was written, and it is SomeRefused
  -- exactly where a line or a job was refused, or a certificate invalid
  pub answered : IsAnswered outcome → IsReadToEnd task left × Appends before after (output_of kinds task taken) × ((outcome ≡ SomeRefused) ↔ HasRefusal kinds task taken)
  -- ReadFault, WriteFault, TooLong or NoMemory: a front part of the output was written
  pub stopped : IsStopped outcome → AppendsFront before after (output_of kinds task taken)
  -- ReadFault: the replies to the whole lines that were taken were written, and nothing else; of a
  -- batch the outputs of the whole rounds of jobs among them
  pub read_fault : (outcome ≡ ReadFault) → Appends before after (output_at_fault kinds task workers taken)
  -- TooLong: exactly where more than 2^24 bytes were taken
  pub too_long : (outcome ≡ TooLong) ↔ (INPUT_LIMIT < length taken)
  -- whatever the outcome is, every verdict in the output is true
  pub true_verdicts : AreTrue (printed kinds task taken)
  -- and every answer to a certificate is right: what a valid one says of its claim is true
  pub right_answers : AreRightAnswers task taken
