-- What the program prints, and whether it refuses something, by the kinds of its views, its task
-- and the bytes that it reads.
use Rattle.std.specs.Prelude.{◌≡◌, ℕ, true, List, [], ◌∷◌}
use Rattle.geo_io.specs.Lines.{lines_of, whole_lines_of}
use Rattle.geo_view.specs.declared.shown.ViewKind.{ViewKind}
use Rattle.geo_session.specs.Printed.{Piece, Text, text_of}
use Rattle.geo_checker.specs.Answers.{answered, has_invalid, text_of as text_of_answers}
use Rattle.geo_checker.specs.Truth.{AreRight}
use Rattle.geo_script.specs.Places.{beginning, printed_at, refuses_at}
use Rattle.geo_app.specs.declared.task.Task.{Task}
use Rattle.geo_app.specs.declared.task.Task.TheVariants.{Run, Check, Generate, Batch}
use Rattle.geo_app.specs.Generated.{generated_text}
use Rattle.geo_app.specs.Batches.{batch_meanwhile, batch_printed, batch_refuses}

-- what is printed, piece by piece; for a script its tools are expanded
abbrev pub printed : List ViewKind → Task → List ℕ → List Piece
printed kinds Run bytes = printed_at (beginning kinds) (lines_of bytes)
printed kinds Check bytes = Text (text_of_answers (answered (lines_of bytes))) ∷ []
printed kinds (Generate seed) bytes = Text (generated_text seed) ∷ []
printed kinds Batch bytes = batch_printed (lines_of bytes)

-- its bytes
abbrev pub output_of : List ViewKind → Task → List ℕ → List ℕ
output_of kinds task bytes = text_of (printed kinds task bytes)

-- what is written where the source fails: the replies to the lines that a line feed ended, or the answers; a generated script is
-- not read
abbrev pub output_at_fault : List ViewKind → Task → ℕ → List ℕ → List ℕ
output_at_fault kinds Run workers bytes = text_of (printed_at (beginning kinds) (whole_lines_of bytes))
output_at_fault kinds Check workers bytes = text_of_answers (answered (whole_lines_of bytes))
output_at_fault kinds (Generate seed) workers bytes = []
output_at_fault kinds Batch workers bytes = text_of (batch_meanwhile workers (whole_lines_of bytes))

-- a line is refused, or a certificate is invalid; the refused lines of a generated script are counted, and are part of the job
abbrev pub HasRefusal : List ViewKind → Task → List ℕ → Type 0
HasRefusal kinds Run bytes = refuses_at (beginning kinds) (lines_of bytes) ≡ true
HasRefusal kinds Check bytes = has_invalid (answered (lines_of bytes)) ≡ true
HasRefusal kinds (Generate seed) bytes = ⊥
HasRefusal kinds Batch bytes = batch_refuses (lines_of bytes) ≡ true

-- what is answered to certificates is right
abbrev pub AreRightAnswers : Task → List ℕ → Type 0
AreRightAnswers Run bytes = Unit {0}
AreRightAnswers Check bytes = AreRight (answered (lines_of bytes))
AreRightAnswers (Generate seed) bytes = Unit {0}
AreRightAnswers Batch bytes = Unit {0}
