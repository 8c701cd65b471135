-- A job of a batch under way: what is kept of its lines, and what came of it.
use Rattle.std.specs.Prelude.{ℕ, ◌+◌, ◌-◌, ◌++◌, Bool, true, false, not, nat_le, if◌then◌else◌, Option, None, Some, is_none, ◌||◌, ◌==◌, List, [], ◌∷◌, length}
use Rattle.std.specs.List.{flat_map, list_any}
use Rattle.geo_session.specs.Printed.{text_of}
use Rattle.geo_script.specs.Places.{beginning, printed_at, refuses_at}
use Rattle.geo_app.specs.Batches.{JobLines, is_large, job_line, job_size, refused_job}
use Rattle.geo_app.specs.declared.limits.TheConstants.{JOB_SIZE_LIMIT}

-- its number; its lines, and how many bytes it may still have: none where it had too many, and then no line is kept; once
-- it has run, what is written for it, and whether it or a line of it was refused
pub record Sheet : Type 0 where
  pub number : ℕ
  pub lines : JobLines
  pub room : Option ℕ
  pub text : List ℕ
  pub refused : Bool

-- of a job with these lines, before it runs
abbrev pub sheet_of : ℕ → JobLines → Sheet
sheet_of number job = record {
  number = number;
  lines = if is_large job then [] else job;
  room = if is_large job then None else Some (JOB_SIZE_LIMIT - job_size job);
  text = [];
  refused = false;
}

-- of jobs one after the other, by the number of the first
abbrev pub sheets_from : ℕ → List JobLines → List Sheet
sheets_from number [] = []
sheets_from number (job ∷ jobs) = sheet_of number job ∷ sheets_from (number + 1) jobs

-- with one more line, by the room for it
abbrev pub with_line_in : Sheet → List ℕ → Option ℕ → Sheet
with_line_in sheet line None = sheet
with_line_in sheet line (Some room) =
    if nat_le room (length line) then record { number = sheet.number; lines = []; room = None; text = sheet.text; refused = sheet.refused }
    else record { number = sheet.number; lines = sheet.lines ++ line ∷ []; room = Some (room - (length line + 1)); text = sheet.text; refused = sheet.refused }

abbrev pub with_line : Sheet → List ℕ → Sheet
with_line sheet line = with_line_in sheet line sheet.room

-- a line was kept, or was too much
abbrev pub has_line : Sheet → Bool
has_line sheet = is_none sheet.room || not (length sheet.lines == 0)

-- what is written for it, by the room that it has
abbrev pub sheet_text : ℕ → JobLines → Option ℕ → List ℕ
sheet_text number lines None = job_line number ++ refused_job
sheet_text number lines (Some room) = job_line number ++ text_of (printed_at (beginning []) lines)

abbrev pub sheet_refuses : JobLines → Option ℕ → Bool
sheet_refuses lines None = true
sheet_refuses lines (Some room) = refuses_at (beginning []) lines

-- once it has run
abbrev pub done_sheet : Sheet → Sheet
done_sheet sheet = record {
  number = sheet.number;
  lines = sheet.lines;
  room = sheet.room;
  text = sheet_text sheet.number sheet.lines sheet.room;
  refused = sheet_refuses sheet.lines sheet.room;
}

-- what is written for jobs that have run
abbrev pub sheets_text : List Sheet → List ℕ
sheets_text sheets = flat_map (λ sheet. sheet.text) sheets

-- whether one of them was refused, or a line of it
abbrev pub some_refused : List Sheet → Bool
some_refused sheets = list_any (λ sheet. sheet.refused) sheets
