-- A batch: the jobs among the lines of an input, and what is written for them.
use Rattle.std.specs.Prelude.{ℕ, ◌+◌, ◌*◌, ◌-◌, ◌/◌, ◌++◌, Bool, ◌||◌, ◌==◌, nat_lt, if◌then◌else◌, List, [], ◌∷◌, length, take, codes}
use Rattle.std.specs.Fmt.{decimal}
use Rattle.std.specs.List.{list_any, slice_split, sum_by}
use Rattle.std.specs.Str.{bytes_eq}
use Rattle.geo_session.specs.Printed.{Piece, Text}
use Rattle.geo_script.specs.Places.{beginning, printed_at, refuses_at}
use Rattle.geo_app.specs.declared.limits.TheConstants.{JOB_SIZE_LIMIT}

-- a job: the lines of a script
abbrev pub JobLines : Type 0
JobLines = List (List ℕ)

-- a line that ends a job
abbrev pub ends_job : List ℕ → Bool
ends_job line = bytes_eq line (codes "===")

-- the parts between such lines as jobs: the last, which none ended, is one where it has a line
abbrev pub jobs_of_parts : List JobLines → List JobLines
jobs_of_parts [] = []
jobs_of_parts (rest ∷ []) = if length rest == 0 then [] else rest ∷ []
jobs_of_parts (job ∷ next ∷ parts) = job ∷ jobs_of_parts (next ∷ parts)

-- the jobs among some lines
abbrev pub jobs_of : List (List ℕ) → List JobLines
jobs_of lines = jobs_of_parts (slice_split ends_job lines)

-- those that a line ended
abbrev pub ended_jobs : List (List ℕ) → List JobLines
ended_jobs lines = let parts = slice_split ends_job lines in take (length parts - 1) parts

-- as many of the first jobs as make whole rounds of n
abbrev pub whole_rounds : ℕ → List JobLines → List JobLines
whole_rounds n jobs = take (n * (length jobs / n)) jobs

-- the size of a job: its bytes, and one for the end of each line
abbrev pub job_size : JobLines → ℕ
job_size job = sum_by (λ line. length line + 1) job

-- a job of more than 65,536 bytes
unfoldable pub is_large : JobLines → Bool
is_large job = nat_lt JOB_SIZE_LIMIT (job_size job)

abbrev pub refused_job : List ℕ
refused_job = codes "refused job\n"

-- the line before what is written for a job
abbrev pub job_line : ℕ → List ℕ
job_line number = codes "job " ++ (decimal number ++ codes "\n")

-- what is printed for a job: it is refused, or its replies
abbrev pub replies_to : JobLines → List Piece
replies_to job = if is_large job then Text refused_job ∷ [] else printed_at (beginning []) job

-- the job is refused, or a line of it
abbrev pub refuses_in : JobLines → Bool
refuses_in job = is_large job || refuses_at (beginning []) job

-- what is printed for jobs, by the number of the first
abbrev pub jobs_printed : ℕ → List JobLines → List Piece
jobs_printed number [] = []
jobs_printed number (job ∷ jobs) = (Text (job_line number) ∷ replies_to job) ++ jobs_printed (number + 1) jobs

-- what is printed for the lines of a batch
abbrev pub batch_printed : List (List ℕ) → List Piece
batch_printed lines = jobs_printed 1 (jobs_of lines)

-- whether a job is refused, or a line of one
abbrev pub batch_refuses : List (List ℕ) → Bool
batch_refuses lines = list_any refuses_in (jobs_of lines)

-- what was printed where no line came after these, and the end did not come either, by the number of jobs that run side by side
abbrev pub batch_meanwhile : ℕ → List (List ℕ) → List Piece
batch_meanwhile n lines = jobs_printed 1 (whole_rounds n (ended_jobs lines))
