-- What a batch makes of the lines to come.
use Rattle.std.specs.Prelude.{◌≡◌, ℕ, ◌+◌, ◌++◌, ◌<◌, false, List, [], length}
use Rattle.std.specs.List.{All, list_any}
use Rattle.geo_session.specs.Printed.{text_of}
use Rattle.geo_app.specs.Batches.{JobLines, ended_jobs, ends_job, jobs_of, jobs_printed, refuses_in, whole_rounds}
use Rattle.geo_app.specs.Courses.{Course}
use Rattle.geo_app.specs.Sheets.{Sheet, sheet_of, sheets_from}
use Rattle.geo_app.specs.declared.batch.Batch.{Batch}

-- how far a batch is: the number of the first job that was not written, the jobs from there that are whole, and the lines
-- of the next one so far
pub record Gathering : Type 0 where
  pub first : ℕ
  pub waiting : List JobLines
  pub begun : JobLines

-- no line was taken
abbrev pub nothing_gathered : Gathering
nothing_gathered = record { first = 1; waiting = []; begun = [] }

-- from there on, where n jobs run side by side
abbrev pub batch_course : ℕ → Gathering → Course
batch_course n gathering = record {
  text = λ lines. text_of (jobs_printed gathering.first (gathering.waiting ++ jobs_of (gathering.begun ++ lines)));
  meanwhile = λ lines. text_of (jobs_printed gathering.first (whole_rounds n (gathering.waiting ++ ended_jobs (gathering.begun ++ lines))));
  refuses = λ lines. list_any refuses_in (gathering.waiting ++ jobs_of (gathering.begun ++ lines));
}

-- fewer than n jobs wait, and these are kept of them
pub record IsGathered (n : ℕ) (waiting : List Sheet) (begun : Sheet) (gathering : Gathering) : Type 0 where
  pub waits : waiting ≡ sheets_from gathering.first gathering.waiting
  pub begins : begun ≡ sheet_of (gathering.first + length gathering.waiting) gathering.begun
  pub few : length gathering.waiting < n
  pub unended : All (λ line. ends_job line ≡ false) gathering.begun

abbrev pub GathersSo : ℕ → List Sheet → Sheet → Course → Type 0
GathersSo n waiting begun course = (gathering : Gathering) × IsGathered n waiting begun gathering × (course ≡ batch_course n gathering)

-- the batch is as far as that, from where it goes on so
abbrev pub Gathers : Batch → Course → Type 0
Gathers batch course = GathersSo batch.workers batch.waiting.items batch.begun course
