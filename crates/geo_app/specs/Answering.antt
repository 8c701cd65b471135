-- What answers the lines of an input makes of those to come.
use Rattle.std.specs.Prelude.{◌≡◌, ℕ, ◌<◌, ◌≤◌, ⊤, Option, List, length}
use Rattle.geo_view.specs.Sights.{Sight}
use Rattle.geo_app.specs.declared.answering.Answering.{Answering}
use Rattle.geo_app.specs.declared.answering.Answering.TheVariants.{Script, Certificates, Batch}
use Rattle.geo_app.specs.Checking.{check_course}
use Rattle.geo_app.specs.Courses.{Course}
use Rattle.geo_app.specs.Gatherings.{Gathers}
use Rattle.geo_app.specs.Scripts.{ScriptGoes}
use Rattle.geo_board.specs.declared.limits.TheConstants.{WORKER_LIMIT}

-- it goes on so. What is seen of the views of a script is handed in
abbrev pub Goes : {W : Type 0} → (W → List (Option Sight)) → Answering W → Course → Type 0
Goes shows (Script script) course = ScriptGoes shows script course
Goes shows Certificates course = course ≡ check_course
Goes shows (Batch batch) course = Gathers batch course

-- it can take a line, or the end: fewer jobs wait than run side by side
abbrev pub IsReady : {W : Type 0} → Answering W → Type 0
IsReady (Script script) = ⊤
IsReady Certificates = ⊤
IsReady (Batch batch) = (length batch.waiting.items < batch.workers) × (batch.workers ≤ WORKER_LIMIT)

-- what it counts, by at most one a line: a batch its jobs
abbrev pub count_of : {W : Type 0} → Answering W → ℕ
count_of (Script script) = 0
count_of Certificates = 0
count_of (Batch batch) = batch.begun.number
