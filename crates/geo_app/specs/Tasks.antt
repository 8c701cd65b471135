-- What the words of the command line ask for.
use Rattle.std.specs.Prelude.{ℕ, ◌^◌, Bool, false, ◌&&◌, not, nat_le, nat_lt, ◌==◌, if◌then◌else◌, Option, None, Some, option_map, List, [], ◌∷◌, map, codes}
use Rattle.std.specs.Char.{is_ascii_digit}
use Rattle.std.specs.List.{list_all}
use Rattle.std.specs.Str.{bytes_eq}
use Rattle.std.specs.Str.Parse.{digits_value}
use Rattle.std.specs.String.{string_bytes}
use Rattle.std.specs.declared.alloc.Global.{Global}
use Rattle.std.specs.declared.string.String.{String}
use Rattle.geo_app.specs.declared.task.Request.{Request}
use Rattle.geo_app.specs.declared.task.Task.{Task}
use Rattle.geo_app.specs.declared.task.Task.TheVariants.{Run, Check, Generate, Batch}
use Rattle.geo_board.specs.declared.limits.TheConstants.{WORKER_LIMIT}

-- one digit or more, and no zero before others; 48 is `0`
abbrev pub is_numeral : List ℕ → Bool
is_numeral [] = false
is_numeral (d ∷ []) = list_all is_ascii_digit (d ∷ [])
is_numeral (d ∷ e ∷ ds) = not (d == 48) && list_all is_ascii_digit (d ∷ e ∷ ds)

-- the number up to 4,294,967,295 that a word writes
unfoldable pub number_of : List ℕ → Option ℕ
number_of word = if is_numeral word && nat_lt (digits_value 10 word) (2 ^ 32) then Some (digits_value 10 word) else None

-- the one from 1 to 16
abbrev pub count_of : Option ℕ → Option ℕ
count_of None = None
count_of (Some count) = if nat_le 1 count && nat_le count WORKER_LIMIT then Some count else None

abbrev pub workers_in : List ℕ → Option ℕ
workers_in word = count_of (number_of word)

-- the task of one word
abbrev pub task_of_word : List ℕ → Option Task
task_of_word word = if bytes_eq word (codes "run") then Some Run else if bytes_eq word (codes "check") then Some Check else if bytes_eq word (codes "batch") then Some Batch else None

-- the task of `gen` and a seed
abbrev pub task_with_seed : List ℕ → List ℕ → Option Task
task_with_seed word seed = if bytes_eq word (codes "gen") then option_map Generate (number_of seed) else None

abbrev pub with_workers : Option Task → Option ℕ → Option Request
with_workers None workers = None
with_workers (Some task) None = None
with_workers (Some task) (Some workers) = Some record { task = task; workers = workers }

-- the words of a task, and behind them, where the workers are counted, `--workers` and their count
abbrev pub request_by : List (List ℕ) → Option Request
request_by (word ∷ []) = with_workers (task_of_word word) (Some 1)
request_by (word ∷ seed ∷ []) = with_workers (task_with_seed word seed) (Some 1)
request_by (word ∷ option ∷ count ∷ []) = if bytes_eq option (codes "--workers") then with_workers (task_of_word word) (workers_in count) else None
request_by (word ∷ seed ∷ option ∷ count ∷ []) = if bytes_eq option (codes "--workers") then with_workers (task_with_seed word seed) (workers_in count) else None
request_by words = None

-- what the words ask for
abbrev pub request_of : List (String Global) → Option Request
request_of words = request_by (map string_bytes words)

-- its task
abbrev pub task_of : List (String Global) → Option Task
task_of words = option_map (λ r. r.task) (request_of words)

-- how many workers it may have
abbrev pub workers_of : List (String Global) → Option ℕ
workers_of words = option_map (λ r. r.workers) (request_of words)
