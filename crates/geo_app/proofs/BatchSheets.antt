-- What is kept of jobs, and what comes of them.
use Rattle.std.proofs.Common.{◌≡◌, ◌∙◌, sym, ap, refl, ℕ, ◌+◌, ◌-◌, ◌++◌, Bool, true, false, ◌||◌, not, Option, None, Some, List, [], ◌∷◌, length, map, append-nil, append_assoc, if◌then◌else◌, arith}
use Rattle.std.specs.Prelude.{nat_le, nat_lt, is_none, ◌==◌}
use Rattle.std.specs.List.{list_any, sum_by}
use Rattle.std.proofs.lemmas.Bool.Decides.{nat_tests}
use Rattle.std.proofs.lemmas.List.Sums.{sum_by-append, sum_by-cons}
use Rattle.std.proofs.lemmas.Grind.{common_steps, flat_map-append}
use Rattle.geo_session.specs.Printed.{Text, bytes_of, text_of}
use Rattle.geo_script.specs.Places.{beginning, printed_at, refuses_at}
use Rattle.geo_app.specs.Batches.{JobLines, is_large, job_line, job_size, jobs_printed, refused_job, refuses_in, replies_to}
use Rattle.geo_app.specs.Sheets.{done_sheet, has_line, sheet_of, sheet_refuses, sheet_text, sheets_from, sheets_text, some_refused, with_line, with_line_in}

-- ---- one job
abbrev lines_by : Bool → JobLines → JobLines
lines_by large job = if large then [] else job

abbrev room_by : Bool → ℕ → Option ℕ
room_by large size = if large then None else Some (65536 - size)

size_more : (job : JobLines) (line : List ℕ) → job_size (job ++ line ∷ []) ≡ job_size job + (length line + 1)
size_more job line =
    let both = sum_by-append (λ (l : List ℕ). length l + 1) job (line ∷ []) in
    let last = sum_by-cons (λ (l : List ℕ). length l + 1) line [] in
    let none : sum_by (λ (l : List ℕ). length l + 1) [] ≡ 0 = refl in
    omega (arith, both, last, none)

is_large_by : (job : JobLines) → is_large job ≡ nat_lt 65536 (job_size job)
unfolding is_large
is_large_by job = refl

-- no job without lines is large
none_large : is_large [] ≡ false
unfolding is_large
none_large = refl

-- the sheet of the longer job
longer_by : (number : ℕ) (job : JobLines) (line : List ℕ) (large longer : Bool) (size : ℕ) → large ≡ nat_lt 65536 size → longer ≡ nat_lt 65536 (size + (length line + 1))
    → with_line_in (record { number = number; lines = lines_by large job; room = room_by large size; text = []; refused = false }) line (room_by large size)
    ≡ record { number = number; lines = lines_by longer (job ++ line ∷ []); room = room_by longer (size + (length line + 1)); text = []; refused = false }
longer_by number job line true true size is more = refl
longer_by number job line true false size is more = absurd (grind (arith, nat_tests, is, more))
longer_by number job line false true size is more =
    let full : nat_le (65536 - size) (length line) ≡ true = grind (arith, nat_tests, is, more) in
    rw full refl
longer_by number job line false false size is more =
    let fits : nat_le (65536 - size) (length line) ≡ false = grind (arith, nat_tests, is, more) in
    let left : 65536 - size - (length line + 1) ≡ 65536 - (size + (length line + 1)) = omega arith in
    rw (fits, left) refl

pub with_line_is : (number : ℕ) (job : JobLines) (line : List ℕ) → with_line (sheet_of number job) line ≡ sheet_of number (job ++ line ∷ [])
with_line_is number job line =
    longer_by number job line (is_large job) (is_large (job ++ line ∷ [])) (job_size job) (is_large_by job) (is_large_by (job ++ line ∷ []) ∙ ap (nat_lt 65536) (size_more job line))
    ∙ ap (λ n. record { number = number; lines = lines_by (is_large (job ++ line ∷ [])) (job ++ line ∷ []); room = room_by (is_large (job ++ line ∷ [])) n; text = []; refused = false }) (sym (size_more job line))

-- a sheet has a line exactly where the job has one
pub has_line_is : (number : ℕ) (job : JobLines) → has_line (sheet_of number job) ≡ not (length job == 0)
has_line_is number [] = ap (λ (large : Bool). is_none (room_by large 0) || not (length (lines_by large []) == 0)) none_large
has_line_is number (line ∷ job) = by (is_large (line ∷ job))
  where
    by : (large : Bool) → (is_none (room_by large (job_size (line ∷ job))) || not (length (lines_by large (line ∷ job)) == 0)) ≡ not (length (line ∷ job) == 0)
    by true = grind (arith, common_steps)
    by false = refl

-- what is written for the job that ran
pub text_is : (number : ℕ) (job : JobLines) → (done_sheet (sheet_of number job)).text ≡ text_of (Text (job_line number) ∷ replies_to job)
text_is number job = by (is_large job)
  where
    by : (large : Bool) → sheet_text number (lines_by large job) (room_by large (job_size job)) ≡ text_of (Text (job_line number) ∷ (if large then Text refused_job ∷ [] else printed_at (beginning []) job))
    by true = ap (λ l. job_line number ++ l) (sym (append-nil refused_job))
    by false = refl

pub refused_is : (number : ℕ) (job : JobLines) → (done_sheet (sheet_of number job)).refused ≡ refuses_in job
refused_is number job = by (is_large job)
  where
    by : (large : Bool) → sheet_refuses (lines_by large job) (room_by large (job_size job)) ≡ (large || refuses_at (beginning []) job)
    by true = refl
    by false = refl

-- ---- all jobs
pub all_text : (number : ℕ) (jobs : List JobLines) → sheets_text (map done_sheet (sheets_from number jobs)) ≡ text_of (jobs_printed number jobs)
all_text number [] = refl
all_text number (job ∷ jobs) =
    ap (λ l. l ++ sheets_text (map done_sheet (sheets_from (number + 1) jobs))) (text_is number job)
    ∙ ap (λ l. text_of (Text (job_line number) ∷ replies_to job) ++ l) (all_text (number + 1) jobs)
    ∙ sym (flat_map-append bytes_of (Text (job_line number) ∷ replies_to job) (jobs_printed (number + 1) jobs))

pub all_refused : (number : ℕ) (jobs : List JobLines) → some_refused (map done_sheet (sheets_from number jobs)) ≡ list_any refuses_in jobs
all_refused number [] = refl
all_refused number (job ∷ jobs) = ap (λ b. b || some_refused (map done_sheet (sheets_from (number + 1) jobs))) (refused_is number job) ∙ ap (λ b. refuses_in job || b) (all_refused (number + 1) jobs)

-- one job more
pub sheets_last : (number : ℕ) (jobs : List JobLines) (job : JobLines) → sheets_from number jobs ++ sheet_of (number + length jobs) job ∷ [] ≡ sheets_from number (jobs ++ job ∷ [])
sheets_last number [] job = let e : number + 0 ≡ number = omega arith in ap (λ n. sheet_of n job ∷ []) e
sheets_last number (first ∷ jobs) job =
    let e : number + length (first ∷ jobs) ≡ (number + 1) + length jobs = omega arith in
    ap (λ n. sheet_of number first ∷ (sheets_from (number + 1) jobs ++ sheet_of n job ∷ [])) e ∙ ap (λ l. sheet_of number first ∷ l) (sheets_last (number + 1) jobs job)

-- jobs in two parts
pub printed_both : (number : ℕ) (front back : List JobLines) → jobs_printed number (front ++ back) ≡ jobs_printed number front ++ jobs_printed (number + length front) back
printed_both number [] back = let e : number ≡ number + 0 = omega arith in ap (λ n. jobs_printed n back) e
printed_both number (job ∷ front) back =
    let here = Text (job_line number) ∷ replies_to job in
    let e : (number + 1) + length front ≡ number + length (job ∷ front) = omega arith in
    ap (λ l. here ++ l) (printed_both (number + 1) front back) ∙ sym (append_assoc here (jobs_printed (number + 1) front) (jobs_printed ((number + 1) + length front) back))
    ∙ ap (λ n. (here ++ jobs_printed (number + 1) front) ++ jobs_printed n back) e

pub text_both : (number : ℕ) (front back : List JobLines) → text_of (jobs_printed number (front ++ back)) ≡ text_of (jobs_printed number front) ++ text_of (jobs_printed (number + length front) back)
text_both number front back = ap text_of (printed_both number front back) ∙ flat_map-append bytes_of (jobs_printed number front) (jobs_printed (number + length front) back)
