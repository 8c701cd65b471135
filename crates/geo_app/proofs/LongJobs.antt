-- Of a job's lines no more than 65,537 bytes are needed, and every verdict of a batch is true.
use Rattle.std.proofs.Common.{◌≡◌, ◌∙◌, sym, ap, ap₂, refl, inl, inr, ◌⊎◌, ℕ, ◌+◌, ◌-◌, ◌*◌, ◌/◌, ◌<◌, ◌≤◌, ◌++◌, Bool, true, false, cond, ◌||◌, List, [], ◌∷◌, length, take, map, if◌then◌else◌, arith}
use Rattle.std.specs.Prelude.{nat_lt, ◌==◌}
use Rattle.std.specs.List.{list_any, onto_first, slice_split}
use Rattle.std.proofs.lemmas.Bool.Decides.{nat_tests}
use Rattle.std.proofs.lemmas.Grind.{common_steps}
use Rattle.std.proofs.lemmas.List.Sums.{sum_by-cons}
use Rattle.std.proofs.lemmas.List.{length-map, length-take, take_all, take-map}
use Rattle.geo_session.specs.Answers.{start, printed_from}
use Rattle.geo_session.specs.Printed.{AreTrue, Piece, Text}
use Rattle.geo_tool.specs.Expansion.{expansion_of}
use Rattle.geo_script.specs.Places.{beginning, printed_at}
use Rattle.geo_app.specs.Batches.{JobLines, batch_meanwhile, batch_printed, batch_refuses, ended_jobs, ends_job, is_large, job_line, job_size, jobs_of, jobs_of_parts, jobs_printed, refused_job, refuses_in, replies_to, whole_rounds}

abbrev cut : List ℕ → List ℕ
cut line = take 65537 line

-- ---- one job
is_large_by : (job : JobLines) → is_large job ≡ nat_lt 65536 (job_size job)
unfolding is_large
is_large_by job = refl

size_first : (line : List ℕ) (job : JobLines) → job_size (line ∷ job) ≡ (length line + 1) + job_size job
size_first line job = sum_by-cons (λ (l : List ℕ). length l + 1) line job

-- a job is small and needs no cut, or it is large, cut or not
small_or_large : (job : JobLines) → (map cut job ≡ job) ⊎ ((65536 < job_size job) × (65536 < job_size (map cut job)))
small_or_large [] = inl refl
small_or_large (line ∷ job) = by (nat_lt 65537 (length line)) refl (small_or_large job)
  where
    by : (long : Bool) → nat_lt 65537 (length line) ≡ long → (map cut job ≡ job) ⊎ ((65536 < job_size job) × (65536 < job_size (map cut job))) → (map cut (line ∷ job) ≡ line ∷ job) ⊎ ((65536 < job_size (line ∷ job)) × (65536 < job_size (map cut (line ∷ job))))
    by true e rest =
        let long : 65537 < length line = grind (arith, nat_tests, e) in
        let kept : length (cut line) ≡ 65537 = omega (arith, length-take 65537 line, long) in
        let whole = size_first line job in
        let less = size_first (cut line) (map cut job) in
        inr (omega (arith, long, whole), omega (arith, kept, less))
    by false e (inl same) =
        let short : length line ≤ 65537 = grind (arith, nat_tests, e) in
        inl (ap₂ (λ l ls. l ∷ ls) (take_all 65537 line short) same)
    by false e (inr (size, size_cut)) =
        let whole = size_first line job in
        let less = size_first (cut line) (map cut job) in
        inr (omega (arith, size, whole), omega (arith, size_cut, less))

is_large_when : (job : JobLines) → 65536 < job_size job → is_large job ≡ true
is_large_when job size = is_large_by job ∙ test (job_size job) size
  where
    test : (n : ℕ) → 65536 < n → nat_lt 65536 n ≡ true
    test n more = grind (arith, nat_tests, more)

replies_alike : (job : JobLines) → replies_to (map cut job) ≡ replies_to job
replies_alike job = by (small_or_large job)
  where
    by : (map cut job ≡ job) ⊎ ((65536 < job_size job) × (65536 < job_size (map cut job))) → replies_to (map cut job) ≡ replies_to job
    by (inl same) = ap replies_to same
    by (inr (size, size_cut)) = rw (is_large_when job size, is_large_when (map cut job) size_cut) refl

refuses_alike : (job : JobLines) → refuses_in (map cut job) ≡ refuses_in job
refuses_alike job = by (small_or_large job)
  where
    by : (map cut job ≡ job) ⊎ ((65536 < job_size job) × (65536 < job_size (map cut job))) → refuses_in (map cut job) ≡ refuses_in job
    by (inl same) = ap refuses_in same
    by (inr (size, size_cut)) = rw (is_large_when job size, is_large_when (map cut job) size_cut) refl

-- ---- all jobs
printed_alike : (number : ℕ) (jobs : List JobLines) → jobs_printed number (map (map cut) jobs) ≡ jobs_printed number jobs
printed_alike number [] = refl
printed_alike number (job ∷ jobs) = ap₂ (λ here later. (Text (job_line number) ∷ here) ++ later) (replies_alike job) (printed_alike (number + 1) jobs)

any_alike : (jobs : List JobLines) → list_any refuses_in (map (map cut) jobs) ≡ list_any refuses_in jobs
any_alike [] = refl
any_alike (job ∷ jobs) = ap₂ (λ here later. here || later) (refuses_alike job) (any_alike jobs)

-- a line that is cut ends a job exactly where the whole one does
ends_alike : (line : List ℕ) → ends_job (cut line) ≡ ends_job line
ends_alike line = by (nat_lt 65537 (length line)) refl
  where
    by : (long : Bool) → nat_lt 65537 (length line) ≡ long → ends_job (cut line) ≡ ends_job line
    by true e =
        let long : 65537 < length line = grind (arith, nat_tests, e) in
        not_three (cut line) (omega (arith, length-take 65537 line, long)) ∙ sym (not_three line (omega (arith, long)))
      where
        not_three : (l : List ℕ) → 3 < length l → ends_job l ≡ false
        not_three [] more = absurd (omega (arith, more))
        not_three (a ∷ []) more = absurd (omega (arith, more))
        not_three (a ∷ b ∷ []) more = absurd (omega (arith, more))
        not_three (a ∷ b ∷ c ∷ []) more = absurd (omega (arith, more))
        not_three (a ∷ b ∷ c ∷ d ∷ l) more = grind (arith, common_steps)
    by false e = let short : length line ≤ 65537 = grind (arith, nat_tests, e) in ap ends_job (take_all 65537 line short)

parts_alike : (lines : List (List ℕ)) → slice_split ends_job (map cut lines) ≡ map (map cut) (slice_split ends_job lines)
parts_alike [] = refl
parts_alike (line ∷ lines) =
    ap₂ (λ (ends : Bool) parts. cond ends ([] ∷ parts) (onto_first (cut line) parts)) (ends_alike line) (parts_alike lines) ∙ by (ends_job line) (slice_split ends_job lines)
  where
    by : (ends : Bool) (parts : List JobLines) → cond ends ([] ∷ map (map cut) parts) (onto_first (cut line) (map (map cut) parts)) ≡ map (map cut) (cond ends ([] ∷ parts) (onto_first line parts))
    by true parts = refl
    by false [] = refl
    by false (part ∷ parts) = refl

of_parts_alike : (parts : List JobLines) → jobs_of_parts (map (map cut) parts) ≡ map (map cut) (jobs_of_parts parts)
of_parts_alike [] = refl
of_parts_alike (rest ∷ []) = ap (λ n. if n == 0 then [] else map cut rest ∷ []) (length-map rest cut) ∙ by (length rest == 0)
  where
    by : (none : Bool) → (if none then [] else map cut rest ∷ []) ≡ map (map cut) (if none then [] else rest ∷ [])
    by true = refl
    by false = refl
of_parts_alike (job ∷ next ∷ parts) = ap (λ l. map cut job ∷ l) (of_parts_alike (next ∷ parts))

jobs_alike : (lines : List (List ℕ)) → jobs_of (map cut lines) ≡ map (map cut) (jobs_of lines)
jobs_alike lines = ap jobs_of_parts (parts_alike lines) ∙ of_parts_alike (slice_split ends_job lines)

ended_alike : (lines : List (List ℕ)) → ended_jobs (map cut lines) ≡ map (map cut) (ended_jobs lines)
ended_alike lines =
    let parts = slice_split ends_job lines in
    ap (λ ps. take (length ps - 1) ps) (parts_alike lines) ∙ ap (λ n. take (n - 1) (map (map cut) parts)) (length-map parts (map cut)) ∙ take-map (map cut) (length parts - 1) parts

rounds_alike : (n : ℕ) (jobs : List JobLines) → whole_rounds n (map (map cut) jobs) ≡ map (map cut) (whole_rounds n jobs)
rounds_alike n jobs = ap (λ m. take (n * (m / n)) (map (map cut) jobs)) (length-map jobs (map cut)) ∙ take-map (map cut) (n * (length jobs / n)) jobs

pub batch_printed_alike : (lines : List (List ℕ)) → batch_printed (map (take 65537) lines) ≡ batch_printed lines
batch_printed_alike lines = ap (jobs_printed 1) (jobs_alike lines) ∙ printed_alike 1 (jobs_of lines)

pub batch_refused_alike : (lines : List (List ℕ)) → batch_refuses (map (take 65537) lines) ≡ batch_refuses lines
batch_refused_alike lines = ap (list_any refuses_in) (jobs_alike lines) ∙ any_alike (jobs_of lines)

pub batch_meanwhile_alike : (n : ℕ) (lines : List (List ℕ)) → batch_meanwhile n (map (take 65537) lines) ≡ batch_meanwhile n lines
batch_meanwhile_alike n lines = ap (jobs_printed 1) (ap (whole_rounds n) (ended_alike lines) ∙ rounds_alike n (ended_jobs lines)) ∙ printed_alike 1 (whole_rounds n (ended_jobs lines))

-- ---- what is printed is true
both_true : (front back : List Piece) → AreTrue front → AreTrue back → AreTrue (front ++ back)
both_true [] back f b = b
both_true (piece ∷ front) back f b = (f.0, both_true front back f.1 b)

pub jobs_true : ((lines : List (List ℕ)) → AreTrue (printed_from (start []) lines)) → (number : ℕ) (jobs : List JobLines) → AreTrue (jobs_printed number jobs)
jobs_true all number [] = tt
jobs_true all number (job ∷ jobs) = both_true (Text (job_line number) ∷ replies_to job) (jobs_printed (number + 1) jobs) (tt, by (is_large job)) (jobs_true all (number + 1) jobs)
  where
    by : (large : Bool) → AreTrue (if large then Text refused_job ∷ [] else printed_at (beginning []) job)
    by true = (tt, tt)
    by false = all (expansion_of job)
