-- The jobs among lines, by the first line that ends one.
use Rattle.std.proofs.Common.{◌≡◌, ◌∙◌, sym, ap, refl, ℕ, ◌+◌, ◌-◌, ◌*◌, ◌/◌, ◌<◌, ◌++◌, true, false, List, [], ◌∷◌, length, take, if◌then◌else◌, arith}
use Rattle.std.specs.Prelude.{◌==◌}
use Rattle.std.specs.List.{All, slice_split}
use Rattle.std.proofs.Math.Nat.{add-div_left, div-eq_of_lt, mul-suc}
use Rattle.std.proofs.Math.Numerals.{add-one}
use Rattle.std.proofs.Math.Seq.{take-append-add}
use Rattle.std.proofs.lemmas.List.{length-append}
use Rattle.std.proofs.lemmas.List.Splits.{length-slice_split, slice_split_at, slice_split_none}
use Rattle.std.proofs.lemmas.Grind.{common_steps}
use Rattle.geo_app.specs.Batches.{JobLines, ended_jobs, ends_job, jobs_of, jobs_of_parts, whole_rounds}

abbrev parts_of : List (List ℕ) → List JobLines
parts_of lines = slice_split ends_job lines

some_part : (lines : List (List ℕ)) → 0 < length (parts_of lines)
some_part lines = let n = length-slice_split ends_job lines in omega (arith, n)

-- a part that more parts follow is a job
ended_first : (part : JobLines) (parts : List JobLines) → 0 < length parts → jobs_of_parts (part ∷ parts) ≡ part ∷ jobs_of_parts parts
ended_first part [] some = absurd (omega (arith, some))
ended_first part (next ∷ parts) some = refl

all_but_one : (part : JobLines) (parts : List JobLines) → 0 < length parts → take (length (part ∷ parts) - 1) (part ∷ parts) ≡ part ∷ take (length parts - 1) parts
all_but_one part parts some =
    let e : length (part ∷ parts) - 1 ≡ (length parts - 1) + 1 = omega (arith, some) in
    rw e (grind (arith, common_steps))

-- the first line that ends a job, behind lines that end none
pub jobs_at : (begun : JobLines) (line : List ℕ) (lines : List (List ℕ)) → All (λ l. ends_job l ≡ false) begun → ends_job line ≡ true → jobs_of (begun ++ line ∷ lines) ≡ begun ∷ jobs_of lines
jobs_at begun line lines unended ends = ap jobs_of_parts (slice_split_at ends_job begun line lines unended ends) ∙ ended_first begun (parts_of lines) (some_part lines)

pub ended_at : (begun : JobLines) (line : List ℕ) (lines : List (List ℕ)) → All (λ l. ends_job l ≡ false) begun → ends_job line ≡ true → ended_jobs (begun ++ line ∷ lines) ≡ begun ∷ ended_jobs lines
ended_at begun line lines unended ends = ap (λ parts. take (length parts - 1) parts) (slice_split_at ends_job begun line lines unended ends) ∙ all_but_one begun (parts_of lines) (some_part lines)

-- lines that end none are one job, or none
pub jobs_unended : (begun : JobLines) → All (λ l. ends_job l ≡ false) begun → jobs_of begun ≡ (if length begun == 0 then [] else begun ∷ [])
jobs_unended begun unended = ap jobs_of_parts (slice_split_none ends_job begun unended)

pub ended_unended : (begun : JobLines) → All (λ l. ends_job l ≡ false) begun → ended_jobs begun ≡ []
ended_unended begun unended = ap (λ parts. take (length parts - 1) parts) (slice_split_none ends_job begun unended)

-- fewer jobs than a round has
pub no_round : (n : ℕ) (jobs : List JobLines) → length jobs < n → whole_rounds n jobs ≡ []
no_round n jobs few =
    let none : n * (length jobs / n) ≡ 0 = ap (λ q. n * q) (div-eq_of_lt few) ∙ times_zero n in
    ap (λ k. take k jobs) none
  where
    times_zero : (n : ℕ) → n * 0 ≡ 0
    times_zero n = omega arith

-- one round, and what follows
pub round_first : (n : ℕ) (round jobs : List JobLines) → length round ≡ n → 0 < n → whole_rounds n (round ++ jobs) ≡ round ++ whole_rounds n jobs
round_first n round jobs is some =
    let m = length jobs in
    let all : length (round ++ jobs) ≡ n + m = length-append round jobs ∙ ap (λ k. k + m) is in
    let count : n * (length (round ++ jobs) / n) ≡ length round + n * (m / n) =
    ap (λ k. n * (k / n)) all ∙ ap (λ q. n * q) (add-div_left m some) ∙ one_more n (m / n) ∙ ap (λ k. k + n * (m / n)) (sym is) in
    ap (λ k. take k (round ++ jobs)) count ∙ take-append-add round jobs (n * (m / n))
  where
    swapped : (a b : ℕ) → a + b ≡ b + a
    swapped a b = omega arith

    one_more : (n q : ℕ) → n * (q + 1) ≡ n + n * q
    one_more n q = ap (λ k. n * k) (add-one q) ∙ mul-suc n q ∙ swapped (n * q) n
