-- What a batch makes of the lines to come, line by line, and what that is for the whole program.
use Rattle.std.proofs.Common.{◌≡◌, ◌∙◌, sym, ap, subst, refl, ℕ, ◌+◌, ◌<◌, ◌++◌, Bool, true, false, ◌||◌, not, Option, List, [], ◌∷◌, length, take, map, append-nil, append_assoc, if◌then◌else◌, arith}
use Rattle.std.specs.Prelude.{◌==◌, Result, Ok, Err, IfOk, OnOk}
use Rattle.std.specs.List.{All, list_any}
use Rattle.std.specs.Io.KnownBytes.{Appends}
use Rattle.std.proofs.lemmas.List.{length-append}
use Rattle.std.proofs.lemmas.List.Elements.{All-append, All-nil}
use Rattle.std.proofs.lemmas.List.Folds.{list_any-append}
use Rattle.std.proofs.lemmas.Grind.{common_steps}
use Rattle.geo_io.specs.Lines.{lines_of, whole_lines_of}
use Rattle.geo_io.specs.Pieces.{AppendsFront}
use Rattle.geo_session.specs.Printed.{AreTrue, text_of}
use Rattle.geo_sketch.specs.declared.changes.NoMemory.{NoMemory}
use Rattle.geo_app.specs.declared.program.Outcome.{Outcome}
use Rattle.geo_app.specs.declared.task.Task.TheVariants.{Batch}
use Rattle.geo_app.specs.Batches.{JobLines, batch_meanwhile, batch_printed, batch_refuses, ended_jobs, ends_job, jobs_of, jobs_printed, refuses_in, whole_rounds}
use Rattle.geo_app.specs.Courses.{Course, IsCarriedOut, IsLastReply, IsReplied, Takes}
use Rattle.geo_app.specs.Gatherings.{Gathering, GathersSo, IsGathered, batch_course, nothing_gathered}
use Rattle.geo_view.specs.declared.shown.ViewKind.{ViewKind}
use Rattle.geo_app.specs.Outcomes.{Headline}
use Rattle.geo_app.specs.Output.{printed}
use Rattle.geo_app.specs.Sheets.{Sheet, done_sheet, has_line, sheet_of, sheets_from, sheets_text, some_refused, with_line}
use Rattle.geo_app.proofs.BatchCuts.{ended_at, ended_unended, jobs_at, jobs_unended, no_round, round_first}
use Rattle.geo_app.proofs.BatchSheets.{all_refused, all_text, has_line_is, sheets_last, text_both, with_line_is}

-- nothing is written before a round is full
silent_at : (n : ℕ) (first : ℕ) (waiting : List JobLines) (begun : JobLines) → length waiting < n → All (λ l. ends_job l ≡ false) begun → (batch_course n (record { first = first; waiting = waiting; begun = begun })).meanwhile [] ≡ []
silent_at n first waiting begun few unended =
    let none : waiting ++ ended_jobs (begun ++ []) ≡ waiting = ap (λ l. waiting ++ ended_jobs l) (append-nil begun) ∙ ap (λ l. waiting ++ l) (ended_unended begun unended) ∙ append-nil waiting in
    ap (λ l. text_of (jobs_printed first l)) (ap (whole_rounds n) none ∙ no_round n waiting few)

pub silent : (n : ℕ) → 0 < n → (batch_course n nothing_gathered).meanwhile [] ≡ []
silent n some = silent_at n 1 [] [] some (All-nil (λ l. ends_job l ≡ false))

pub begins : (n : ℕ) (begun : Sheet) → begun ≡ sheet_of 1 [] → 0 < n → GathersSo n [] begun (batch_course n nothing_gathered)
begins n begun is some = (nothing_gathered, record { waits = refl; begins = is; few = some; unended = All-nil (λ l. ends_job l ≡ false) }, refl)

-- ---- a line that ends no job
pub line_kept : (n : ℕ) (waiting : List Sheet) (begun begun' : Sheet) (line held : List ℕ) → ends_job line ≡ false → begun' ≡ with_line begun line
    → (course : Course) → GathersSo n waiting begun course → IsReplied (GathersSo n waiting begun') course line false held held
line_kept n waiting begun begun' line held none is course (g, at, same) =
    let longer = g.begun ++ line ∷ [] in
    let next : Gathering = record { first = g.first; waiting = g.waiting; begun = longer } in
    let unended = All-append (λ l. ends_job l ≡ false) g.begun (line ∷ []) at.unended (one none) in
    let assoc : (lines : List (List ℕ)) → g.begun ++ line ∷ lines ≡ longer ++ lines = λ lines. sym (append_assoc g.begun (line ∷ []) lines) in (
      batch_course n next,
      (next, record { waits = at.waits; begins = is ∙ ap (λ s. with_line s line) at.begins ∙ with_line_is (g.first + length g.waiting) g.begun line; few = at.few; unended = unended }, refl),
      (
        [],
        sym (append-nil held),
        subst (λ (c : Course). Takes c (batch_course n next) line false []) (sym same) (record {
          text = λ lines. ap (λ l. text_of (jobs_printed g.first (g.waiting ++ jobs_of l))) (assoc lines);
          meanwhile = λ lines. ap (λ l. text_of (jobs_printed g.first (whole_rounds n (g.waiting ++ ended_jobs l)))) (assoc lines);
          refuses = λ lines. ap (λ l. list_any refuses_in (g.waiting ++ jobs_of l)) (assoc lines);
          silent = silent_at n g.first g.waiting longer at.few unended;
        }),
      ),
    )
  where
    one : ends_job line ≡ false → All (λ l. ends_job l ≡ false) (line ∷ [])
    one none = grind (arith, common_steps, none)

-- ---- a line that ends one
module _ (n : ℕ) (first : ℕ) (jobs : List JobLines) (job : JobLines) (line : List ℕ) (unended : All (λ l. ends_job l ≡ false) job) (ends : ends_job line ≡ true) where
  jobs_then : (lines : List (List ℕ)) → jobs ++ jobs_of (job ++ line ∷ lines) ≡ (jobs ++ job ∷ []) ++ jobs_of lines
  jobs_then lines = ap (λ l. jobs ++ l) (jobs_at job line lines unended ends) ∙ sym (append_assoc jobs (job ∷ []) (jobs_of lines))

  ended_then : (lines : List (List ℕ)) → jobs ++ ended_jobs (job ++ line ∷ lines) ≡ (jobs ++ job ∷ []) ++ ended_jobs lines
  ended_then lines = ap (λ l. jobs ++ l) (ended_at job line lines unended ends) ∙ sym (append_assoc jobs (job ∷ []) (ended_jobs lines))

  length_more : length (jobs ++ job ∷ []) ≡ length jobs + 1
  length_more = length-append jobs (job ∷ [])

  -- while the round isn't full
  takes_waiting : length jobs + 1 < n → Takes (batch_course n (record { first = first; waiting = jobs; begun = job })) (batch_course n (record { first = first; waiting = jobs ++ job ∷ []; begun = [] })) line false []
  takes_waiting few = record {
    text = λ lines. ap (λ l. text_of (jobs_printed first l)) (jobs_then lines);
    meanwhile = λ lines. ap (λ l. text_of (jobs_printed first (whole_rounds n l))) (ended_then lines);
    refuses = λ lines. ap (λ l. list_any refuses_in l) (jobs_then lines);
    silent = silent_at n first (jobs ++ job ∷ []) [] (subst (λ k. k < n) (sym length_more) few) (All-nil (λ l. ends_job l ≡ false));
  }

  -- once it is
  takes_round : (refused : Bool) → length jobs + 1 ≡ n → refused ≡ list_any refuses_in (jobs ++ job ∷ [])
      → Takes (batch_course n (record { first = first; waiting = jobs; begun = job })) (batch_course n (record { first = first + length (jobs ++ job ∷ []); waiting = []; begun = [] })) line refused (text_of (jobs_printed first (jobs ++ job ∷ [])))
  takes_round refused full is =
      let some : 0 < n = omega (arith, full) in record {
        text = λ lines. ap (λ l. text_of (jobs_printed first l)) (jobs_then lines) ∙ text_both first (jobs ++ job ∷ []) (jobs_of lines);
        meanwhile = λ lines.
            ap (λ l. text_of (jobs_printed first l)) (ap (whole_rounds n) (ended_then lines) ∙ round_first n (jobs ++ job ∷ []) (ended_jobs lines) (length_more ∙ full) some)
            ∙ text_both first (jobs ++ job ∷ []) (whole_rounds n (ended_jobs lines));
        refuses = λ lines. ap (list_any refuses_in) (jobs_then lines) ∙ list_any-append refuses_in (jobs ++ job ∷ []) (jobs_of lines) ∙ ap (λ b. b || list_any refuses_in (jobs_of lines)) (sym is);
        silent = silent_at n (first + length (jobs ++ job ∷ [])) [] [] some (All-nil (λ l. ends_job l ≡ false));
      }

-- the sheets with that of the job that was begun
all_sheets : (n : ℕ) (waiting : List Sheet) (begun : Sheet) (g : Gathering) → IsGathered n waiting begun g → waiting ++ begun ∷ [] ≡ sheets_from g.first (g.waiting ++ g.begun ∷ [])
all_sheets n waiting begun g at = ap (λ l. l ++ begun ∷ []) at.waits ∙ ap (λ s. sheets_from g.first g.waiting ++ s ∷ []) at.begins ∙ sheets_last g.first g.waiting g.begun

length_sheets : (number : ℕ) (jobs : List JobLines) → length (sheets_from number jobs) ≡ length jobs
length_sheets number [] = refl
length_sheets number (job ∷ jobs) = let e = length_sheets (number + 1) jobs in omega (arith, e)

next_number : (first : ℕ) (jobs : List JobLines) (job : JobLines) (begun begun' : Sheet) → begun ≡ sheet_of (first + length jobs) job → begun' ≡ sheet_of (begun.number + 1) [] → begun' ≡ sheet_of (first + length (jobs ++ job ∷ [])) []
next_number first jobs job begun begun' was is =
    let count : begun.number + 1 ≡ first + length (jobs ++ job ∷ []) = ap (λ (s : Sheet). s.number + 1) was ∙ sym (step first (length jobs)) ∙ ap (λ k. first + k) (sym (length-append jobs (job ∷ []))) in
    is ∙ ap (λ k. sheet_of k []) count
  where
    step : (a b : ℕ) → a + (b + 1) ≡ (a + b) + 1
    step a b = omega arith

pub job_waits : (n : ℕ) (waiting waiting' : List Sheet) (begun begun' : Sheet) (line held : List ℕ) → ends_job line ≡ true → waiting' ≡ waiting ++ begun ∷ [] → begun' ≡ sheet_of (begun.number + 1) [] → length waiting' < n
    → (course : Course) → GathersSo n waiting begun course → IsReplied (GathersSo n waiting' begun') course line false held held
job_waits n waiting waiting' begun begun' line held ends adds is few course (g, at, same) =
    let jobs = g.waiting ++ g.begun ∷ [] in
    let next : Gathering = record { first = g.first; waiting = jobs; begun = [] } in
    let sheets = adds ∙ all_sheets n waiting begun g at in
    let count : length jobs < n = subst (λ k. k < n) (ap length sheets ∙ length_sheets g.first jobs) few in
    let few_jobs : length g.waiting + 1 < n = subst (λ k. k < n) (length-append g.waiting (g.begun ∷ [])) count in (
      batch_course n next,
      (next, record { waits = sheets; begins = next_number g.first g.waiting g.begun begun begun' at.begins is; few = count; unended = All-nil (λ l. ends_job l ≡ false) }, refl),
      ([], sym (append-nil held), subst (λ (c : Course). Takes c (batch_course n next) line false []) (sym same) (takes_waiting n g.first g.waiting g.begun line at.unended ends few_jobs)),
    )

-- a round was run, and its outputs appended
pub round_put : (n : ℕ) (waiting round : List Sheet) (begun begun' : Sheet) (refused : Bool) (line before after : List ℕ) → ends_job line ≡ true → round ≡ waiting ++ begun ∷ [] → begun' ≡ sheet_of (begun.number + 1) [] → length round ≡ n
    → after ≡ before ++ sheets_text (map done_sheet round) → refused ≡ some_refused (map done_sheet round)
    → (course : Course) → GathersSo n waiting begun course → IsReplied (GathersSo n [] begun') course line refused before after
round_put n waiting round begun begun' refused line before after ends adds is full appends refuses course (g, at, same) =
    let jobs = g.waiting ++ g.begun ∷ [] in
    let first = g.first + length jobs in
    let next : Gathering = record { first = first; waiting = []; begun = [] } in
    let sheets : round ≡ sheets_from g.first jobs = adds ∙ all_sheets n waiting begun g at in
    let text : sheets_text (map done_sheet round) ≡ text_of (jobs_printed g.first jobs) = ap (λ l. sheets_text (map done_sheet l)) sheets ∙ all_text g.first jobs in
    let any : some_refused (map done_sheet round) ≡ list_any refuses_in jobs = ap (λ l. some_refused (map done_sheet l)) sheets ∙ all_refused g.first jobs in
    let count : length g.waiting + 1 ≡ n = sym (length-append g.waiting (g.begun ∷ [])) ∙ sym (length_sheets g.first jobs) ∙ sym (ap length sheets) ∙ full in
    let number : begun' ≡ sheet_of (first + 0) [] = next_number g.first g.waiting g.begun begun begun' at.begins is ∙ ap (λ k. sheet_of k []) (no_more first) in (
      batch_course n next,
      (next, record { waits = refl; begins = number; few = omega (arith, count); unended = All-nil (λ l. ends_job l ≡ false) }, refl),
      (
        text_of (jobs_printed g.first jobs),
        appends ∙ ap (λ l. before ++ l) text,
        subst (λ (c : Course). Takes c (batch_course n next) line refused (text_of (jobs_printed g.first jobs))) (sym same) (takes_round n g.first g.waiting g.begun line at.unended ends refused count (refuses ∙ any)),
      ),
    )
  where
    no_more : (a : ℕ) → a ≡ a + 0
    no_more a = omega arith

-- what such a round answers
pub whole_round : (n n' : ℕ) (waiting round waiting' : List Sheet) (begun begun' : Sheet) (line before after : List ℕ) (result : Result Bool NoMemory) → ends_job line ≡ true → round ≡ waiting ++ begun ∷ [] → begun' ≡ sheet_of (begun.number + 1) [] → length round ≡ n → n' ≡ n
    → OnOk result (waiting' ≡ []) → IfOk result (λ refused. (after ≡ before ++ sheets_text (map done_sheet round)) × (refused ≡ some_refused (map done_sheet round)))
    → IfOk result (λ refused. (course : Course) → GathersSo n waiting begun course → IsReplied (GathersSo n' waiting' begun') course line refused before after)
whole_round n n' waiting round waiting' begun begun' line before after (Ok refused) ends adds is full same none put = λ course goes.
    let replied = round_put n waiting round begun begun' refused line before after ends adds is full put.0 put.1 course goes in
    subst (λ (k : ℕ). IsReplied (GathersSo k waiting' begun') course line refused before after) (sym same) (subst (λ (w : List Sheet). IsReplied (GathersSo n w begun') course line refused before after) (sym none) replied)
whole_round n n' waiting round waiting' begun begun' line before after (Err stop) ends adds is full same none put = tt

-- ---- the end of the input
-- the jobs that are left
left_jobs : (g : Gathering) → List JobLines
left_jobs g = g.waiting ++ jobs_of (g.begun ++ [])

-- their sheets: that of the job that was begun is among them where it has a line
left_sheets : (n : ℕ) (waiting round : List Sheet) (begun : Sheet) (g : Gathering) → IsGathered n waiting begun g → round ≡ (if has_line begun then waiting ++ begun ∷ [] else waiting) → round ≡ sheets_from g.first (left_jobs g)
unfolding left_jobs
left_sheets n waiting round begun g at is =
    let begins : has_line begun ≡ not (length g.begun == 0) = ap has_line at.begins ∙ has_line_is (g.first + length g.waiting) g.begun in
    let unended : jobs_of (g.begun ++ []) ≡ (if length g.begun == 0 then [] else g.begun ∷ []) = ap jobs_of (append-nil g.begun) ∙ jobs_unended g.begun at.unended in
    is ∙ ap (λ (b : Bool). if b then waiting ++ begun ∷ [] else waiting) begins ∙ by (length g.begun == 0) ∙ ap (λ l. sheets_from g.first (g.waiting ++ l)) (sym unended)
  where
    by : (none : Bool) → (if not none then waiting ++ begun ∷ [] else waiting) ≡ sheets_from g.first (g.waiting ++ (if none then [] else g.begun ∷ []))
    by true = at.waits ∙ ap (sheets_from g.first) (sym (append-nil g.waiting))
    by false = all_sheets n waiting begun g at

pub rest_put : (n : ℕ) (waiting round : List Sheet) (begun : Sheet) (refused : Bool) (before after : List ℕ) → round ≡ (if has_line begun then waiting ++ begun ∷ [] else waiting) → after ≡ before ++ sheets_text (map done_sheet round) → refused ≡ some_refused (map done_sheet round)
    → (course : Course) → GathersSo n waiting begun course → IsLastReply course refused before after
unfolding left_jobs
rest_put n waiting round begun refused before after is appends refuses course (g, at, same) =
    let sheets = left_sheets n waiting round begun g at is in (
      appends ∙ ap (λ l. before ++ l) (ap (λ l. sheets_text (map done_sheet l)) sheets ∙ all_text g.first (left_jobs g) ∙ sym (ap (λ (c : Course). c.text []) same)),
      refuses ∙ ap (λ l. some_refused (map done_sheet l)) sheets ∙ all_refused g.first (left_jobs g) ∙ sym (ap (λ (c : Course). c.refuses []) same),
    )

-- what a round answers at the end
pub rest_of_round : (n : ℕ) (waiting round : List Sheet) (begun : Sheet) (before after : List ℕ) (result : Result Bool NoMemory) → round ≡ (if has_line begun then waiting ++ begun ∷ [] else waiting)
    → IfOk result (λ refused. (after ≡ before ++ sheets_text (map done_sheet round)) × (refused ≡ some_refused (map done_sheet round)))
    → IfOk result (λ refused. (course : Course) → GathersSo n waiting begun course → IsLastReply course refused before after)
rest_of_round n waiting round begun before after (Ok refused) is put = λ course goes. rest_put n waiting round begun refused before after is put.0 put.1 course goes
rest_of_round n waiting round begun before after (Err stop) is put = tt

-- ---- the whole batch
-- what was carried out of a batch, whose lines were cut, is what its jobs make
pub batch_carried : (kinds : List ViewKind) (workers : ℕ) (outcome : Outcome) (taken : List ℕ) (left before after : Option (List ℕ)) → IsCarriedOut (batch_course workers nothing_gathered) 65537 outcome taken left before after
    → ((lines : List (List ℕ)) → batch_printed (map (take 65537) lines) ≡ batch_printed lines) → ((lines : List (List ℕ)) → batch_refuses (map (take 65537) lines) ≡ batch_refuses lines)
    → ((n : ℕ) (lines : List (List ℕ)) → batch_meanwhile n (map (take 65537) lines) ≡ batch_meanwhile n lines) → AreTrue (printed kinds Batch taken)
    → Headline kinds Batch workers outcome taken left before after
batch_carried kinds workers outcome taken left before after carried alike refused_alike meanwhile_alike true_verdicts =
    let text = ap text_of (alike (lines_of taken)) in
    let whole = ap text_of (meanwhile_alike workers (whole_lines_of taken)) in
    let refused = refused_alike (lines_of taken) in record {
      answered = λ a.
          let all = carried.answered a in
          (all.0, subst (λ (l : List ℕ). Appends before after l) text all.1, (λ e. sym refused ∙ all.2.0 e, λ e. all.2.1 (refused ∙ e)));
      stopped = λ s. subst (λ (l : List ℕ). AppendsFront before after l) text (carried.stopped s);
      read_fault = λ e. subst (λ (l : List ℕ). Appends before after l) whole (carried.read_fault e);
      too_long = carried.too_long;
      true_verdicts = true_verdicts;
      right_answers = tt;
    }
