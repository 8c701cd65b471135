use Rattle.std.proofs.Common.{rules, arith, ◌≡◌, ◌∙◌, ap, ◌∷◌, ◌<◌, ◌+◌, [], true, false, length}
use Rattle.std.proofs.lemmas.List.{length-append}
use Rattle.geo_app.specs.Batches.{ends_job}
use Rattle.geo_app.proofs.BatchCourses.{job_waits, line_kept, whole_round}
use Rattle.geo_app.proofs.batch.Batch.take.Goals as goal

pub returns-then-ne-clause-replied : goal.returns-then-ne-clause-replied
returns-then-ne-clause-replied g c =
    let self = c.args.self.now in
    let none : ends_job c.args.line.now ≡ false = search rules in
    rw (c.keep.ensures.workers, c.keep.ensures.waiting) (λ course goes. line_kept self.workers self.waiting.items self.begun c.keep.new.self.begun c.args.line.now c.args.out.now.items none c.in_ok-keep.ensures.begun course goes)

pub returns-then-len-self-clause-replied : goal.returns-then-len-self-clause-replied
returns-then-len-self-clause-replied g c =
    let self = c.args.self.now in
    let ends : ends_job c.args.line.now ≡ true = search rules in
    let few : length c.close.new.self.waiting.items < self.workers = search (rules, arith) in
    rw c.close.ensures.workers (λ course goes. job_waits self.workers self.waiting.items c.close.new.self.waiting.items self.begun c.close.new.self.begun c.args.line.now c.args.out.now.items ends c.in_ok-close.ensures.waiting c.in_ok-close.ensures.begun few course goes)

pub returns-clause-replied : goal.returns-clause-replied
returns-clause-replied g c =
    let self = c.args.self.now in
    let round = c.close.new.self.waiting.items in
    let ends : ends_job c.args.line.now ≡ true = search rules in
    let count : length round ≡ length self.waiting.items + 1 = ap length c.in_ok-close.ensures.waiting ∙ length-append self.waiting.items (self.begun ∷ []) in
    let past : ¬ (length round < self.workers) = search rules in
    let full : length round ≡ self.workers = omega (arith, count, past, c.requires.few) in
    whole_round self.workers c.run_round.new.self.workers self.waiting.items round c.run_round.new.self.waiting.items self.begun c.run_round.new.self.begun c.args.line.now c.args.out.now.items c.run_round.new.out.items c.run_round.result ends c.in_ok-close.ensures.waiting (c.run_round.ensures.begun ∙ c.in_ok-close.ensures.begun) full (c.run_round.ensures.workers ∙ c.close.ensures.workers) c.run_round.ensures.waiting c.run_round.ensures.outputs
