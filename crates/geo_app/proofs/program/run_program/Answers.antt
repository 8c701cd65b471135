use Rattle.std.proofs.Common.{rules, ◌≡◌, sym, subst, [], Some}
use Rattle.std.proofs.KnownBytes.{Consumes-nil}
use Rattle.geo_app.specs.declared.task.Request.{Request}
use Rattle.geo_app.specs.declared.task.Task.{Task}
use Rattle.geo_app.specs.declared.task.Task.TheVariants.{Batch, Check, Generate}
use Rattle.geo_session.specs.Views.{kinds_of}
use Rattle.geo_app.specs.Outcomes.{Headline}
use Rattle.geo_app.specs.Tasks.{request_of}
use Rattle.geo_app.proofs.Endings.{finished}
use Rattle.geo_app.proofs.program.run_program.Goals as goal

pub returns-in-Generate-clause-headline : goal.returns-in-Generate-clause-headline
returns-in-Generate-clause-headline g c = λ request is.
    let read = c.in-Some.request in
    let asked : Some read ≡ request_of c.args.words.now = search rules in
    let same : read ≡ request = search (rules, asked, is) in
    let task : read.task ≡ Generate c.in-Generate.seed = search rules in
    let left = g.S.Source.left c.args.source.now in
    let before = g.K.Sink.held c.args.sink.now in
    let after = g.K.Sink.held c.generate.new.sink in
    let made = subst (λ (t : Task). Headline (kinds_of (λ b. (goal.View-dyn g (b.vtable, b.value)).sight b.value) c.args.views.items) t read.workers c.generate.result [] left before after) (sym task) (c.generate.ensures.headline (kinds_of (λ b. (goal.View-dyn g (b.vtable, b.value)).sight b.value) c.args.views.items) left) in
    ([], Consumes-nil left, subst (λ (r : Request). Headline (kinds_of (λ b. (goal.View-dyn g (b.vtable, b.value)).sight b.value) c.args.views.items) r.task r.workers c.generate.result [] left before after) same made)

pub returns-in-Check-clause-headline : goal.returns-in-Check-clause-headline
returns-in-Check-clause-headline g c = λ request is.
    let read = c.in-Some.request in
    let asked : Some read ≡ request_of c.args.words.now = search rules in
    let same : read ≡ request = search (rules, asked, is) in
    let task : read.task ≡ Check = search rules in
    let left = g.S.Source.left c.check.new.source in
    let before = g.K.Sink.held c.args.sink.now in
    let after = g.K.Sink.held c.check.new.sink in
    let told = c.check.ensures.headline (kinds_of (λ b. (goal.View-dyn g (b.vtable, b.value)).sight b.value) c.args.views.items) read.workers in
    let made = subst (λ (t : Task). Headline (kinds_of (λ b. (goal.View-dyn g (b.vtable, b.value)).sight b.value) c.args.views.items) t read.workers c.check.result told.0 left before after) (sym task) told.2 in
    (told.0, told.1, subst (λ (r : Request). Headline (kinds_of (λ b. (goal.View-dyn g (b.vtable, b.value)).sight b.value) c.args.views.items) r.task r.workers c.check.result told.0 left before after) same made)

pub returns-in-Check-clause-complete : goal.returns-in-Check-clause-complete
returns-in-Check-clause-complete g c = λ task bytes is left few no_read no_write.
    let told = c.check.ensures.headline (kinds_of (λ b. (goal.View-dyn g (b.vtable, b.value)).sight b.value) c.args.views.items) c.in-Some.request.workers in
    finished (kinds_of (λ b. (goal.View-dyn g (b.vtable, b.value)).sight b.value) c.args.views.items) Check c.in-Some.request.workers c.check.result bytes told.0 (g.S.Source.left c.args.source.now) (g.S.Source.left c.check.new.source) (g.K.Sink.held c.args.sink.now) (g.K.Sink.held c.check.new.sink) c.check.ensures.ended left told.1 told.2 few (λ e. no_read (c.check.ensures.read_fault e)) (λ e. no_write (c.check.ensures.write_fault e))

pub returns-in-Batch-clause-headline : goal.returns-in-Batch-clause-headline
returns-in-Batch-clause-headline g c = λ request is.
    let read = c.in-Some.request in
    let asked : Some read ≡ request_of c.args.words.now = search rules in
    let same : read ≡ request = search (rules, asked, is) in
    let task : read.task ≡ Batch = search rules in
    let left = g.S.Source.left c.run_batch.new.source in
    let before = g.K.Sink.held c.args.sink.now in
    let after = g.K.Sink.held c.run_batch.new.sink in
    let told = c.run_batch.ensures.headline (kinds_of (λ b. (goal.View-dyn g (b.vtable, b.value)).sight b.value) c.args.views.items) in
    let made = subst (λ (t : Task). Headline (kinds_of (λ b. (goal.View-dyn g (b.vtable, b.value)).sight b.value) c.args.views.items) t read.workers c.run_batch.result told.0 left before after) (sym task) told.2 in
    (told.0, told.1, subst (λ (r : Request). Headline (kinds_of (λ b. (goal.View-dyn g (b.vtable, b.value)).sight b.value) c.args.views.items) r.task r.workers c.run_batch.result told.0 left before after) same made)

pub returns-in-Batch-clause-complete : goal.returns-in-Batch-clause-complete
returns-in-Batch-clause-complete g c = λ task bytes is left few no_read no_write.
    let told = c.run_batch.ensures.headline (kinds_of (λ b. (goal.View-dyn g (b.vtable, b.value)).sight b.value) c.args.views.items) in
    finished (kinds_of (λ b. (goal.View-dyn g (b.vtable, b.value)).sight b.value) c.args.views.items) Batch c.in-Some.request.workers c.run_batch.result bytes told.0 (g.S.Source.left c.args.source.now) (g.S.Source.left c.run_batch.new.source) (g.K.Sink.held c.args.sink.now) (g.K.Sink.held c.run_batch.new.sink) c.run_batch.ensures.ended left told.1 told.2 few (λ e. no_read (c.run_batch.ensures.read_fault e)) (λ e. no_write (c.run_batch.ensures.write_fault e))
