-- How the whole program ends without a fault.
use Rattle.std.proofs.Common.{◌≡◌, ◌∙◌, sym, ap, inl, inr, ◌⊎◌, arith, ℕ, ◌^◌, ◌≤◌, ◌++◌, length, Option, None, Some, List}
use Rattle.std.specs.Io.KnownBytes.{Consumes}
use Rattle.std.proofs.lemmas.List.{length-append}
use Rattle.geo_view.specs.declared.shown.ViewKind.{ViewKind}
use Rattle.geo_app.specs.declared.program.Outcome.{Outcome}
use Rattle.geo_app.specs.declared.program.Outcome.TheVariants.{NoMemory, ReadFault, WriteFault}
use Rattle.geo_app.specs.declared.task.Task.{Task}
use Rattle.geo_app.specs.Outcomes.{Headline, IsAnswered, IsStopped}

-- no more is taken than there is
taken_few : (bytes taken : List ℕ) (left after : Option (List ℕ)) → left ≡ Some bytes → Consumes left after taken → length taken ≤ length bytes
taken_few bytes taken None after is consumes = absurd (cc)
taken_few bytes taken (Some xs) None is consumes = absurd consumes
taken_few bytes taken (Some xs) (Some ys) is consumes =
    let same : xs ≡ bytes = cc in
    let all : length bytes ≡ length (taken ++ ys) = ap length (sym same ∙ consumes) in
    let parts = length-append taken ys in
    omega (arith, all, parts)

-- without a fault the input is carried out to its end, or memory was wanting
pub finished : (kinds : List ViewKind) (task : Task) (workers : ℕ) (outcome : Outcome) (bytes taken : List ℕ) (left after before held : Option (List ℕ)) → IsAnswered outcome ⊎ IsStopped outcome → left ≡ Some bytes → Consumes left after taken → Headline kinds task workers outcome taken after before held → length bytes ≤ 2 ^ 24
    → (outcome ≡ ReadFault → ⊥) → (outcome ≡ WriteFault → ⊥) → IsAnswered outcome ⊎ (outcome ≡ NoMemory)
finished kinds task workers outcome bytes taken left after before held (inl answered) is consumes told few no_read no_write = inl answered
finished kinds task workers outcome bytes taken left after before held (inr (inl read)) is consumes told few no_read no_write = absurd (no_read read)
finished kinds task workers outcome bytes taken left after before held (inr (inr (inl write))) is consumes told few no_read no_write = absurd (no_write write)
finished kinds task workers outcome bytes taken left after before held (inr (inr (inr (inl long)))) is consumes told few no_read no_write =
    let more = told.too_long.0 long in
    let shorter = taken_few bytes taken left after is consumes in
    absurd (omega (arith, more, shorter, few))
finished kinds task workers outcome bytes taken left after before held (inr (inr (inr (inr none)))) is consumes told few no_read no_write = inr none
