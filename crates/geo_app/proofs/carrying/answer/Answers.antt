use Rattle.std.proofs.Common.{rules, ◌≡◌, ◌∙◌, sym, ap, ◌++◌, List, ℕ, [], append_assoc}
use Rattle.geo_app.specs.Courses.{Course}
use Rattle.geo_app.proofs.carrying.answer.Goals as goal

pub returns-in-Err-write_all-clause-front : goal.returns-in-Err-write_all-clause-front
returns-in-Err-write_all-clause-front g c = λ course lines goes.
    let replied = c.in-Ok.ensures.replied course goes in
    let next : Course = replied.0 in
    let written : List ℕ = replied.2.0 in
    let front = c.in-Err-write_all.ensures.front in
    let none : c.clear.new.self.items ≡ [] = search rules in
    let piece : c.deref.result.now ≡ c.take.new.out.items = search rules in
    let all : c.deref.result.now ≡ written = piece ∙ replied.2.1 ∙ ap (λ l. l ++ written) none in (
      front.0,
      front.1 ++ next.text lines,
      replied.2.2.text lines ∙ ap (λ l. l ++ next.text lines) (sym all ∙ front.2) ∙ append_assoc front.0 front.1 (next.text lines),
      front.3,
    )
