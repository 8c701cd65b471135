use Rattle.std.proofs.Common.{◌∙◌}
use Rattle.rayon.proofs.ListFacts.{IfOk-then}
use Rattle.geo_guess.specs.Order.{all_placed}
use Rattle.geo_guess.proofs.ConjectureLaws.{all_listed}
use Rattle.geo_guess.proofs.guesses.list_with.Goals as goal

pub returns-in-Ok : goal.returns-in-Ok
returns-in-Ok g c =
    let tried = rw c.elements.ensures.elements at c.in_ok-statements.ensures in
    IfOk-then c.put_all.result _ _ c.put_all.ensures (λ list h.
    h ∙ (λ i. all_placed (c.deref.ensures.value i) c.args.kept.now)
    ∙ all_listed c.args.sketch.now c.requires.without.0 c.args.n c.requires.without.1 c.args.kept.now c.in-Ok.found.items c.in_ok-statements.statements.items c.requires.without.2 tried c.in-Ok.ensures)
