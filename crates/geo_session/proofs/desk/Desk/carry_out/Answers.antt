use Rattle.std.proofs.Common.{rules, ap, subst, ℤ, w64}
use Rattle.std.specs.Prelude.{FitsSigned, IfOk}
use Rattle.std.proofs.lemmas.Int.{to_z-of_z}
use Rattle.geo_view.specs.Walls.{sight_at}
use Rattle.geo_session.specs.Answers.{State, answer_to, shown_by, sights_of}
use Rattle.geo_session.specs.Standing.{Gives, IsAt}
use Rattle.geo_session.proofs.StateLaws.{answered_as}
use Rattle.geo_session.proofs.desk.Desk.carry_out.Goals as goal

pub returns-in-Add-clause-gives : goal.returns-in-Add-clause-gives
returns-in-Add-clause-gives g c = answered_as g.W.Views.shows c.args.self.now c.add.new.self _ _ _ (λ (state : State). answer_to state c.args.command.now) c.add.result (λ state at. ap (answer_to state) c.in-Add.is) c.add.ensures.gives

pub returns-in-Drag-clause-gives : goal.returns-in-Drag-clause-gives
returns-in-Drag-clause-gives g c = answered_as g.W.Views.shows c.args.self.now c.drag.new.self _ _ _ (λ (state : State). answer_to state c.args.command.now) c.drag.result (λ state at. ap (answer_to state) c.in-Drag.is) c.drag.ensures.gives

pub returns-in-Drop-clause-gives : goal.returns-in-Drop-clause-gives
returns-in-Drop-clause-gives g c = answered_as g.W.Views.shows c.args.self.now c.drop_element.new.self _ _ _ (λ (state : State). answer_to state c.args.command.now) c.drop_element.result (λ state at. ap (answer_to state) c.in-Drop.is) c.drop_element.ensures.gives

pub returns-in-Claim-clause-gives : goal.returns-in-Claim-clause-gives
returns-in-Claim-clause-gives g c = answered_as g.W.Views.shows c.args.self.now c.claim.new.self _ _ _ (λ (state : State). answer_to state c.args.command.now) c.claim.result (λ state at. ap (answer_to state) c.in-Claim.is) c.claim.ensures.gives

pub returns-in-Dual-clause-gives : goal.returns-in-Dual-clause-gives
returns-in-Dual-clause-gives g c = answered_as g.W.Views.shows c.args.self.now c.dual.new.self _ _ _ (λ (state : State). answer_to state c.args.command.now) c.dual.result (λ state at. ap (answer_to state) c.in-Dual.is) c.dual.ensures.gives

pub returns-in-Undo-clause-gives : goal.returns-in-Undo-clause-gives
returns-in-Undo-clause-gives g c = answered_as g.W.Views.shows c.args.self.now c.undo.new.self _ _ _ (λ (state : State). answer_to state c.args.command.now) c.undo.result (λ state at. ap (answer_to state) c.in-Undo.is) c.undo.ensures.gives

pub returns-in-Redo-clause-gives : goal.returns-in-Redo-clause-gives
returns-in-Redo-clause-gives g c = answered_as g.W.Views.shows c.args.self.now c.redo.new.self _ _ _ (λ (state : State). answer_to state c.args.command.now) c.redo.result (λ state at. ap (answer_to state) c.in-Redo.is) c.redo.ensures.gives

pub returns-in-Ledger-clause-gives : goal.returns-in-Ledger-clause-gives
returns-in-Ledger-clause-gives g c = answered_as g.W.Views.shows c.args.self.now c.ledger.new.self _ _ _ (λ (state : State). answer_to state c.args.command.now) c.ledger.result (λ state at. ap (answer_to state) c.in-Ledger.is) c.ledger.ensures.gives

pub returns-in-Show-clause-gives : goal.returns-in-Show-clause-gives
returns-in-Show-clause-gives g c =
    let fits : FitsSigned w64 c.in-Show.k = search rules in
    answered_as g.W.Views.shows c.args.self.now c.args.self.now _ _ (λ (state : State). shown_by state (sight_at (sights_of state) c.in-Show.k)) (λ (state : State). answer_to state c.args.command.now) c.show.result (λ state at. ap (answer_to state) c.in-Show.is)
    (subst (λ (z : ℤ). IfOk c.show.result (λ reply. (state : State) → IsAt g.W.Views.shows c.args.self.now state → Gives (shown_by state (sight_at (sights_of state) z)) reply c.args.out.now.items c.show.new.out.items (IsAt g.W.Views.shows c.args.self.now))) (to_z-of_z w64 c.in-Show.k fits) c.show.ensures)

pub returns-in-Certify-clause-gives : goal.returns-in-Certify-clause-gives
returns-in-Certify-clause-gives g c = answered_as g.W.Views.shows c.args.self.now c.certify.new.self _ _ _ (λ (state : State). answer_to state c.args.command.now) c.certify.result (λ state at. ap (answer_to state) c.in-Certify.is) c.certify.ensures.gives
