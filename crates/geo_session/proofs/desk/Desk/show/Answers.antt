use Rattle.std.proofs.Common.{rules, ◌≡◌, ◌∙◌, ap, refl, subst, ℕ, ◌++◌, ℤ, None, List, w64}
use Rattle.std.specs.Prelude.{◌↔◌, FitsSigned, Err, IfOk, IfSome}
use Rattle.std.proofs.lemmas.Int.{to_z-of_z}
use Rattle.geo_sketch.specs.declared.changes.Refusal.{Refusal}
use Rattle.geo_sketch.specs.declared.changes.Refusal.TheVariants as refusal
use Rattle.geo_sketch.specs.declared.changes.Stop.TheVariants as stop
use Rattle.geo_view.specs.Sights.{picture_of}
use Rattle.geo_view.specs.Walls.{sight_at}
use Rattle.geo_session.specs.Answers.{State, refused, shown_by, sights_of}
use Rattle.geo_session.specs.Standing.{Gives, IsAt}
use Rattle.geo_session.proofs.StateLaws.{answered_as, show_given, show_refused}
use Rattle.geo_session.proofs.desk.Desk.show.Goals as goal

pub returns-in-Ok : goal.returns-in-Ok
returns-in-Ok g c =
    let fits : FitsSigned w64 c.args.k = search rules in
    let refused = subst (λ (z : ℤ). (r : Refusal) → (c.show.result ≡ Err (stop.Refused r)) ↔ ((sight_at (g.W.Views.shows c.args.self.now.views) z ≡ None) × (r ≡ refusal.View))) (to_z-of_z w64 c.args.k fits) c.show.ensures.refused in
    let shown = subst (λ (z : ℤ). IfSome (sight_at (g.W.Views.shows c.args.self.now.views) z) (λ s. c.show.new.out.items ≡ c.args.out.now.items ++ picture_of s)) (to_z-of_z w64 c.args.k fits) c.in-Ok.ensures.shown in
    show_given g.W.Views.shows c.args.self.now c.args.k c.args.out.now.items c.show.new.out.items (λ none. let failed = (refused refusal.View).1 (none, refl) in let is = c.in-Ok.is in cc) shown

pub returns-in-Err-Refused : goal.returns-in-Err-Refused
returns-in-Err-Refused g c =
    let fits : FitsSigned w64 c.args.k = search rules in
    let refused_by = subst (λ (z : ℤ). (r : Refusal) → (c.show.result ≡ Err (stop.Refused r)) ↔ ((sight_at (g.W.Views.shows c.args.self.now.views) z ≡ None) × (r ≡ refusal.View))) (to_z-of_z w64 c.args.k fits) c.show.ensures.refused in
    let r = c.in-Err-Refused.refusal in
    let failed = c.in-Err-Refused.is ∙ ap Err c.in-Err-Refused.field-0-is in
    let none = (refused_by r).0 failed in
    let same = ap (λ v. v.items) (c.show.ensures.unchanged r failed) in
    answered_as g.W.Views.shows c.args.self.now c.args.self.now c.args.out.now.items c.refuse.new.out.items (λ (state : State). refused state r) (λ (state : State). shown_by state (sight_at (sights_of state) c.args.k)) c.refuse.result (show_refused g.W.Views.shows c.args.self.now c.args.k r none.0 none.1)
    (subst (λ (bytes : List ℕ). IfOk c.refuse.result (λ reply. (state : State) → IsAt g.W.Views.shows c.args.self.now state → Gives (refused state r) reply bytes c.refuse.new.out.items (IsAt g.W.Views.shows c.args.self.now))) same c.refuse.ensures)
