use Rattle.std.proofs.Common.{rules, ◌≡◌, refl, subst, ℤ, unsigned_abs, None, w64}
use Rattle.std.specs.Prelude.{◌↔◌, FitsSigned, Ok, Err, slice_set}
use Rattle.std.proofs.lemmas.Int.{to_z-of_z}
use Rattle.geo_sketch.specs.declared.changes.Refusal.{Refusal}
use Rattle.geo_sketch.specs.declared.changes.Refusal.TheVariants as refusal
use Rattle.geo_view.specs.Walls.{sight_at}
use Rattle.geo_session.specs.declared.state.Reply.TheVariants as reply
use Rattle.geo_session.specs.Answers.{State, closed_by, sights_of}
use Rattle.geo_session.proofs.StateLaws.{close_given, close_refused, refusal_given}
use Rattle.geo_session.proofs.desk.Desk.close.Goals as goal

pub returns-in_ok-write_ok-in-Ok-clause-gives : goal.returns-in_ok-write_ok-in-Ok-clause-gives
returns-in_ok-write_ok-in-Ok-clause-gives g c =
    let fits : FitsSigned w64 c.args.k = search rules in
    let refused = subst (λ (z : ℤ). (r : Refusal) → (c.close.result ≡ Err r) ↔ ((sight_at (g.W.Views.shows c.args.self.now.views) z ≡ None) × (r ≡ refusal.View))) (to_z-of_z w64 c.args.k fits) c.close.ensures.refused in
    let closed = subst (λ (z : ℤ). g.W.Views.shows c.close.new.self ≡ slice_set (g.W.Views.shows c.args.self.now.views) (unsigned_abs z) None) (to_z-of_z w64 c.args.k fits) c.in-Ok.ensures.closed in
    close_given g.W.Views.shows c.args.self.now _ c.args.out.now.items c.write_ok.new.out.items refl c.args.k (Ok reply.Accepted) (λ none. let failed = (refused refusal.View).1 (none, refl) in let is = c.in-Ok.is in cc) closed refl refl (refl, c.in_ok-write_ok-in-Ok.ensures)

pub returns-in-Err-clause-gives : goal.returns-in-Err-clause-gives
returns-in-Err-clause-gives g c =
    let fits : FitsSigned w64 c.args.k = search rules in
    let refused = subst (λ (z : ℤ). (r : Refusal) → (c.close.result ≡ Err r) ↔ ((sight_at (g.W.Views.shows c.args.self.now.views) z ≡ None) × (r ≡ refusal.View))) (to_z-of_z w64 c.args.k fits) c.close.ensures.refused in
    let none = (refused c.in-Err.refusal).0 c.in-Err.is in
    refusal_given g.W.Views.shows c.args.self.now _ _ _ refl (λ (state : State). closed_by state c.args.k (sight_at (sights_of state) c.args.k)) c.in-Err.refusal c.refuse.result (close_refused g.W.Views.shows c.args.self.now c.args.k c.in-Err.refusal none.0 none.1) refl refl c.in-Err.ensures.unchanged c.refuse.ensures
