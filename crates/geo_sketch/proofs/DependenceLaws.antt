-- What reaches from each element to those that its definition names reaches to all that
-- it depends on.
-- lemmas for other crates
use Rattle.std.proofs.Common.{◌≡◌, subst, refl, ℕ, ◌<◌, ◌==◌, Bool, true, false, Some, List}
use Rattle.std.specs.Prelude.{◌||◌}
use Rattle.std.proofs.lemmas.Bool.{eqb-true}
use Rattle.geo_sketch.specs.declared.elements.Def.{Def}
use Rattle.geo_sketch.specs.declared.elements.Def.TheVariants.{Free, Fixed, Cut, Blend, Cross}
use Rattle.geo_sketch.specs.declared.elements.Element.{Element}
use Rattle.geo_sketch.specs.Constructions.{by_def, computed, AtNamed, IsConstruction}
use Rattle.geo_sketch.specs.Dependence.{depends_algebra, depends_on}
use Rattle.geo_sketch.specs.Lookups.{numbered, IsLive}
use Rattle.geo_sketch.proofs.ConstructionLaws.{both_named}
use Rattle.geo_sketch.proofs.LiveElements.{related}

pub by_either : {X : Type 0} (a b : Bool) → (a ≡ true → X) → (b ≡ true → X) → (a || b) ≡ true → X
by_either true b f g t = f refl
by_either false b f g t = g t

-- X holds where it holds of the element itself and of each named one that the other is depended on by
depends_made : {X : Type 0} (d : Def) (n on : ℕ) (f : ℕ → Bool) → (n ≡ on → X) → AtNamed d (λ k. f k ≡ true → X) → by_def (depends_algebra on) n d f ≡ true → X
depends_made Free n on f own s t = own (eqb-true n on t)
depends_made (Fixed a b c) n on f own s t = own (eqb-true n on t)
depends_made (Cut k) n on f own s t = by_either (n == on) (f k) (λ u. own (eqb-true n on u)) s t
depends_made (Blend k l) n on f own s t = by_either (n == on) (f k || f l) (λ u. own (eqb-true n on u)) (λ u. by_either (f k) (f l) s.0 s.1 u) t
depends_made (Cross k l) n on f own s t = by_either (n == on) (f k || f l) (λ u. own (eqb-true n on u)) (λ u. by_either (f k) (f l) s.0 s.1 u) t

pub reaches : (es : List Element) → IsConstruction es → (R : ℕ → ℕ → Type 0) → ((n : ℕ) → R n n) → ((i j k : ℕ) → R i j → R j k → R i k)
    → ((n : ℕ) (e : Element) → numbered es n ≡ Some e → AtNamed e.def (λ k. R n k)) → (n on : ℕ) → depends_on es n on ≡ true → R n on
reaches es c R itself onward named n on t =
    related es c (depends_algebra on) (depends_algebra on) (λ m b same. b ≡ true → R m on)
    (λ m q u. subst (λ (k : ℕ). R m k) (eqb-true m on u) (itself m))
    (λ m e q s u. depends_made e.def m on (computed (depends_algebra on) es) (λ p. subst (λ (k : ℕ). R m k) p (itself m))
    (both_named (λ k. (k < m) × IsLive es k × (depends_on es k on ≡ true → R k on)) (λ k. R m k) (λ k. depends_on es k on ≡ true → R m on) e.def (λ k p far v. onward m k on far (p.2 v)) s (named m e q)) u)
    n t
