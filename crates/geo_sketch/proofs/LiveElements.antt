-- What is computed along a construction for each live element, and for what is none.
-- lemmas for other crates
use Rattle.std.proofs.Common.{◌≡◌, ◌∙◌, sym, ap, subst, refl, ℕ, zero, suc, ◌<◌, Option, None, Some, option_map, List, length, get_or, arith}
use Rattle.geo_sketch.specs.declared.elements.Def.{Def}
use Rattle.geo_sketch.specs.declared.elements.Element.{Element}
use Rattle.geo_sketch.specs.Constructions.{Algebra, by_def, by_found, computed, AtNamed, IsConstruction}
use Rattle.geo_sketch.specs.Lookups.{numbered, Rises, IsLive}
use Rattle.geo_sketch.proofs.ConstructionLaws.{at_named, computed_step}
use Rattle.geo_sketch.proofs.TableLaws.{built, number_at}

-- what stands in a list of elements is live
pub live_at : (es fs : List Element) (i : ℕ) (x : Element) → Rises 0 es → fs ≡ es → i < length fs → IsLive es (get_or fs i x).number
live_at es fs i x rising same within = rw same (get_or es i x, (number_at 0 es i x rising (rw same at within)).0)

module _ (es : List Element) (c : IsConstruction es) where
  step_by : {X : Type 0} (A : Algebra X) (n : ℕ) (o : Option Element) → numbered es n ≡ o → computed A es n ≡ by_found A n (option_map (λ (e : Element). e.def) o) (computed A es)
  step_by A n o q = computed_step A es c.rising (built es c) n ∙ ap (λ (d : Option Def). by_found A n d (computed A es)) (ap (option_map (λ (e : Element). e.def)) q)

  -- the value of a live element is what its definition makes of all values
  pub live_step : {X : Type 0} (A : Algebra X) (n : ℕ) (e : Element) → numbered es n ≡ Some e → computed A es n ≡ by_def A n e.def (computed A es)
  live_step A n e q = step_by A n (Some e) q

  pub absent_step : {X : Type 0} (A : Algebra X) (n : ℕ) → numbered es n ≡ None → computed A es n ≡ A.absent n
  absent_step A n q = step_by A n None q

  -- what holds of two values wherever it holds of those of the named elements holds for each number
  module _ {X Y : Type 0} (A : Algebra X) (B : Algebra Y) (R : ℕ → X → Y → Type 0)
      (absent : (n : ℕ) → numbered es n ≡ None → R n (A.absent n) (B.absent n))
      (live : (n : ℕ) (e : Element) → numbered es n ≡ Some e → AtNamed e.def (λ k. (k < n) × IsLive es k × R k (computed A es k) (computed B es k)) → R n (by_def A n e.def (computed A es)) (by_def B n e.def (computed B es))) where
    abbrev Both : ℕ → Type 0
    Both n = R n (computed A es n) (computed B es n)

    by_number : (n : ℕ) (o : Option Element) → numbered es n ≡ o → ((k : ℕ) → k < n → Both k) → Both n
    by_number n None q smaller =
        subst (λ (x : X). R n x (computed B es n)) (sym (absent_step A n q)) (subst (λ (y : Y). R n (A.absent n) y) (sym (absent_step B n q)) (absent n q))
    by_number n (Some e) q smaller =
        let named = at_named (λ k. (k < n) × IsLive es k) (λ k. (k < n) × IsLive es k × Both k) e.def (λ k p. (p.0, p.1, smaller k p.0)) (c.named n e q) in
        subst (λ (x : X). R n x (computed B es n)) (sym (live_step A n e q)) (subst (λ (y : Y). R n (by_def A n e.def (computed A es)) y) (sym (live_step B n e q)) (live n e q named))

    within : (bound n : ℕ) → n < bound → Both n
    within zero n h = absurd (omega arith)
    within (suc bound) n h = by_number n (numbered es n) refl (λ k less. within bound k (omega arith))

    pub related : (n : ℕ) → R n (computed A es n) (computed B es n)
    related n = within (suc n) n (omega arith)
