-- A part of a construction that holds, with each element, all on which it depends: by
-- itself, under the names of the numbers, it is a construction with the same values.
use Rattle.std.proofs.Common.{◌≡◌, ◌∙◌, sym, ap, subst, refl, ℕ, ◌+◌, ◌<◌, ◌≤◌, ◌==◌, if◌then◌else◌, Bool, true, false, Option, None, Some, option_map, List, [], ◌∷◌, length, map, arith}
use Rattle.std.specs.Prelude.{filter, sum_by}
use Rattle.std.proofs.lemmas.Bool.{cond_both, eqb-true}
use Rattle.std.proofs.lemmas.List.Sums.{sum_by-cons}
use Rattle.geo_sketch.specs.declared.elements.Element.{Element}
use Rattle.geo_sketch.specs.Constructions.{Algebra, computed, AtNamed, IsConstruction}
use Rattle.geo_sketch.specs.Dependence.{depends_on}
use Rattle.geo_sketch.specs.Lookups.{def_at, kind_at, numbered, IsLive, Rises}
use Rattle.geo_sketch.specs.Needs.{entry_of}
use Rattle.geo_sketch.specs.PlainHeights.{plain_height_algebra, threes}
use Rattle.geo_sketch.specs.Rebuilding.{listed, AreSound}
use Rattle.geo_sketch.specs.Sketches.{IsDefined, element_parameters}
use Rattle.geo_sketch.proofs.ConstructionLaws.{at_named, both_named}
use Rattle.geo_sketch.proofs.NeedLaws.{depends_on_named}
use Rattle.geo_sketch.proofs.NumberLaws.{came_from, mapped_twice, rises_lower}
use Rattle.geo_sketch.proofs.SketchLaws.{defined_same}
use Rattle.geo_sketch.proofs.TableLaws.{built}
use Rattle.geo_sketch.proofs.ValueLaws.{agree_itself, computed_same}

-- the element under the name that its number gives it
abbrev pub renamed : Element → Element
renamed e = listed (entry_of e)

module _ (test : ℕ → Bool) where
  abbrev passing : List Element → List Element
  passing es = filter (λ (e : Element). test e.number) es

  -- the elements whose numbers pass
  abbrev pub part : List Element → List Element
  part es = map listed (map entry_of (passing es))

  part_found : (es : List Element) (n : ℕ) → numbered (part es) n ≡ (if test n then option_map renamed (numbered es n) else None)
  part_found [] n = cond_both (test n) None None (λ (o : Option Element). None ≡ o) (λ t. refl) (λ t. refl)
  part_found (e ∷ es) n = by_tests (test e.number) (e.number == n) refl refl (part_found es n)
    where
      by_tests : (t u : Bool) → test e.number ≡ t → (e.number == n) ≡ u → numbered (part es) n ≡ (if test n then option_map renamed (numbered es n) else None) → numbered (map listed (map entry_of (if t then e ∷ passing es else passing es))) n ≡ (if test n then option_map renamed (if u then Some e else numbered es n) else None)
      by_tests true true t u h = let passes : test n ≡ true = ap test (sym (eqb-true e.number n u)) ∙ t in rw (u, passes) refl
      by_tests true false t u h = rw u h
      by_tests false true t u h = let fails : test n ≡ false = ap test (sym (eqb-true e.number n u)) ∙ t in rw fails (h ∙ rw fails refl)
      by_tests false false t u h = h

  found : (es : List Element) (n : ℕ) → test n ≡ true → numbered (part es) n ≡ option_map renamed (numbered es n)
  found es n t = part_found es n ∙ rw t refl

  -- an element of the part was there, and passes
  was_there : (es : List Element) (n : ℕ) (e : Element) → numbered (part es) n ≡ Some e → (test n ≡ true) × ((x : Element) × ((numbered es n ≡ Some x) × (renamed x ≡ e)))
  was_there es n e h = by_test (test n) refl (sym (part_found es n) ∙ h)
    where
      by_test : (t : Bool) → test n ≡ t → (if t then option_map renamed (numbered es n) else None) ≡ Some e → (test n ≡ true) × ((x : Element) × ((numbered es n ≡ Some x) × (renamed x ≡ e)))
      by_test true t g = (t, came_from renamed (numbered es n) e g)
      by_test false t g = cc

  pub kind_kept : (es : List Element) (n : ℕ) → test n ≡ true → kind_at (part es) n ≡ kind_at es n
  kind_kept es n t = ap (option_map (λ (e : Element). e.kind)) (found es n t) ∙ mapped_twice (λ e. e.kind) renamed (numbered es n)

  def_kept : (es : List Element) (n : ℕ) → test n ≡ true → def_at (part es) n ≡ def_at es n
  def_kept es n t = ap (option_map (λ (e : Element). e.def)) (found es n t) ∙ mapped_twice (λ e. e.def) renamed (numbered es n)

  rises_part : (low : ℕ) (es : List Element) → Rises low es → Rises low (part es)
  rises_part low [] r = tt
  rises_part low (e ∷ es) r =
      cond_both (test e.number) (e ∷ passing es) (passing es) (λ fs. Rises low (map listed (map entry_of fs)))
      (λ t. (r.0, rises_part (e.number + 1) es r.1))
      (λ t. rises_lower low (e.number + 1) (part es) (omega (arith, r.0)) (rises_part (e.number + 1) es r.1))

  fewer : (es : List Element) → (length (part es) ≤ length es) × (sum_by element_parameters (part es) ≤ sum_by element_parameters es)
  fewer [] = (omega arith, omega arith)
  fewer (e ∷ es) =
      let all = sum_by-cons element_parameters e es in
      let rest = fewer es in
      cond_both (test e.number) (e ∷ passing es) (passing es) (λ fs. (length (map listed (map entry_of fs)) ≤ length (e ∷ es)) × (sum_by element_parameters (map listed (map entry_of fs)) ≤ sum_by element_parameters (e ∷ es)))
      (λ t. (omega (arith, rest.0), omega (arith, all, rest.1, sum_by-cons element_parameters (renamed e) (part es))))
      (λ t. (omega (arith, rest.0), omega (arith, all, rest.1)))

  module _ (es : List Element) (c : IsConstruction es) (closed : (n on : ℕ) → test n ≡ true → depends_on es n on ≡ true → test on ≡ true) where
    named_pass : (n : ℕ) (x : Element) → numbered es n ≡ Some x → test n ≡ true → AtNamed x.def (λ k. test k ≡ true)
    named_pass n x q t = at_named (λ k. depends_on es n k ≡ true) (λ k. test k ≡ true) x.def (λ k h. closed n k t h) (depends_on_named es c n x q)

    part_construction : IsConstruction (part es)
    part_construction = record {
      rising = rises_part 0 es c.rising;
      named = λ n e q.
          let there = was_there es n e q in
          let x = there.1.0 in
          subst (λ (y : Element). AtNamed y.def (λ k. (k < n) × IsLive (part es) k)) there.1.1.1
          (both_named (λ k. (k < n) × IsLive es k) (λ k. test k ≡ true) (λ k. (k < n) × IsLive (part es) k) x.def (λ k p t. (p.0, (renamed p.1.0, found es k t ∙ ap (option_map renamed) p.1.1))) (c.named n x there.1.1.0) (named_pass n x there.1.1.0 there.0));
    }

    pub part_values : {X : Type 0} (A : Algebra X) (n : ℕ) → test n ≡ true → computed A (part es) n ≡ computed A es n
    part_values A n t =
        sym (computed_same es c.rising (built es c) A A (part es) part_construction.rising (built (part es) part_construction) n (λ on depends. (sym (def_kept es on (closed n on t depends)), agree_itself A on)))

    pub part_sound : AreSound es → AreSound (part es)
    part_sound sound = record {
      rising = rises_part 0 es sound.rising;
      numbers_room = λ n e q. let there = was_there es n e q in sound.numbers_room n there.1.0 there.1.1.0;
      defined = λ n e q.
          let there = was_there es n e q in
          let x = there.1.0 in
          subst (λ (y : Element). IsDefined (part es) y.number y.kind y.def) there.1.1.1
          (defined_same es (part es) x.number x.kind x.def (at_named (λ k. test k ≡ true) (λ k. kind_at (part es) k ≡ kind_at es k) x.def (λ k t. kind_kept es k t) (named_pass n x there.1.1.0 there.0)) (sound.defined n x there.1.1.0));
      low = λ n e q. let there = was_there es n e q in rw (part_values (plain_height_algebra threes) n there.0) (sound.low n there.1.0 there.1.1.0);
      elements_room = let few = fewer es in omega (arith, few.0, sound.elements_room);
      parameters_room = let few = fewer es in omega (arith, few.1, sound.parameters_room);
    }
