-- Where elements are in two sketches that agree on what they depend on, and how large the
-- coordinates there are.
use Rattle.std.proofs.Common.{◌≡◌, ◌≢◌, ◌∙◌, sym, ap, subst, refl, ℕ, zero, suc, ◌*◌, ◌≤◌, ◌<◌, ◌^◌, Bool, true, false, Option, None, Some, option_map, ℤ, pos, negsuc, ◌*ℤ◌, arith}
use Rattle.std.specs.Prelude.{nat_lt, unsigned_abs, if◌then◌else◌}
use Rattle.std.proofs.lemmas.Bool.{ltb-false}
use Rattle.std.proofs.lemmas.Int.{unsigned_abs-mul}
use Rattle.geo_triple.specs.declared.Triple.{Triple}
use Rattle.geo_triple.specs.Primitive.{IsPrimitiveOf, primitive_of}
use Rattle.geo_triple.specs.Sums.{Sizes, FitIn, largest_of, sizes_of}
use Rattle.geo_triple.specs.Triple.{multiple_of}
use Rattle.geo_triple.proofs.Sums.{a-largest, b-largest, c-largest}
use Rattle.geo_sketch.specs.declared.elements.Def.{Def}
use Rattle.geo_sketch.specs.declared.elements.Element.{Element}
use Rattle.geo_sketch.specs.Assignments.{current, first_parameter, first_value, magnitudes, second_parameter, second_value, setting_of}
use Rattle.geo_sketch.specs.Constructions.{AtNamed}
use Rattle.geo_sketch.specs.Dependence.{depends_on}
use Rattle.geo_sketch.specs.Heights.{heights_algebra}
use Rattle.geo_sketch.specs.Lookups.{IsLive, def_at, numbered}
use Rattle.geo_sketch.specs.declared.limits.TheConstants.{HEIGHT_LIMIT}
use Rattle.geo_sketch.specs.Sketches.{Drawing, IsDrawn}
use Rattle.geo_sketch.specs.Triples.{triple_algebra}
use Rattle.geo_sketch.proofs.AssignmentLaws.{current_first, current_second}
use Rattle.geo_sketch.proofs.ConstructionLaws.{at_named}
use Rattle.geo_sketch.proofs.SketchLaws.{constructed, drawn_built}
use Rattle.geo_sketch.proofs.ValueLaws.{computed_same, heights_agree, independent, triples_agree}
use Rattle.geo_height.proofs.HeightLaws.{fits}
use Rattle.geo_eval.specs.declared.here.Here.TheVariants.{Far}
use Rattle.geo_eval.specs.Shown.{current_heights, current_triple, here_by, here_of}
use Rattle.geo_view.specs.Entries.{IsNearHere}

module _ (one two : Drawing) (one_drawn : IsDrawn one) (two_drawn : IsDrawn two) where
  -- an element is in the same place where the sketches agree on all that it depends on
  pub same_here : (n : ℕ) → ((on : ℕ) → depends_on one.elements n on ≡ true → (def_at one.elements on ≡ def_at two.elements on) × (setting_of one.settings on ≡ setting_of two.settings on)) → here_of one n ≡ here_of two n
  same_here n agree =
      let b = drawn_built one one_drawn in
      let d = drawn_built two two_drawn in
      let firsts : (on : ℕ) → setting_of one.settings on ≡ setting_of two.settings on → current one.settings (first_parameter on) ≡ current two.settings (first_parameter on) = λ on s. current_first one.settings on ∙ ap first_value s ∙ sym (current_first two.settings on) in
      let seconds : (on : ℕ) → setting_of one.settings on ≡ setting_of two.settings on → current one.settings (second_parameter on) ≡ current two.settings (second_parameter on) = λ on s. current_second one.settings on ∙ ap second_value s ∙ sym (current_second two.settings on) in
      let heights : current_heights one n ≡ current_heights two n =
      computed_same one.elements one_drawn.rising b (heights_algebra (magnitudes (current one.settings))) (heights_algebra (magnitudes (current two.settings))) two.elements two_drawn.rising d n
      (λ on h. ((agree on h).0, heights_agree (magnitudes (current one.settings)) (magnitudes (current two.settings)) on (ap unsigned_abs (firsts on (agree on h).1)) (ap unsigned_abs (seconds on (agree on h).1)))) in
      let triples : current_triple one n ≡ current_triple two n =
      computed_same one.elements one_drawn.rising b (triple_algebra (current one.settings)) (triple_algebra (current two.settings)) two.elements two_drawn.rising d n
      (λ on h. ((agree on h).0, triples_agree (current one.settings) (current two.settings) on (firsts on (agree on h).1) (seconds on (agree on h).1))) in
      λ i. if nat_lt HEIGHT_LIMIT (largest_of (heights i)) then Far else here_by (primitive_of (triples i))

-- a sketch with an element, and the one without it
pub record Apart (large small : Drawing) (e : Element) : Type 0 where
  pub large_drawn : IsDrawn large
  pub small_drawn : IsDrawn small
  pub none : numbered small.elements e.number ≡ None
  pub others : (n : ℕ) → n ≢ e.number → numbered large.elements n ≡ numbered small.elements n
  pub settings : (n : ℕ) → n ≢ e.number → setting_of large.settings n ≡ setting_of small.settings n

module _ (large small : Drawing) (e : Element) (apart : Apart large small e) where
  unnamed : (m : ℕ) (d : Def) → def_at small.elements m ≡ Some d → AtNamed d (λ k. k ≢ e.number)
  unnamed m d h = by_found (numbered small.elements m) refl h
    where
      by_found : (o : Option Element) → numbered small.elements m ≡ o → option_map (λ x. x.def) o ≡ Some d → AtNamed d (λ k. k ≢ e.number)
      by_found None q g = cc
      by_found (Some x) q g =
          let same : x.def ≡ d = cc in
          let c = constructed small apart.small_drawn in
          subst (λ (d : Def). AtNamed d (λ k. k ≢ e.number)) same
          (at_named (λ k. (k < m) × IsLive small.elements k) (λ k. k ≢ e.number) x.def (λ k live p. let none : numbered small.elements k ≡ None = rw p apart.none in let some = live.1.1 in cc) (c.named m x q))

  -- all other elements are where they are
  pub others_here : (n : ℕ) → n ≢ e.number → here_of small n ≡ here_of large n
  others_here n ne =
      let b = drawn_built small apart.small_drawn in
      same_here small large apart.small_drawn apart.large_drawn n
      (λ on h. let o : on ≢ e.number = λ q. (let free = independent small.elements apart.small_drawn.rising b e.number unnamed n ne in let dependent : depends_on small.elements n e.number ≡ true = rw (← q) h in cc) in
      (ap (option_map (λ (x : Element). x.def)) (sym (apart.others on o)), sym (apart.settings on o)))

-- ---- coordinates lie within the limit of what is shown
factor_below : (g u : ℤ) → g ≢ pos 0 → unsigned_abs u ≤ unsigned_abs (g *ℤ u)
factor_below g u ne = omega (arith, unsigned_abs-mul g u, at_least_one g ne, grows (unsigned_abs g) (unsigned_abs u))
  where
    at_least_one : (g : ℤ) → g ≢ pos 0 → 1 ≤ unsigned_abs g
    at_least_one (pos zero) ne = absurd (ne refl)
    at_least_one (pos (suc n)) ne = omega arith
    at_least_one (negsuc n) ne = omega arith

    grows : (w x : ℕ) → 1 ≤ w → x ≤ w * x
    grows zero x h = absurd (omega (arith, h))
    grows (suc w) x h = omega arith

-- a primitive triple is at most as large as the triple that it is of
primitive_near : (t u : Triple) (limit : ℕ) → IsPrimitiveOf t u → unsigned_abs t.a ≤ limit → unsigned_abs t.b ≤ limit → unsigned_abs t.c ≤ limit → (unsigned_abs u.a ≤ limit) × (unsigned_abs u.b ≤ limit) × (unsigned_abs u.c ≤ limit)
unfolding multiple_of
primitive_near t u limit primitive a b c =
    let g = primitive.multiple.0 in
    let ne = primitive.multiple.1 in
    let is = primitive.multiple.2 in (
      omega (arith, factor_below g u.a ne, ap (λ (t : Triple). unsigned_abs t.a) is, a),
      omega (arith, factor_below g u.b ne, ap (λ (t : Triple). unsigned_abs t.b) is, b),
      omega (arith, factor_below g u.c ne, ap (λ (t : Triple). unsigned_abs t.c) is, c),
    )

module _ (law : (t u : Triple) → primitive_of t ≡ Some u → IsPrimitiveOf t u) (drawing : Drawing) (drawn : IsDrawn drawing) where
  pub near_here : (n : ℕ) → IsNearHere (here_of drawing n)
  near_here n = by_height (nat_lt HEIGHT_LIMIT (largest_of heights)) refl
    where
      heights : Sizes
      heights = current_heights drawing n

      fit : FitIn (sizes_of (current_triple drawing n)) heights
      fit = fits drawing.elements (constructed drawing drawn) (current drawing.settings) (magnitudes (current drawing.settings)) (λ p. omega arith) n

      by_triple : largest_of heights ≤ HEIGHT_LIMIT → (o : Option Triple) → primitive_of (current_triple drawing n) ≡ o → IsNearHere (here_by o)
      by_triple low None q = tt
      by_triple low (Some u) q =
          primitive_near (current_triple drawing n) u (2 ^ 41) (law (current_triple drawing n) u q)
          (omega (arith, fit.a, a-largest heights, low)) (omega (arith, fit.b, b-largest heights, low)) (omega (arith, fit.c, c-largest heights, low))

      by_height : (b : Bool) → nat_lt HEIGHT_LIMIT (largest_of heights) ≡ b → IsNearHere (if b then Far else here_by (primitive_of (current_triple drawing n)))
      by_height true q = tt
      by_height false q = by_triple (ltb-false HEIGHT_LIMIT (largest_of heights) q) (primitive_of (current_triple drawing n)) refl
