-- A sketch with other values of one element is a sketch.
-- lemmas for other crates
use Rattle.std.proofs.Common.{◌≡◌, sym, subst, refl, inl, inr, ℕ, ◌<◌, ◌==◌, Bool, true, false, Option, None, Some, List, arith}
use Rattle.std.specs.Prelude.{slice_set, not, Ok, Err}
use Rattle.std.proofs.lemmas.Bool.{cond_both, cases_eq, eqb-true, eqb-false}
use Rattle.std.proofs.lemmas.List.{get_or-set_same, get_or-set_other, length-set}
use Rattle.geo_sketch.specs.declared.elements.Setting.{Setting}
use Rattle.geo_sketch.specs.declared.elements.Setting.TheVariants as setting
use Rattle.geo_sketch.specs.declared.elements.Element.{Element}
use Rattle.geo_sketch.specs.declared.statements.Statement.{Statement}
use Rattle.geo_sketch.specs.declared.changes.Delta.{Delta}
use Rattle.geo_sketch.specs.declared.changes.Delta.TheVariants as delta
use Rattle.geo_sketch.specs.declared.changes.Refusal.TheVariants as refusal
use Rattle.geo_sketch.specs.Assignments.{setting_of}
use Rattle.geo_sketch.specs.Sketches.{Drawing, IsDrawn, IsEntry, IsSketch, parameter_count, values_in}
use Rattle.geo_sketch.specs.Lookups.{numbered, find_named}
use Rattle.geo_sketch.specs.Changes.{LeadsFrom}
use Rattle.geo_sketch.specs.Drags.{is_fixed_for, dragging, drag_of}
use Rattle.geo_sketch.proofs.AdditionLaws.{found_by_name}
use Rattle.geo_sketch.proofs.ClaimLaws.{neither}

not_not : (b : Bool) → not b ≡ false → b ≡ true
not_not true h = refl
not_not false h = cc

module _ (es : List Element) (ss : List Setting) (cs : List Statement) (e : Element) (s : Setting) (sketch : IsSketch es ss cs) (found : numbered es e.number ≡ Some e) (fits : values_in s ≡ parameter_count e.def) where
  each_set : (m : ℕ) → IsEntry es (numbered es m) (setting_of (slice_set ss e.number s) m)
  each_set m =
      elim (cases_eq m e.number) [
        | inl q ↦ (let P : ℕ → Type 0 = λ k. IsEntry es (numbered es k) (setting_of (slice_set ss e.number s) k) in
            let entry = subst (λ (o : Option Element). IsEntry es o (setting_of ss e.number)) found (sketch.each e.number) in
            subst P (sym q) (rw (found, get_or-set_same ss e.number s setting.None (sketch.given e.number e found)) (entry.0, fits, entry.2)))
        | inr ne ↦ rw (get_or-set_other ss e.number m s setting.None ne) (sketch.each m)
      ]

  pub dragged_drawn : IsSketch es (slice_set ss e.number s) cs
  dragged_drawn = record {
    rising = sketch.rising;
    given = λ m f q. rw (length-set ss e.number s) (sketch.given m f q);
    each = each_set;
    apart = sketch.apart;
    posed = sketch.posed;
    elements_room = sketch.elements_room;
    parameters_room = sketch.parameters_room;
    numbers_room = rw (length-set ss e.number s) sketch.numbers_room;
    claims_room = sketch.claims_room;
  }

pub drag_leads : (drawing : Drawing) (name : List ℕ) (to : Setting) (d : Delta) → IsDrawn drawing → drag_of drawing name to ≡ Ok d → LeadsFrom drawing d
drag_leads drawing name to d sketch h = by_found (find_named drawing.elements name) refl h
  where
    by_found : (o : Option Element) → find_named drawing.elements name ≡ o → dragging drawing o to ≡ Ok d → LeadsFrom drawing d
    by_found None q g = cc
    by_found (Some e) q g =
        let found = (found_by_name 0 drawing.elements name e sketch.rising q).0 in
        cond_both (is_fixed_for e.def to) (Err refusal.Fixed) (Ok (delta.Dragged e.number (setting_of drawing.settings e.number) to)) (λ r. r ≡ Ok d → LeadsFrom drawing d)
        (λ t k. cc)
        (λ t k. let same : delta.Dragged e.number (setting_of drawing.settings e.number) to ≡ d = cc in
        let each = neither (parameter_count e.def == 0) (not (values_in to == parameter_count e.def)) t in
        let fits : values_in to ≡ parameter_count e.def = eqb-true (values_in to) (parameter_count e.def) (not_not (values_in to == parameter_count e.def) each.1) in
        let entry = subst (λ (o : Option Element). IsEntry drawing.elements o (setting_of drawing.settings e.number)) found (sketch.each e.number) in
        let some : 0 < values_in (setting_of drawing.settings e.number) = omega (arith, entry.1, eqb-false (parameter_count e.def) 0 each.0) in
        subst (λ (d : Delta). LeadsFrom drawing d) same
        record { records = (some, refl); drawn = dragged_drawn drawing.elements drawing.settings drawing.claims e to sketch found fits })
        g
