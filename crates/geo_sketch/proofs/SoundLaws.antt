-- Which lists make a sketch is computed, and the elements of a sketch make one.
-- lemmas for other crates
use Rattle.std.proofs.Common.{◌≡◌, sym, ap, subst, refl, ℕ, ◌++◌, if◌then◌else◌, Bool, true, false, Option, None, Some, List, [], ◌∷◌, map, arith, append_assoc, append-nil}
use Rattle.std.specs.Prelude.{◌&&◌, SomeIff}
use Rattle.std.specs.Bool.{Decides}
use Rattle.geo_sketch.specs.declared.elements.Def.{Def}
use Rattle.geo_sketch.specs.declared.elements.Kind.{Kind}
use Rattle.geo_sketch.specs.declared.elements.Element.{Element}
use Rattle.geo_sketch.specs.Followers.{can_all_follow, can_follow}
use Rattle.geo_sketch.specs.PlainHeights.{IsTall}
use Rattle.geo_sketch.specs.Rebuilding.{at_zero, is_sound, listed, rebuilt, AreSound}
use Rattle.geo_sketch.specs.Sketches.{Drawing, IsDrawn}
use Rattle.geo_sketch.proofs.SketchLaws.{entry}
use Rattle.geo_sketch.proofs.NumberLaws.{number_found}
use Rattle.geo_sketch.proofs.RebuildLaws.{all_front_sound, decides_following, listed_names, sound_drawn}

pub drawn_sound : (drawing : Drawing) → IsDrawn drawing → AreSound drawing.elements
drawn_sound drawing drawn = record {
  rising = drawn.rising;
  numbers_room = λ n e q. omega (arith, drawn.given n e q, drawn.numbers_room);
  defined = λ n e q. (entry drawing.elements drawing.settings drawing.claims drawn n e q).0;
  low = λ n e q. subst (λ (m : ℕ). ¬ IsTall drawing.elements m) (number_found drawing.elements n e q) (entry drawing.elements drawing.settings drawing.claims drawn n e q).2;
  elements_room = drawn.elements_room;
  parameters_room = drawn.parameters_room;
}

-- where the earlier ones are sound, the others can follow exactly where all are
all_following : (earlier es : List Element) → AreSound earlier → Decides (can_all_follow earlier es) (AreSound (earlier ++ es))
all_following earlier [] sound = (λ t. subst (λ (fs : List Element). AreSound fs) (sym (append-nil earlier)) sound, λ s. refl)
all_following earlier (e ∷ es) sound = by_test (can_follow earlier e.number e.kind e.def) refl (λ longer. all_following (earlier ++ e ∷ []) es longer)
  where
    whole : (earlier ++ e ∷ []) ++ es ≡ earlier ++ e ∷ es
    whole = append_assoc earlier (e ∷ []) es

    by_test : (t : Bool) → can_follow earlier e.number e.kind e.def ≡ t → (AreSound (earlier ++ e ∷ []) → Decides (can_all_follow (earlier ++ e ∷ []) es) (AreSound ((earlier ++ e ∷ []) ++ es))) → Decides (t && can_all_follow (earlier ++ e ∷ []) es) (AreSound (earlier ++ e ∷ es))
    by_test true t further = subst (λ (fs : List Element). Decides (can_all_follow (earlier ++ e ∷ []) es) (AreSound fs)) whole (further ((decides_following earlier e sound).0 t))
    by_test false t further = (λ f. cc, λ s. let can = (decides_following earlier e sound).1 (all_front_sound (earlier ++ e ∷ []) es (subst (λ (fs : List Element). AreSound fs) (sym whole) s)) in cc)

pub decides_sound : (es : List Element) → Decides (is_sound es) (AreSound es)
decides_sound es = all_following [] es record { rising = tt; numbers_room = λ n e q. cc; defined = λ n e q. cc; low = λ n e q. cc; elements_room = omega arith; parameters_room = omega arith }

-- what is rebuilt
pub rebuilt_where : (list : List (ℕ × Kind × Def)) (o : Option Drawing) → SomeIff o (AreSound (map listed list)) (at_zero (map listed list)) → o ≡ rebuilt list
rebuilt_where list o h = by_test o (is_sound (map listed list)) refl h
  where
    by_test : (o : Option Drawing) (t : Bool) → is_sound (map listed list) ≡ t → SomeIff o (AreSound (map listed list)) (at_zero (map listed list)) → o ≡ rebuilt list
    by_test None true t h = absurd (h ((decides_sound (map listed list)).0 t))
    by_test None false t h = rw t refl
    by_test (Some x) true t h = rw t (ap Some h.1)
    by_test (Some x) false t h = let sound = (decides_sound (map listed list)).1 h.0 in cc

pub rebuilt_drawn : (list : List (ℕ × Kind × Def)) (drawing : Drawing) → rebuilt list ≡ Some drawing → IsDrawn drawing
rebuilt_drawn list drawing h = by_test (is_sound (map listed list)) refl h
  where
    by_test : (t : Bool) → is_sound (map listed list) ≡ t → (if t then Some (at_zero (map listed list)) else None) ≡ Some drawing → IsDrawn drawing
    by_test true t h = let same : at_zero (map listed list) ≡ drawing = cc in subst (λ (k : Drawing). IsDrawn k) same (sound_drawn (map listed list) ((decides_sound (map listed list)).0 t) (listed_names list))
    by_test false t h = cc
