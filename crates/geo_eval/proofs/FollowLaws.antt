-- A scene follows a drag by what depends on the dragged element alone.
use Rattle.std.proofs.Common.{◌≡◌, ◌≢◌, ◌∙◌, sym, ap, refl, ℕ, ◌+◌, ◌<◌, ◌≤◌, Bool, true, false, Option, None, Some, option_map, List, length, get_or, set, take, if◌then◌else◌, add-one, arith}
use Rattle.std.specs.Prelude.{count_by}
use Rattle.std.proofs.lemmas.List.{get_or-set_same, get_or-set_other, length-set}
use Rattle.std.proofs.lemmas.List.Sums.{count_by_more_yes, count_by_more_no}
use Rattle.geo_sketch.specs.declared.elements.Setting.{Setting}
use Rattle.geo_sketch.specs.declared.elements.Setting.TheVariants as setting
use Rattle.geo_sketch.specs.declared.elements.Element.{Element}
use Rattle.geo_sketch.specs.declared.changes.Delta.TheVariants.{Dragged}
use Rattle.geo_sketch.specs.Assignments.{setting_of}
use Rattle.geo_sketch.specs.Constructions.{by_def}
use Rattle.geo_sketch.specs.Lookups.{def_at, numbered}
use Rattle.geo_sketch.specs.Dependence.{depends_algebra, depends_on}
use Rattle.geo_sketch.specs.Sketches.{Drawing, IsDrawn, next_number}
use Rattle.geo_sketch.specs.Tables.{place, Filled}
use Rattle.geo_sketch.proofs.ChangeLaws.{taken_back_drawn}
use Rattle.geo_sketch.proofs.SketchLaws.{constructed}
use Rattle.geo_sketch.proofs.TableLaws.{filled_more, place_within, value_here}
use Rattle.geo_eval.specs.declared.evaluation.Reach.{Reach}
use Rattle.geo_eval.specs.Reaches.{slot_at, kept_of, current_reach, AreKept}
use Rattle.geo_eval.specs.Scenes.{IsSceneOf, Leads, before_of}
use Rattle.geo_eval.proofs.ReachLaws.{is_there, kept_more}
use Rattle.geo_eval.proofs.SceneLaws.{same_reach}

-- two sketches that differ in the values of one element
pub record Moved (before after : Drawing) (on : ℕ) : Type 0 where
  pub before_drawn : IsDrawn before
  pub after_drawn : IsDrawn after
  pub elements : before.elements ≡ after.elements
  pub settings : (n : ℕ) → n ≢ on → setting_of before.settings n ≡ setting_of after.settings n
  pub next : next_number before ≡ next_number after

pub dragged_moved : (drawing : Drawing) (n : ℕ) (from to : Setting) (forward : Bool) → IsDrawn drawing → Leads drawing (Dragged n from to) forward → Moved (before_of drawing (Dragged n from to) forward) drawing n
dragged_moved drawing n from to true drawn leads = record {
  before_drawn = taken_back_drawn drawing (Dragged n from to) leads;
  after_drawn = drawn;
  elements = refl;
  settings = λ m ne. get_or-set_other drawing.settings n m from setting.None ne;
  next = length-set drawing.settings n from;
}
dragged_moved drawing n from to false drawn leads = record {
  before_drawn = leads.drawn;
  after_drawn = drawn;
  elements = refl;
  settings = λ m ne. get_or-set_other drawing.settings n m to setting.None ne;
  next = length-set drawing.settings n to;
}

-- how far a scene has followed: the elements at the first so many places are kept as
-- after the drag, the others as before it
pub record Following (before after : Drawing) (on : ℕ) (moved : List Bool) (slots : List (Option Reach)) (i : ℕ) : Type 0 where
  pub known : Filled (depends_algebra on) after.elements false moved i
  pub done : AreKept after slots i
  pub rest : (n : ℕ) (e : Element) → numbered after.elements n ≡ Some e → i ≤ place after.elements n → slot_at slots n ≡ kept_of before n
  pub none : (n : ℕ) → numbered after.elements n ≡ None → slot_at slots n ≡ None
  pub given : length slots ≡ next_number after

module _ (before after : Drawing) (on : ℕ) (both : Moved before after on) where
  -- what does not depend on the dragged element stays where it is
  stays : (n : ℕ) → depends_on after.elements n on ≡ false → kept_of before n ≡ kept_of after n
  stays n apart =
      let reach = same_reach after before both.after_drawn both.before_drawn n (λ m h. (ap (λ es. def_at es m) (sym both.elements), sym (both.settings m (λ q. let dependent : depends_on after.elements n on ≡ true = rw (← q) h in cc)))) in
      λ i. option_map (λ (x : Element). sym reach i) (numbered (both.elements i) n)

  pub follow_start : (moved : List Bool) (slots : List (Option Reach)) → IsSceneOf slots before → Following before after on moved slots 0
  follow_start moved slots scene = record {
    known = λ n e q h. absurd (omega (arith, h));
    done = λ n e q h. absurd (omega (arith, h));
    rest = λ n e q h. scene.each n;
    none = λ n q. scene.each n ∙ ap (option_map (λ (x : Element). current_reach before n)) (ap (λ es. numbered es n) both.elements ∙ q);
    given = scene.given ∙ both.next;
  }

  pub follow_end : (moved : List Bool) (slots : List (Option Reach)) (i : ℕ) → length after.elements ≤ i → Following before after on moved slots i → IsSceneOf slots after
  follow_end moved slots i all followed = record { given = followed.given; each = λ n. by_found n (numbered after.elements n) refl }
    where
      by_found : (n : ℕ) (o : Option Element) → numbered after.elements n ≡ o → slot_at slots n ≡ kept_of after n
      by_found n None q = followed.none n q ∙ sym (ap (option_map (λ (x : Element). current_reach after n)) q)
      by_found n (Some e) q = followed.done n e q (omega (arith, all, place_within after.elements n e q))

  module _ (moved : List Bool) (slots : List (Option Reach)) (i : ℕ) (x : Element) (within : i < length after.elements) (same : x ≡ get_or after.elements i x) (followed : Following before after on moved slots i) where
    there : (numbered after.elements x.number ≡ Some x) × (place after.elements x.number ≡ i)
    there = is_there after.elements i x both.after_drawn.rising within same

    -- whether the element at this place depends on the dragged one, by what is known of those before it
    abbrev pub by_those_before : Bool
    by_those_before = by_def (depends_algebra on) x.number x.def (λ k. get_or moved (place after.elements k) false)

    pub moves_here : by_those_before ≡ depends_on after.elements x.number on
    moves_here = value_here (depends_algebra on) after.elements false moved i x.number x (constructed after both.after_drawn) followed.known there.0 (omega (arith, there.1))

    known_more : (m : Bool) → m ≡ by_those_before → i < length moved → Filled (depends_algebra on) after.elements false (set moved i m) (i + 1)
    known_more m is room =
        let more = filled_more (depends_algebra on) after.elements false moved i x (constructed after both.after_drawn) within room followed.known in
        rw (is, add-one) (rw (← same) at more)

    -- one more place, where what is kept of the other elements stays
    more : (m : Bool) (new : List (Option Reach)) → m ≡ by_those_before → i < length moved → length new ≡ length slots → ((n : ℕ) → n ≢ x.number → slot_at new n ≡ slot_at slots n) → slot_at new x.number ≡ Some (current_reach after x.number) → Following before after on (set moved i m) new (i + 1)
    more m new is room count others own =
        record {
          known = known_more m is room;
          done = kept_more after slots new i x there.0 there.1 own others followed.done;
          rest = λ n e q past. others n (λ p. absurd (omega (arith, past, there.1, ap (place after.elements) p))) ∙ followed.rest n e q (omega (arith, past));
          none = λ n q. others n (λ p. let some : numbered after.elements n ≡ Some x = ap (numbered after.elements) p ∙ there.0 in cc) ∙ followed.none n q;
          given = count ∙ followed.given;
        }

    pub follow_more : (m : Bool) → m ≡ by_those_before → i < length moved → x.number < length slots → Following before after on (set moved i m) (if m then set slots x.number (Some (current_reach after x.number)) else slots) (i + 1)
    follow_more true is room inside =
        more true (set slots x.number (Some (current_reach after x.number))) is room (length-set slots x.number (Some (current_reach after x.number))) (λ n ne. get_or-set_other slots x.number n (Some (current_reach after x.number)) None ne) (get_or-set_same slots x.number (Some (current_reach after x.number)) None inside)
    follow_more false is room inside =
        more false slots is room refl (λ n ne. refl)
        (followed.rest x.number x there.0 (omega (arith, there.1)) ∙ stays x.number (sym (is ∙ moves_here)) ∙ ap (option_map (λ (y : Element). current_reach after x.number)) there.0)

-- one more element is counted, or is not
pub count_more : {X : Type 0} (p : X → Bool) (xs : List X) (i : ℕ) (d : X) (m : Bool) → i < length xs → m ≡ p (get_or xs i d) → count_by p (take (i + 1) xs) ≡ count_by p (take i xs) + (if m then 1 else 0)
count_more p xs i d true within is = count_by_more_yes p xs i d within (sym is)
count_more p xs i d false within is = count_by_more_no p xs i d within (sym is) ∙ omega arith
