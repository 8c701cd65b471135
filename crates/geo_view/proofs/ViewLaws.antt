-- Views follow each change of a sketch by what is handed on of it.
use Rattle.std.proofs.Common.{◌≡◌, ◌≢◌, ◌∙◌, sym, ap, subst, refl, ℕ, ◌+◌, ◌<◌, ◌++◌, ◌==◌, Bool, true, false, Option, None, Some, option_map, List, [], ◌∷◌, length, get_or, map, take, if◌then◌else◌, inl, inr, arith}
use Rattle.std.specs.Prelude.{nat_lt}
use Rattle.std.specs.List.{filter}
use Rattle.std.proofs.lemmas.Bool.{cases_order, cond_both, eq-eqb, ne_eqb}
use Rattle.std.proofs.lemmas.List.{get_or-set_other, get_or_append_left, get_or_past, length-append, append-nil, take_more}
use Rattle.geo_triple.specs.Primitive.{primitive_of}
use Rattle.geo_triple.specs.Sums.{largest_of}
use Rattle.geo_sketch.specs.declared.changes.Delta.{Delta}
use Rattle.geo_sketch.specs.declared.changes.Delta.TheVariants.{Added, Dropped, Dragged, Claimed, Dual}
use Rattle.geo_sketch.specs.declared.elements.Kind.{Kind}
use Rattle.geo_sketch.specs.declared.elements.Kind.TheVariants.{Point, Line}
use Rattle.geo_sketch.specs.declared.elements.Element.{Element}
use Rattle.geo_sketch.specs.declared.elements.Setting.{Setting}
use Rattle.geo_sketch.specs.declared.elements.Setting.TheVariants as setting
use Rattle.geo_sketch.specs.Assignments.{current, magnitudes, setting_of}
use Rattle.geo_sketch.specs.Changes.{LeadsFrom, LeadsTo, applied, exchanged, taken_back, without}
use Rattle.geo_sketch.specs.Dependence.{depends_on}
use Rattle.geo_sketch.specs.Heights.{heights_algebra}
use Rattle.geo_sketch.specs.Lookups.{Rises, numbered}
use Rattle.geo_sketch.specs.declared.limits.TheConstants.{HEIGHT_LIMIT}
use Rattle.geo_sketch.specs.Sketches.{Drawing, IsDrawn, other}
use Rattle.geo_sketch.specs.Triples.{triple_algebra}
use Rattle.geo_sketch.proofs.ChangeLaws.{applied_taken, taken_back_drawn, taken_back_leads}
use Rattle.geo_sketch.proofs.DualLaws.{computed_exchanged}
use Rattle.geo_sketch.proofs.NumberLaws.{found_from, gone, last_found, others_same, others_stay}
use Rattle.geo_sketch.proofs.TableLaws.{number_at}
use Rattle.geo_eval.specs.declared.here.Here.TheVariants.{Far}
use Rattle.geo_eval.specs.Scenes.{Leads, before_of}
use Rattle.geo_eval.specs.Shown.{here_by, here_of, shown, shown_of}
use Rattle.geo_view.specs.declared.shown.Change.TheVariants.{Put}
use Rattle.geo_view.specs.Entries.{put, seen, exchanged as turned, without as left}
use Rattle.geo_view.specs.Following.{changes_of}
use Rattle.geo_view.proofs.FollowLaws.{put_anew, put_back, put_last, taken_out}
use Rattle.geo_view.proofs.HereLaws.{Apart, others_here, same_here}

same_entry : (one two : Drawing) (e : Element) → here_of one e.number ≡ here_of two e.number → shown one e ≡ shown two e
same_entry one two e h = λ i. record { number = e.number; name = e.name; kind = e.kind; here = h i }

-- ---- elements in the same places have the same entries
same_entries : (one two : Drawing) (low : ℕ) (es : List Element) → Rises low es → ((e : Element) → numbered es e.number ≡ Some e → here_of one e.number ≡ here_of two e.number) → map (shown one) es ≡ map (shown two) es
same_entries one two low [] r same = refl
same_entries one two low (e ∷ es) r same =
    let rest = same_entries one two (e.number + 1) es r.1 (λ x h. same x (rw (ne_eqb e.number x.number (λ q. absurd (omega (arith, q, found_from (e.number + 1) es x.number x r.1 h)))) h)) in
    let here = same_entry one two e (same e (rw (eq-eqb e.number e.number refl) refl)) in
    λ i. here i ∷ rest i

-- ---- an element that comes in or goes out
push_other : {X : Type 0} (xs : List X) (x d : X) (n : ℕ) → n ≢ length xs → get_or (xs ++ x ∷ []) n d ≡ get_or xs n d
push_other xs x d n ne =
    elim (cases_order n (length xs)) [
      | inl q ↦ absurd (ne q)
      | inr o ↦ elim o [
        | inl less ↦ get_or_append_left xs (x ∷ []) d n less
        | inr past ↦ get_or_past (xs ++ x ∷ []) n d (omega (arith, past, length-append xs (x ∷ []))) ∙ sym (get_or_past xs n d (omega (arith, past)))
      ]
    ]

without_last : (es : List Element) (x : Element) → numbered es x.number ≡ None → without (es ++ x ∷ []) x.number ≡ es
without_last [] x h = rw (eq-eqb x.number x.number refl) refl
without_last (e ∷ es) x h = cond_both (e.number == x.number) (Some e) (numbered es x.number) (λ o. o ≡ None → without ((e ∷ es) ++ x ∷ []) x.number ≡ e ∷ es) (λ t q. cc) (λ t q. rw t (ap (λ (l : List Element). e ∷ l) (without_last es x q))) h

module _ (drawing : Drawing) (drawn : IsDrawn drawing) (e : Element) (s : Setting) where
  module _ (leads : LeadsFrom drawing (Added e s)) where
    abbrev larger : Drawing
    larger = applied drawing (Added e s)

    fresh : numbered drawing.elements e.number ≡ None
    fresh = by_found (numbered drawing.elements e.number) refl
      where
        by_found : (o : Option Element) → numbered drawing.elements e.number ≡ o → numbered drawing.elements e.number ≡ None
        by_found None q = q
        by_found (Some x) q = let given = drawn.given e.number x q in absurd (omega (arith, leads.records))

    added_apart : Apart larger drawing e
    added_apart = record {
      large_drawn = leads.drawn;
      small_drawn = drawn;
      none = fresh;
      others = λ n ne. others_same drawing.elements e n ne;
      settings = λ n ne. push_other drawing.settings s setting.None n (λ q. ne (q ∙ sym leads.records));
    }

    stay : map (shown drawing) drawing.elements ≡ map (shown larger) drawing.elements
    stay = same_entries drawing larger 0 drawing.elements drawn.rising (λ x h. others_here larger drawing e added_apart x.number (λ q. let found : numbered drawing.elements x.number ≡ None = ap (numbered drawing.elements) q ∙ fresh in cc))

    pub came : put (shown larger e) (shown_of drawing) ≡ shown_of larger
    came =
        ap (put (shown larger e)) stay
        ∙ put_last (shown larger) (λ x. refl) 0 drawing.elements e drawn.rising (λ n x h. let given = drawn.given n x h in omega (arith, given, leads.records))

    pub came_back : left e.number (shown_of larger) ≡ shown_of drawing
    came_back =
        taken_out (shown larger) (λ x. refl) 0 larger.elements e.number leads.drawn.rising
        ∙ ap (map (shown larger)) (without_last drawing.elements e fresh)
        ∙ sym stay

  module _ (leads : LeadsFrom drawing (Dropped e s)) where
    abbrev smaller : Drawing
    smaller = applied drawing (Dropped e s)

    dropped_apart : Apart drawing smaller e
    dropped_apart = record {
      large_drawn = drawn;
      small_drawn = leads.drawn;
      none = gone 0 drawing.elements e.number drawn.rising;
      others = λ n ne. sym (others_stay drawing.elements e.number n ne);
      settings = λ n ne. sym (get_or-set_other drawing.settings e.number n setting.None setting.None ne);
    }

    stayed : map (shown smaller) smaller.elements ≡ map (shown drawing) smaller.elements
    stayed = same_entries smaller drawing 0 smaller.elements leads.drawn.rising (λ x h. others_here drawing smaller e dropped_apart x.number (λ q. let found : numbered smaller.elements x.number ≡ None = ap (numbered smaller.elements) q ∙ gone 0 drawing.elements e.number drawn.rising in cc))

    pub went : left e.number (shown_of drawing) ≡ shown_of smaller
    went = taken_out (shown drawing) (λ x. refl) 0 drawing.elements e.number drawn.rising ∙ sym stayed

    pub went_back : put (shown drawing e) (shown_of smaller) ≡ shown_of drawing
    went_back = ap (put (shown drawing e)) stayed ∙ put_back (shown drawing) (λ x. refl) 0 drawing.elements e drawn.rising leads.records.0

-- ---- a drag
module _ (one two : Drawing) (one_drawn : IsDrawn one) (two_drawn : IsDrawn two) (n : ℕ) (elements : one.elements ≡ two.elements) (settings : (on : ℕ) → on ≢ n → setting_of one.settings on ≡ setting_of two.settings on) where
  pub dragged : seen (map (λ e. Put (shown two e)) (filter (λ e. depends_on two.elements e.number n) two.elements)) (shown_of one) ≡ shown_of two
  dragged =
      ap (seen (map (λ e. Put (shown two e)) (filter (λ e. depends_on two.elements e.number n) two.elements))) (ap (map (shown one)) elements)
      ∙ put_anew (shown one) (shown two) (λ e. refl) (λ e. refl) (λ e. depends_on two.elements e.number n) 0 two.elements two_drawn.rising (λ e h t. same_entry one two e (still e t))
    where
      still : (e : Element) → depends_on two.elements e.number n ≡ false → here_of one e.number ≡ here_of two e.number
      still e t = sym (same_here two one two_drawn one_drawn e.number (λ on h. (ap (λ es. option_map (λ (x : Element). x.def) (numbered es on)) (sym elements), sym (settings on (λ q. let dependent : depends_on two.elements e.number n ≡ true = rw (← q) h in cc)))))

-- ---- all kinds exchanged
other_twice : (k : Kind) → other (other k) ≡ k
other_twice Point = refl
other_twice Line = refl

turned_here : (drawing : Drawing) (n : ℕ) → here_of (applied drawing Dual) n ≡ here_of drawing n
turned_here drawing n =
    λ i. if nat_lt HEIGHT_LIMIT (largest_of (computed_exchanged (heights_algebra (magnitudes (current drawing.settings))) drawing.elements n i)) then Far else here_by (primitive_of (computed_exchanged (triple_algebra (current drawing.settings)) drawing.elements n i))

turned_entries : (drawing : Drawing) (es : List Element) → map turned (map (shown (applied drawing Dual)) (map exchanged es)) ≡ map (shown drawing) es
turned_entries drawing [] = refl
turned_entries drawing (e ∷ es) =
    let rest = turned_entries drawing es in
    λ i. record { number = e.number; name = e.name; kind = other_twice e.kind i; here = turned_here drawing e.number i } ∷ rest i

pub turned_back : (drawing : Drawing) → map turned (shown_of (applied drawing Dual)) ≡ shown_of drawing
turned_back drawing = turned_entries drawing drawing.elements

-- ---- any change
pub followed : (drawing : Drawing) (d : Delta) (forward : Bool) → IsDrawn drawing → Leads drawing d forward → seen (changes_of drawing d forward) (shown_of (before_of drawing d forward)) ≡ shown_of drawing
followed drawing (Added e s) true drawn leads =
    let before = taken_back drawing (Added e s) in
    subst (λ (k : Drawing). put (shown k e) (shown_of before) ≡ shown_of k) (applied_taken drawing (Added e s) leads) (came before (taken_back_drawn drawing (Added e s) leads) e s (taken_back_leads drawing (Added e s) leads))
followed drawing (Added e s) false drawn leads = came_back drawing drawn e s leads
followed drawing (Dropped e s) true drawn leads =
    let before = taken_back drawing (Dropped e s) in
    subst (λ (k : Drawing). left e.number (shown_of before) ≡ shown_of k) (applied_taken drawing (Dropped e s) leads) (went before (taken_back_drawn drawing (Dropped e s) leads) e s (taken_back_leads drawing (Dropped e s) leads))
followed drawing (Dropped e s) false drawn leads = went_back drawing drawn e s leads
followed drawing (Dragged n from to) true drawn leads =
    dragged (taken_back drawing (Dragged n from to)) drawing (taken_back_drawn drawing (Dragged n from to) leads) drawn n refl (λ m ne. get_or-set_other drawing.settings n m from setting.None ne)
followed drawing (Dragged n from to) false drawn leads =
    dragged (applied drawing (Dragged n from to)) drawing leads.drawn drawn n refl (λ m ne. get_or-set_other drawing.settings n m to setting.None ne)
followed drawing (Claimed c) true drawn leads = refl
followed drawing (Claimed c) false drawn leads = refl
followed drawing Dual true drawn leads = turned_back drawing
followed drawing Dual false drawn leads = turned_back drawing

-- ---- what is live
pub live_here : (drawing : Drawing) (i : ℕ) (x : Element) → IsDrawn drawing → i < length drawing.elements → x ≡ get_or drawing.elements i x → numbered drawing.elements x.number ≡ Some x
live_here drawing i x drawn within same =
    subst (λ (y : Element). numbered drawing.elements y.number ≡ Some y) (sym same) (number_at 0 drawing.elements i x drawn.rising within).0

-- an element that came in
came_live : (drawing : Drawing) (e : Element) (s : Setting) → LeadsTo drawing (Added e s) → numbered drawing.elements e.number ≡ Some e
came_live drawing e s leads =
    let before = taken_back drawing (Added e s) in
    subst (λ (k : Drawing). numbered k.elements e.number ≡ Some e) (applied_taken drawing (Added e s) leads)
    (last_found before.elements e (fresh before (taken_back_drawn drawing (Added e s) leads) e s (taken_back_leads drawing (Added e s) leads)))

pub coming_live : (drawing : Drawing) (d : Delta) (forward : Bool) (e : Element) (s : Setting) → Leads drawing d forward → d ≡ Added e s → forward ≡ true → numbered drawing.elements e.number ≡ Some e
coming_live drawing d forward e s leads is done =
    came_live drawing e s (subst (λ (b : Bool). Leads drawing (Added e s) b) done (subst (λ (d : Delta). Leads drawing d forward) is leads))

-- ---- one more of the chosen items
pub chosen_more : {X Y : Type 0} (f : X → Y) (test : X → Bool) (xs : List X) (i : ℕ) (x : X) (old new : List Y) → i < length xs → x ≡ get_or xs i x → old ≡ map f (filter test (take i xs)) → new ≡ (if test x then old ++ f x ∷ [] else old) → new ≡ map f (filter test (take (i + 1) xs))
chosen_more {X} {Y} f test xs i x old new within same so_far is =
    is ∙ by_test (test x) refl ∙ ap (λ l. map f (filter test l)) (sym (take_more xs i x within ∙ ap (λ y. take i xs ++ y ∷ []) (sym same)))
  where
    both : (ys : List X) → map f (filter test (ys ++ x ∷ [])) ≡ map f (filter test ys) ++ map f (filter test (x ∷ []))
    both [] = refl
    both (y ∷ ys) = by_first (test y) refl (both ys)
      where
        by_first : (t : Bool) → test y ≡ t → map f (filter test (ys ++ x ∷ [])) ≡ map f (filter test ys) ++ map f (filter test (x ∷ [])) → map f (filter test (y ∷ ys ++ x ∷ [])) ≡ map f (filter test (y ∷ ys)) ++ map f (filter test (x ∷ []))
        by_first true t rest = rw t (ap (λ l. f y ∷ l) rest)
        by_first false t rest = rw t rest

    by_test : (t : Bool) → test x ≡ t → (if t then old ++ f x ∷ [] else old) ≡ map f (filter test (take i xs ++ x ∷ []))
    by_test true t = sym (both (take i xs) ∙ (rw t (ap (λ l. l ++ f x ∷ []) (sym so_far))))
    by_test false t = sym (both (take i xs) ∙ (rw t (append-nil (map f (filter test (take i xs))) ∙ sym so_far)))
