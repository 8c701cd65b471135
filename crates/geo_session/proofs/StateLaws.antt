-- How a line moves a desk on.
use Rattle.std.proofs.Common.{◌≡◌, ◌∙◌, sym, ap, refl, subst, ℕ, ◌++◌, ℤ, unsigned_abs, List, [], ◌∷◌, length, length-append, arith}
use Rattle.std.specs.Prelude.{Result, Ok, Err, IfOk, IfSome, OnOk, Option, None, Some, min, ◌+◌, ◌-◌, ◌^◌, slice_set}
use Rattle.std.proofs.lemmas.List.{append-nil, take_at}
use Rattle.geo_sketch.specs.declared.changes.Delta.{Delta}
use Rattle.geo_sketch.specs.declared.changes.NoMemory.{NoMemory}
use Rattle.geo_sketch.specs.declared.changes.Refusal.{Refusal}
use Rattle.geo_sketch.specs.declared.changes.Refusal.TheVariants as refusal
use Rattle.geo_sketch.specs.Sketches.{Drawing, blank}
use Rattle.geo_sketch.specs.Changes.{applied, made_of, all_but_last}
use Rattle.geo_sketch.proofs.ChangeLaws.{made_both}
use Rattle.geo_view.specs.declared.shown.ViewKind.{ViewKind}
use Rattle.geo_view.specs.Sights.{Sight, picture_of}
use Rattle.geo_view.specs.Walls.{sight_at}
use Rattle.geo_undo.specs.Timelines.{continued, Undoes, Redoes}
use Rattle.geo_parse.specs.Reading.{read_of}
use Rattle.geo_session.specs.declared.desk.Desk.{Desk}
use Rattle.geo_session.specs.declared.state.Reply.{Reply}
use Rattle.geo_session.specs.declared.state.Reply.TheVariants as reply
use Rattle.geo_session.specs.Answers.{Answer, State, drawing_of, changed, closed_by, last_of, shown_by, sights_of, taken_back_to, done_again, refused, counted, answer_by, answer_of}
use Rattle.geo_session.specs.Standing.{IsAt, Gives}
use Rattle.geo_session.specs.Printed.{Text, text_of}
use Rattle.geo_session.specs.Texts.{ok_line}
use Rattle.geo_session.specs.Views.{IsShowing, all_showing}
use Rattle.geo_session.proofs.SightLaws.{all_but_closed}

-- the last of the changes, and those before it
last_is : (ds : List Delta) (d : Delta) → last_of (ds ++ d ∷ []) ≡ Some d
last_is [] d = refl
last_is (e ∷ []) d = refl
last_is (e ∷ f ∷ ds) d = last_is (f ∷ ds) d

pub front_is : (ds : List Delta) (d : Delta) → all_but_last (ds ++ d ∷ []) ≡ ds
front_is ds d = take_at ds (d ∷ []) (length (ds ++ d ∷ []) - 1) (omega (arith, length-append ds (d ∷ [])))

-- bytes that were appended, as what one piece prints
pub append_one : (before after bytes : List ℕ) → after ≡ before ++ bytes → after ≡ before ++ text_of (Text bytes ∷ [])
append_one before after bytes appended = appended ∙ ap (λ l. before ++ l) (sym (append-nil bytes))

module _ {W : Type 0} (shows : W → List (Option Sight)) (old new : Desk W) (before after : List ℕ) (count : new.count ≡ old.count) where
  -- what was carried out is acknowledged
  abbrev Acknowledged : Result Reply NoMemory → Type 0
  Acknowledged result = IfOk result (λ r. (r ≡ reply.Accepted) × (after ≡ before ++ ok_line))

  abbrev IsAnswer : (State → Answer) → Result Reply NoMemory → Type 0
  IsAnswer answer result = IfOk result (λ r. (state : State) → IsAt shows old state → Gives (answer state) r before after (IsAt shows new))

  -- views that show one sketch before show another afterwards
  abbrev Shows : Drawing → Drawing → Result Reply NoMemory → Type 0
  Shows one other result = OnOk result ((views : List (Option ViewKind)) → IsShowing shows old.views one views → IsShowing shows new.views other views)

  -- a change was made
  pub change_given : (make : Drawing → Result Delta Refusal) (d : Delta) (result : Result Reply NoMemory) → make old.sketch ≡ Ok d → new.sketch ≡ applied old.sketch d → OnOk result (new.history ≡ continued old.history d) → Shows (made_of old.history.done) new.sketch result → Acknowledged result → IsAnswer (λ state. changed state (make (drawing_of state))) result
  change_given make d (Err e) is new_sketch noted shown h = tt
  change_given make d (Ok r) is new_sketch noted shown h = λ state stands.
      let same : make (drawing_of state) ≡ Ok d = ap make (sym stands.sketch) ∙ is in
      let sketch : new.sketch ≡ made_of (state.done ++ d ∷ []) = new_sketch ∙ ap (λ k. applied k d) stands.sketch ∙ sym (made_both blank state.done (d ∷ [])) in
      let shown_before : IsShowing shows old.views (made_of old.history.done) state.views = stands.views ∙ ap (λ ds. all_showing (made_of ds) state.views) (sym stands.done) in
      rw same record {
        reply_is = h.0;
        appends = append_one before after ok_line h.1;
        stands = record {
          sketch = sketch;
          done = ap (λ t. t.done) noted ∙ ap (λ ds. ds ++ d ∷ []) stands.done;
          undone = ap (λ t. t.undone) noted;
          views = shown state.views shown_before ∙ ap (λ k. all_showing k state.views) sketch;
          count = count ∙ stands.count;
        };
      }

  -- the last done change was taken back
  pub undo_given : (d : Delta) (result : Result Reply NoMemory) → Undoes old.history new.history d → new.sketch ≡ made_of new.history.done → Shows old.sketch new.sketch result → Acknowledged result → IsAnswer (λ state. taken_back_to state (last_of state.done)) result
  undo_given d (Err e) undoes new_sketch shown h = tt
  undo_given d (Ok r) undoes new_sketch shown h = λ state stands.
      let done : state.done ≡ new.history.done ++ d ∷ [] = sym stands.done ∙ undoes.done in
      let last : last_of state.done ≡ Some d = ap last_of done ∙ last_is new.history.done d in
      let front : all_but_last state.done ≡ new.history.done = ap all_but_last done ∙ front_is new.history.done d in
      let sketch : new.sketch ≡ made_of (all_but_last state.done) = new_sketch ∙ ap made_of (sym front) in
      rw last record {
        reply_is = h.0;
        appends = append_one before after ok_line h.1;
        stands = record {
          sketch = sketch;
          done = sym front;
          undone = undoes.undone ∙ ap (λ ds. d ∷ ds) stands.undone;
          views = shown state.views (stands.views ∙ ap (λ k. all_showing k state.views) (sym stands.sketch)) ∙ ap (λ k. all_showing k state.views) sketch;
          count = count ∙ stands.count;
        };
      }

  -- the first undone change was made again
  pub redo_given : (d : Delta) (result : Result Reply NoMemory) → Redoes old.history new.history d → new.sketch ≡ made_of new.history.done → Shows old.sketch new.sketch result → Acknowledged result → IsAnswer (λ state. done_again state state.undone) result
  redo_given d (Err e) redoes new_sketch shown h = tt
  redo_given d (Ok r) redoes new_sketch shown h = λ state stands.
      let undone : state.undone ≡ d ∷ new.history.undone = sym stands.undone ∙ redoes.undone in
      let done : new.history.done ≡ state.done ++ d ∷ [] = redoes.done ∙ ap (λ ds. ds ++ d ∷ []) stands.done in
      let sketch : new.sketch ≡ made_of (state.done ++ d ∷ []) = new_sketch ∙ ap made_of done in
      rw undone record {
        reply_is = h.0;
        appends = append_one before after ok_line h.1;
        stands = record {
          sketch = sketch;
          done = done;
          undone = refl;
          views = shown state.views (stands.views ∙ ap (λ k. all_showing k state.views) (sym stands.sketch)) ∙ ap (λ k. all_showing k state.views) sketch;
          count = count ∙ stands.count;
        };
      }

  -- whichever way the sketch before is said
  pub shows_from : (one other now : Drawing) (result : Result Reply NoMemory) → one ≡ other → Shows one now result → Shows other now result
  shows_from one other now result same shown = subst (λ (k : Drawing). Shows k now result) same shown

  -- the view of this number was closed
  pub close_given : (k : ℤ) (result : Result Reply NoMemory) → ¬ (sight_at (shows old.views) k ≡ None) → shows new.views ≡ slice_set (shows old.views) (unsigned_abs k) None → new.sketch ≡ old.sketch → new.history ≡ old.history → Acknowledged result → IsAnswer (λ state. closed_by state k (sight_at (sights_of state) k)) result
  close_given k (Err e) there closed same_sketch same_history h = tt
  close_given k (Ok r) there closed same_sketch same_history h = λ state stands. by_sight state stands (sight_at (sights_of state) k) refl
    where
      by_sight : (state : State) → IsAt shows old state → (o : Option Sight) → sight_at (sights_of state) k ≡ o → Gives (closed_by state k o) r before after (IsAt shows new)
      by_sight state stands None q = absurd (there (ap (λ all. sight_at all k) stands.views ∙ q))
      by_sight state stands (Some s) q = record {
        reply_is = h.0;
        appends = append_one before after ok_line h.1;
        stands = record {
          sketch = same_sketch ∙ stands.sketch;
          done = ap (λ t. t.done) same_history ∙ stands.done;
          undone = ap (λ t. t.undone) same_history ∙ stands.undone;
          views = closed ∙ ap (λ all. slice_set all (unsigned_abs k) None) stands.views ∙ all_but_closed (drawing_of state) state.views (unsigned_abs k);
          count = count ∙ stands.count;
        };
      }

  -- what was refused, and so changed nothing
  pub refusal_given : (answer : State → Answer) (r : Refusal) (result : Result Reply NoMemory) → ((state : State) → IsAt shows old state → answer state ≡ refused state r) → new.sketch ≡ old.sketch → new.history ≡ old.history → new.views ≡ old.views → IfOk result (λ given. (state : State) → IsAt shows new state → Gives (refused state r) given before after (IsAt shows new)) → IsAnswer answer result
  refusal_given answer r (Err e) is same_sketch same_history same_wall h = tt
  refusal_given answer r (Ok given) is same_sketch same_history same_wall h = λ state stands.
      rw (is state stands) (h state record {
        sketch = same_sketch ∙ stands.sketch;
        done = ap (λ t. t.done) same_history ∙ stands.done;
        undone = ap (λ t. t.undone) same_history ∙ stands.undone;
        views = ap (λ w. shows w) same_wall ∙ stands.views;
        count = count ∙ stands.count;
      })

-- an answer that is another one, at each state of the desk
pub answered_as : {W : Type 0} (shows : W → List (Option Sight)) (old new : Desk W) (before after : List ℕ) (one other : State → Answer) (result : Result Reply NoMemory) → ((state : State) → IsAt shows old state → other state ≡ one state)
    → IfOk result (λ r. (state : State) → IsAt shows old state → Gives (one state) r before after (IsAt shows new)) → IfOk result (λ r. (state : State) → IsAt shows old state → Gives (other state) r before after (IsAt shows new))
answered_as shows old new before after one other (Err e) same h = tt
answered_as shows old new before after one other (Ok r) same h = λ state stands. rw (same state stands) (h state stands)

module _ {W : Type 0} (shows : W → List (Option Sight)) where
  -- the answer to a change that is refused
  pub change_refused : (desk : Desk W) (make : Drawing → Result Delta Refusal) (r : Refusal) → make desk.sketch ≡ Err r → (state : State) → IsAt shows desk state → changed state (make (drawing_of state)) ≡ refused state r
  change_refused desk make r is state stands = ap (changed state) (ap make (sym stands.sketch) ∙ is)

  -- and to an undo and a redo, where there is nothing
  pub undo_refused : (desk : Desk W) (r : Refusal) → desk.history.done ≡ [] → r ≡ refusal.Nothing → (state : State) → IsAt shows desk state → taken_back_to state (last_of state.done) ≡ refused state r
  undo_refused desk r none is state stands = ap (λ ds. taken_back_to state (last_of ds)) (sym stands.done ∙ none) ∙ ap (refused state) (sym is)

  pub redo_refused : (desk : Desk W) (r : Refusal) → desk.history.undone ≡ [] → r ≡ refusal.Nothing → (state : State) → IsAt shows desk state → done_again state state.undone ≡ refused state r
  redo_refused desk r none is state stands = ap (done_again state) (sym stands.undone ∙ none) ∙ ap (refused state) (sym is)

  -- and to what is asked of a view that is not there
  pub show_refused : (desk : Desk W) (k : ℤ) (r : Refusal) → sight_at (shows desk.views) k ≡ None → r ≡ refusal.View → (state : State) → IsAt shows desk state → shown_by state (sight_at (sights_of state) k) ≡ refused state r
  show_refused desk k r none is state stands = ap (shown_by state) (ap (λ all. sight_at all k) (sym stands.views) ∙ none) ∙ ap (refused state) (sym is)

  pub close_refused : (desk : Desk W) (k : ℤ) (r : Refusal) → sight_at (shows desk.views) k ≡ None → r ≡ refusal.View → (state : State) → IsAt shows desk state → closed_by state k (sight_at (sights_of state) k) ≡ refused state r
  close_refused desk k r none is state stands = ap (closed_by state k) (ap (λ all. sight_at all k) (sym stands.views) ∙ none) ∙ ap (refused state) (sym is)

  -- what a view shows was printed
  pub show_given : (desk : Desk W) (k : ℤ) (before after : List ℕ) → ¬ (sight_at (shows desk.views) k ≡ None) → IfSome (sight_at (shows desk.views) k) (λ s. after ≡ before ++ picture_of s) → (state : State) → IsAt shows desk state → Gives (shown_by state (sight_at (sights_of state) k)) reply.Accepted before after (IsAt shows desk)
  show_given desk k before after there shown state stands = by_sight (sight_at (sights_of state) k) (ap (λ all. sight_at all k) stands.views)
    where
      by_sight : (o : Option Sight) → sight_at (shows desk.views) k ≡ o → Gives (shown_by state o) reply.Accepted before after (IsAt shows desk)
      by_sight None q = absurd (there q)
      by_sight (Some s) q =
          let text : after ≡ before ++ picture_of s = subst (λ (o : Option Sight). IfSome o (λ s. after ≡ before ++ picture_of s)) q shown in record {
            reply_is = refl;
            appends = append_one before after (picture_of s) text;
            stands = stands;
          }

  -- a line is answered at the state with one more line counted
  pub line_given : (old mid new : Desk W) (line before after : List ℕ) (result : Result Reply NoMemory) → mid.sketch ≡ old.sketch → mid.history ≡ old.history → mid.views ≡ old.views → mid.count ≡ min (old.count + 1) (2 ^ 64 - 1) → IfOk result (λ r. (state : State) → IsAt shows mid state → Gives (answer_by state line (read_of line)) r before after (IsAt shows new)) → IfOk result (λ r. (state : State) → IsAt shows old state → Gives (answer_of state line) r before after (IsAt shows new))
  unfolding answer_of
  line_given old mid new line before after (Err e) s history wall t h = tt
  line_given old mid new line before after (Ok r) s history wall t h = λ state stands.
      h (counted state) record {
        sketch = s ∙ stands.sketch;
        done = ap (λ h. h.done) history ∙ stands.done;
        undone = ap (λ h. h.undone) history ∙ stands.undone;
        views = ap (λ w. shows w) wall ∙ stands.views;
        count = t ∙ ap (λ n. min (n + 1) (2 ^ 64 - 1)) stands.count;
      }
