-- What the views of a session show, from the beginning on.
use Rattle.std.proofs.Common.{◌≡◌, ◌∙◌, sym, ap, refl, ℕ, Option, None, Some, List, [], ◌∷◌, map}
use Rattle.std.specs.Prelude.{Result, Ok, Err, OnOk, option_map, slice_set}
use Rattle.std.proofs.lemmas.List.{map-set}
use Rattle.geo_sketch.specs.declared.changes.NoMemory.{NoMemory}
use Rattle.geo_sketch.specs.Sketches.{Drawing}
use Rattle.geo_view.specs.declared.shown.Change.{Change}
use Rattle.geo_view.specs.declared.shown.ViewKind.{ViewKind}
use Rattle.geo_view.specs.Entries.{seen}
use Rattle.geo_eval.specs.Shown.{shown_of}
use Rattle.geo_view.specs.Sights.{Sight, after}
use Rattle.geo_session.specs.Answers.{sights_of, start}
use Rattle.geo_session.specs.Views.{IsShowing, all_showing, empty_views, showing}

-- empty views show the empty sketch
pub begun : (kinds : List ViewKind) → empty_views kinds ≡ sights_of (start kinds)
begun [] = refl
begun (kind ∷ kinds) = ap (λ (l : List (Option Sight)). Some (record { kind = kind; entries = [] }) ∷ l) (begun kinds)

-- what shows a sketch shows the one after a change that it is told of
pub all_shown : (cs : List Change) (before now : Drawing) → seen cs (shown_of before) ≡ shown_of now → (views : List (Option ViewKind)) → map (option_map (after cs)) (all_showing before views) ≡ all_showing now views
all_shown cs before now follow [] = refl
all_shown cs before now follow (None ∷ views) = ap (λ l. None ∷ l) (all_shown cs before now follow views)
all_shown cs before now follow (Some kind ∷ views) =
    let more = all_shown cs before now follow views in
    λ i. Some (record { kind = kind; entries = follow i }) ∷ more i

pub told : {W : Type 0} (shows : W → List (Option Sight)) (old new : W) (cs : List Change) (before now : Drawing) (result : Result (Unit {0}) NoMemory) → OnOk result (shows new ≡ map (option_map (after cs)) (shows old)) → seen cs (shown_of before) ≡ shown_of now → OnOk result ((views : List (Option ViewKind)) → IsShowing shows old before views → IsShowing shows new now views)
told shows old new cs before now (Err e) changed follow = tt
told shows old new cs before now (Ok u) changed follow = λ views is. changed ∙ ap (map (option_map (after cs))) is ∙ all_shown cs before now follow views

-- a view is closed, and the others show what they showed
pub all_but_closed : (drawing : Drawing) (views : List (Option ViewKind)) (k : ℕ) → slice_set (all_showing drawing views) k None ≡ all_showing drawing (slice_set views k None)
all_but_closed drawing views k = sym (map-set (option_map (showing drawing)) views k None)
