-- Rows that are written one after another.
use Rattle.std.proofs.Common.{◌≡◌, ◌∙◌, sym, ap, ap₂, ℕ, ◌+◌, ◌<◌, ◌≤◌, List, [], ◌∷◌, ◌++◌, length, get_or, take, map, Some, Vec, Global}
use Rattle.std.specs.Prelude.{slice_get}
use Rattle.std.proofs.lemmas.List.{map-append, take_all, take_more}
use Rattle.std.proofs.lemmas.Option.{get_or_from_slice_get}
use Rattle.serde_json.specs.Data.{Data, array}
use Rattle.serde_json.specs.View.{items_of, view}
use Rattle.serde_json.specs.declared.value.Value.{Value, Array}
use Rattle.serde_json.proofs.Views.{view-Array}

-- one more row
pub rows_more : {A : Type 0} (data_of : A → Data) (xs : List A) (k : ℕ) (x : A) (rows : List Value) (v : Value) → k < length xs → slice_get xs k ≡ Some x → map view rows ≡ map data_of (take k xs) → view v ≡ data_of x → map view (rows ++ v ∷ []) ≡ map data_of (take (k + 1) xs)
rows_more data_of xs k x rows v within found before here =
    let more : take (k + 1) xs ≡ take k xs ++ x ∷ [] = take_more xs k x within ∙ ap (λ y. take k xs ++ y ∷ []) (get_or_from_slice_get xs k x x found) in
    map-append view rows (v ∷ []) ∙ ap₂ (λ (a b : List Data). a ++ b) before (ap (λ d. d ∷ []) here) ∙ sym (map-append data_of (take k xs) (x ∷ [])) ∙ ap (map data_of) (sym more)

-- all of them
pub rows_all : {A : Type 0} (data_of : A → Data) (xs : List A) (k : ℕ) (rows : Vec Value Global) → length xs ≤ k → map view rows.items ≡ map data_of (take k xs) → view (Array rows) ≡ array (items_of (map data_of xs))
rows_all data_of xs k rows past all = view-Array rows ∙ ap (λ l. array (items_of l)) (all ∙ ap (map data_of) (take_all k xs past))
