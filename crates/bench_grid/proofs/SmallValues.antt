-- A form is within the limit of heights at small values of its axes.
use Rattle.std.proofs.Common.{◌≡◌, ◌≤◌, ◌^◌, ◌∙◌, suc, ℤ, List, [], ◌∷◌, All, length, map, unsigned_abs, arith}
use Rattle.std.specs.List.{AllZip}
use Rattle.std.proofs.lemmas.List.{length-map}
use Rattle.geo_degree.specs.declared.grids.Axis.{Axis}
use Rattle.geo_degree.specs.Questions.{IsForm, Question}

each_small : (axes : List Axis) (xs : List ℤ) → length xs ≡ length axes → All (λ x. unsigned_abs x ≤ 3) xs → AllZip (λ m n. m ≤ n) (map unsigned_abs xs) (map (λ (a : Axis). 3) axes)
each_small [] [] l s = tt
each_small [] (x ∷ xs) l s = absurd (omega arith)
each_small (a ∷ axes) [] l s = absurd (omega arith)
each_small (a ∷ axes) (x ∷ xs) l s =
    let first : unsigned_abs x ≤ 3 = s 0 x (omega arith) in
    (omega arith, each_small axes xs (omega arith) (λ k d m. s (suc k) d (omega arith)))

pub low_at_small : (q : Question) (xs : List ℤ) → IsForm q → length xs ≡ length q.axes → All (λ x. unsigned_abs x ≤ 3) xs → q.height_at (map unsigned_abs xs) ≤ 2 ^ 126
low_at_small q xs form l s =
    let more = form.rises (map unsigned_abs xs) (map (λ (a : Axis). 3) q.axes) (length-map xs unsigned_abs ∙ l) (each_small q.axes xs l s) in
    omega (arith, more, form.modest)
