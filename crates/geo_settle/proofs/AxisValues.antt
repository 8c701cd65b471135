-- Values of axes: each by its place, at the sample positions, and named.
use Rattle.std.proofs.Common.{◌≡◌, ◌∙◌, sym, ap, refl, ◌⊎◌, ⊎_elim, ℕ, suc, ◌<◌, ◌≤◌, List, [], ◌∷◌, ◌++◌, length, get_or, map, ℤ, pos, unsigned_abs, arith, append_assoc, append-nil}
use Rattle.std.specs.List.{AllZip}
use Rattle.std.proofs.lemmas.Grind.{common_steps}
use Rattle.std.proofs.lemmas.Int.{ints}
use Rattle.std.proofs.lemmas.List.{length-map}
use Rattle.geo_triple.specs.declared.limits.TheConstants.{STATEMENT_LIMIT}
use Rattle.geo_sketch.specs.Samples.{sample_value}
use Rattle.geo_degree.specs.declared.grids.Axis.{Axis}
use Rattle.geo_degree.specs.Grids.{axis, values_on}
use Rattle.geo_degree.specs.Questions.{IsForm, Question, sample}
use Rattle.geo_degree.specs.Verdicts.{named}

pub values_by_place : (axes : List Axis) (v : ℕ → ℤ) (xs : List ℤ) → length xs ≡ length axes → ((k : ℕ) → k < length axes → get_or xs k (pos 0) ≡ v (get_or axes k (axis 0 0)).param) → xs ≡ values_on axes v
values_by_place [] v [] l h = refl
values_by_place [] v (x ∷ xs) l h = absurd (omega arith)
values_by_place (a ∷ axes) v [] l h = absurd (omega arith)
values_by_place (a ∷ axes) v (x ∷ xs) l h =
    let first : x ≡ v a.param = h 0 (omega arith) in
    let rest = values_by_place axes v xs (omega arith) (λ k m. h (suc k) (omega arith)) in
    λ i. first i ∷ rest i

-- ---- at a sample position
small : (s p : ℕ) → unsigned_abs (sample_value s p) ≤ 3
small s p = grind (arith, ints, common_steps)

samples_small : (axes : List Axis) (s : ℕ) → AllZip (λ m n. m ≤ n) (map unsigned_abs (values_on axes (sample_value s))) (map (λ (a : Axis). 3) axes)
samples_small [] s = tt
samples_small (a ∷ axes) s = (small s a.param, samples_small axes s)

pub sample_low : (q : Question) (s : ℕ) → IsForm q → q.height_at (map unsigned_abs (sample q s)) ≤ STATEMENT_LIMIT
sample_low q s form =
    let xs = sample q s in
    let long : length (map unsigned_abs xs) ≡ length q.axes = length-map xs unsigned_abs ∙ length-map q.axes (λ (a : Axis). sample_value s a.param) in
    let more = form.rises (map unsigned_abs xs) (map (λ (a : Axis). 3) q.axes) long (samples_small q.axes s) in
    omega (arith, more, form.modest)

-- ---- named, in a loop over what is left of both lists
pub named_step : (list whole : List (ℕ × ℤ)) (a : Axis) (x : ℤ) (axes rest : List Axis) (xs ys : List ℤ) → axes ≡ a ∷ rest → xs ≡ x ∷ ys → list ++ named axes xs ≡ whole → (list ++ (a.param, x) ∷ []) ++ named rest ys ≡ whole
named_step list whole a x axes rest xs ys e g h = rw append_assoc (sym (λ i. list ++ named (e i) (g i)) ∙ h)

named_nothing : (axes : List Axis) → named axes [] ≡ []
named_nothing [] = refl
named_nothing (a ∷ axes) = refl

pub named_end : (list whole : List (ℕ × ℤ)) (axes : List Axis) (xs : List ℤ) → (axes ≡ []) ⊎ (xs ≡ []) → list ++ named axes xs ≡ whole → list ≡ whole
named_end list whole axes xs empty h =
    let none : named axes xs ≡ [] = ⊎_elim (λ (e : axes ≡ []). ap (λ (bs : List Axis). named bs xs) e) (λ (e : xs ≡ []). ap (named axes) e ∙ named_nothing axes) empty in
    sym (append-nil list) ∙ sym (ap (λ r. list ++ r) none) ∙ h
