use Rattle.std.proofs.Common.{◌≡◌, ◌∙◌, ◌<◌, ◌+◌, ◌++◌, ◌∷◌, [], ℕ, ℤ, pos, List, Some, take, length, ap, sym, arith, rules, w64, FitsSigned}
use Rattle.std.specs.Prelude.{slice_get}
use Rattle.std.proofs.lemmas.Int.{to_z-of_z}
use Rattle.std.proofs.lemmas.List.{take_more}
use Rattle.std.proofs.lemmas.Option.{get_or_from_slice_get, slice_get-get_or}
use Rattle.geo_sketch.proofs.copies.copy_values.Goals.{in-Some+in_ok-push, in_default}
use Rattle.geo_sketch.proofs.copies.copy_values.Goals as goal

next : (xs ys : List (ℕ × ℤ)) (k : ℕ) (x : ℕ × ℤ) → k < length xs → slice_get xs k ≡ Some x → ys ≡ take k xs → ys ++ x ∷ [] ≡ take (k + 1) xs
next xs ys k x l h e = ap (λ (zs : List (ℕ × ℤ)). zs ++ x ∷ []) e ∙ ap (λ (y : ℕ × ℤ). take k xs ++ y ∷ []) (sym (get_or_from_slice_get xs k x x h)) ∙ sym (take_more xs k x l)

pub loop-k-preserved : goal.loop-k-preserved
loop-k-preserved c =
    let values = c.args.values.now in
    let within : c.loop-k.k < length values = omega arith in
    elim c.match-get.branch [
      | in-Some+in_ok-push w ↦ (let fits : FitsSigned w64 w.in-Some.value = search rules in
          let pushed : w.push.new.self ≡ c.loop-k.copy ++ (w.in-Some.param, w.in-Some.value) ∷ [] = rw (to_z-of_z w64 w.in-Some.value fits) at w.in_ok-push.ensures.after in
          w.copy-is ∙ pushed ∙ next values c.loop-k.copy c.loop-k.k (w.in-Some.param, w.in-Some.value) within (sym c.get.ensures ∙ w.in-Some.is) c.loop-k.invariant)
      | in_default w ↦ absurd (let some = slice_get-get_or values c.loop-k.k (0, pos 0) within in cc (w.in_default.is, c.get.ensures, some))
    ]
