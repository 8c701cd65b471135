-- How the laws are used at the small quantities of src/examples.rt.
use Rattle.std.proofs.Common.{◌≡◌, ◌≢◌, ℕ, zero, suc, ◌+◌, ◌<◌, ◌≤◌, false, List, [], ◌∷◌, length, get_or, ℤ, pos, arith, refl, sym, subst, ap₂, ◌∙◌}
use Rattle.std.proofs.lemmas.List.Elements.{All-cons, All-nil}
use Rattle.std.proofs.lemmas.List.{get_or_default}
use Rattle.std.proofs.lemmas.List.Kept.{AllPairs-cons}
use Rattle.std.proofs.lemmas.Int.{ints}
use Rattle.geo_law.specs.Coefficients.{AreDistinct}
use Rattle.geo_law.specs.Tables.{IsTriangle}
use Rattle.geo_law.specs.Grids.{HasEnoughValues, IsZeroOnGrid}
use Rattle.geo_law.specs.Triangles.{stands_in, HasEnoughForTriangles, IsZeroOnTriangles}
use Rattle.geo_law.specs.Examples.{bilinear_value, bilinear_coefficients, bilinear_table, multiple_value, point}
use Rattle.geo_law.specs.declared.examples.Bilinear.{Bilinear}
use Rattle.geo_law.specs.ExampleLaws.{only}

module _ (q : Bilinear) (xs ys : List ℤ) (dx : AreDistinct xs) (dy : AreDistinct ys) where
  rectangle_enough : length xs ≡ 2 → length ys ≡ 2 → (zs : List ℤ) (place : ℕ) → length zs ≡ 2 → place < 2 → length (bilinear_coefficients q zs place) ≤ length (get_or (xs ∷ ys ∷ []) place [])
  rectangle_enough lx ly zs zero l m = omega arith
  rectangle_enough lx ly zs (suc zero) l m = omega arith
  rectangle_enough lx ly zs (suc (suc place)) l m = absurd (omega arith)

  pub rectangle : length xs ≡ 2 → length ys ≡ 2 → HasEnoughValues 2 (bilinear_coefficients q) (xs ∷ ys ∷ [])
  rectangle lx ly = record { one_list_each = refl; distinct = All-cons AreDistinct xs (ys ∷ []) dx (All-cons AreDistinct ys [] dy (All-nil AreDistinct)); enough = rectangle_enough lx ly }

  pub rectangle_points : length xs ≡ 2 → length ys ≡ 2 → ((i j : ℕ) → i < 2 → j < 2 → bilinear_value q (point xs ys i j) ≡ pos 0) → IsZeroOnGrid (bilinear_value q) (xs ∷ ys ∷ [])
  rectangle_points lx ly z [] t = absurd t
  rectangle_points lx ly z (u ∷ []) t = absurd t.1
  rectangle_points lx ly z (u ∷ v ∷ []) t =
      subst (λ u. bilinear_value q (u ∷ v ∷ []) ≡ pos 0) (get_or_default xs t.0.0 (pos 0) u t.0.1 ∙ t.0.2)
      (subst (λ v. bilinear_value q (get_or xs t.0.0 (pos 0) ∷ v ∷ []) ≡ pos 0) (get_or_default ys t.1.0.0 (pos 0) v t.1.0.1 ∙ t.1.0.2) (z t.0.0 t.1.0.0 (omega (arith, t.0.1)) (omega (arith, t.1.0.1))))
  rectangle_points lx ly z (u ∷ v ∷ w ∷ zs) t = absurd t.1.1

  none_elsewhere : (zs : List ℤ) (place : ℕ) → length zs ≡ 2 → place < 2 → stands_in ((0, 1) ∷ []) place ≡ false → length (bilinear_coefficients q zs place) ≤ length (get_or (xs ∷ ys ∷ []) place [])
  none_elsewhere zs zero l m s = absurd cc
  none_elsewhere zs (suc zero) l m s = absurd cc
  none_elsewhere zs (suc (suc place)) l m s = absurd (omega arith)

  pub triangle : length xs ≡ 3 → length ys ≡ 3 → HasEnoughForTriangles 2 ((0, 1) ∷ []) (bilinear_coefficients q) (λ zs p. bilinear_table q) (xs ∷ ys ∷ [])
  triangle lx ly =
      record {
        one_list_each = refl;
        distinct = All-cons AreDistinct xs (ys ∷ []) dx (All-cons AreDistinct ys [] dy (All-nil AreDistinct));
        as_many = λ p h. subst (λ (p : ℕ × ℕ). length (get_or (xs ∷ ys ∷ []) p.0 []) ≡ length (get_or (xs ∷ ys ∷ []) p.1 [])) (only (0, 1) p h) (lx ∙ sym ly);
        triangles = λ zs p l h. subst (λ (p : ℕ × ℕ). IsTriangle (length (get_or (xs ∷ ys ∷ []) p.0 [])) (bilinear_table q)) (only (0, 1) p h) (subst (λ n. IsTriangle n (bilinear_table q)) (sym lx) (omega arith, (omega arith, tt)));
        enough = none_elsewhere;
      }

  pub triangle_points : length xs ≡ 3 → ((i j : ℕ) → i + j < 3 → bilinear_value q (point xs ys i j) ≡ pos 0) → IsZeroOnTriangles (bilinear_value q) 2 ((0, 1) ∷ []) (xs ∷ ys ∷ [])
  triangle_points lx z zs on =
      let p = on.in_pairs.0 in
      ap₂ (λ x y. bilinear_value q (x ∷ y ∷ [])) p.3 p.4 ∙ z p.0 p.1 (omega (arith, p.2))

-- ---- a multiple, at 0 and at one other value
two_values : (r : ℤ) → r ≢ pos 0 → AreDistinct (pos 0 ∷ r ∷ [])
two_values r n = AllPairs-cons (λ x y. x ≢ y) (pos 0) (r ∷ []) (All-cons (λ y. pos 0 ≢ y) r [] (λ e. n (sym e)) (All-nil (λ y. pos 0 ≢ y))) (AllPairs-cons (λ x y. x ≢ y) r [] (All-nil (λ y. r ≢ y)) (λ i j d l m. absurd (omega arith)))

two_enough : (a r : ℤ) (zs : List ℤ) (place : ℕ) → length zs ≡ 1 → place < 1 → length (pos 0 ∷ a ∷ []) ≤ length (get_or ((pos 0 ∷ r ∷ []) ∷ []) place [])
two_enough a r zs zero l m = omega arith
two_enough a r zs (suc place) l m = absurd (omega arith)

pub one_other : (a r : ℤ) → r ≢ pos 0 → HasEnoughValues 1 (λ zs place. pos 0 ∷ a ∷ []) ((pos 0 ∷ r ∷ []) ∷ [])
one_other a r n = record { one_list_each = refl; distinct = All-cons AreDistinct (pos 0 ∷ r ∷ []) [] (two_values r n) (All-nil AreDistinct); enough = two_enough a r }

pub one_other_point : (a r : ℤ) → multiple_value a (r ∷ []) ≡ pos 0 → IsZeroOnGrid (multiple_value a) ((pos 0 ∷ r ∷ []) ∷ [])
one_other_point a r z [] t = absurd t
one_other_point a r z (x ∷ []) ((zero, l, e), t) = subst (λ x. multiple_value a (x ∷ []) ≡ pos 0) e (omega (arith, ints))
one_other_point a r z (x ∷ []) ((suc zero, l, e), t) = subst (λ x. multiple_value a (x ∷ []) ≡ pos 0) e z
one_other_point a r z (x ∷ []) ((suc (suc k), l, e), t) = absurd (omega (arith, l))
one_other_point a r z (x ∷ y ∷ xs) t = absurd t.1
