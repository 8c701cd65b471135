-- How many points a grid has, counted entry by entry.
use Rattle.std.proofs.Common.{◌≡◌, ◌∙◌, sym, ap, subst, ℕ, zero, suc, ◌+◌, ◌*◌, ◌<◌, ◌≤◌, false, List, [], ◌∷◌, drop, arith, mul-le-mul}
use Rattle.std.specs.Prelude.{not, nat_lt}
use Rattle.std.specs.List.{AllByRecursion}
use Rattle.std.proofs.lemmas.Bool.{lt-ltb}
use Rattle.geo_cert.specs.Grids.{Grid}
use Rattle.geo_check.specs.Grids.{points_in, size_of}
use Rattle.geo_degree.specs.declared.limits.TheConstants.{SIZE_LIMIT}

pub all_dropped : {X : Type 0} (P : X → Type 0) (xs : List X) (k : ℕ) → AllByRecursion P xs → AllByRecursion P (drop k xs)
all_dropped P [] zero h = tt
all_dropped P [] (suc k) h = tt
all_dropped P (x ∷ xs) zero h = h
all_dropped P (x ∷ xs) (suc k) h = all_dropped P xs k h.1

some_points : (gs : List Grid) → AllByRecursion (λ (g : Grid). 1 ≤ points_in g) gs → 1 ≤ size_of gs
some_points [] h = omega arith
some_points (g ∷ gs) h = omega (arith, mul-le-mul h.0 (some_points gs h.1))

module _ (gs : List Grid) (points : AllByRecursion (λ (g : Grid). 1 ≤ points_in g) gs) (size k : ℕ) (g : Grid) (some : 1 ≤ size) (all : size * size_of (drop k gs) ≡ size_of gs) (here : drop k gs ≡ g ∷ drop (k + 1) gs) where
  have : AllByRecursion (λ (g : Grid). 1 ≤ points_in g) (g ∷ drop (k + 1) gs)
  have = subst (AllByRecursion (λ (g : Grid). 1 ≤ points_in g)) here (all_dropped (λ (g : Grid). 1 ≤ points_in g) gs k points)

  whole : size * (points_in g * size_of (drop (k + 1) gs)) ≡ size_of gs
  whole = ap (λ hs. size * size_of hs) (sym here) ∙ all

  pub entry_has_points : 1 ≤ points_in g
  entry_has_points = have.0

  pub grown : size * points_in g * size_of (drop (k + 1) gs) ≡ size_of gs
  grown = omega (arith, whole)

  pub grown_some : 1 ≤ size * points_in g
  grown_some = omega (arith, mul-le-mul some have.0)

  -- an entry alone has too many points
  pub too_large : SIZE_LIMIT < points_in g → not (nat_lt SIZE_LIMIT (size_of gs)) ≡ false
  too_large l =
      let least : 1 * points_in g ≤ size * points_in g = mul-le-mul some (omega arith) in
      let more : size * points_in g * 1 ≤ size * points_in g * size_of (drop (k + 1) gs) = mul-le-mul (omega arith) (some_points (drop (k + 1) gs) have.1) in
      ap not (lt-ltb SIZE_LIMIT (size_of gs) (omega (arith, l, least, more, grown)))

  -- it and those before it have
  pub too_many : SIZE_LIMIT < size * points_in g → not (nat_lt SIZE_LIMIT (size_of gs)) ≡ false
  too_many l =
      let more : size * points_in g * 1 ≤ size * points_in g * size_of (drop (k + 1) gs) = mul-le-mul (omega arith) (some_points (drop (k + 1) gs) have.1) in
      ap not (lt-ltb SIZE_LIMIT (size_of gs) (omega (arith, l, more, grown)))
