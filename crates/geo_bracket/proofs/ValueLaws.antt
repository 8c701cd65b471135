-- The values of brackets from the triples of a work are within their sizes, and so is what is multiplied and added up on the way.
use Rattle.std.proofs.Common.{◌≡◌, ap, ℕ, ◌+◌, ◌*◌, ◌<◌, ◌≤◌, max, List, length, get_or, drop, ℤ, ◌+ℤ◌, ◌*ℤ◌, unsigned_abs, le_refl, le_trans, mul-le-mul, arith}
use Rattle.std.specs.Prelude.{All}
use Rattle.geo_algebra.proofs.AbsoluteValues.{abs-add, abs-mul}
use Rattle.geo_triple.specs.declared.Triple.{Triple}
use Rattle.geo_triple.specs.Sums.{sizes_of}
use Rattle.geo_triple.proofs.Sums.{determinant-fits, fit_refl}
use Rattle.geo_grid.specs.Nodes.{triple_there}
use Rattle.geo_bracket.specs.declared.expressions.Bracket.{Bracket}
use Rattle.geo_bracket.specs.Expressions.{Terms}
use Rattle.geo_bracket.specs.Posing.{bracket_size, bracket_there}
use Rattle.geo_bracket.specs.Terms.{Product, height_of_product, height_of_sum, height_of_term, product_of, sum_of}
use Rattle.geo_bracket.proofs.FactorLaws.{factor_below, front_below, product_below, product_on, sum_on}
use Rattle.geo_bracket.proofs.SumLaws.{term_bounded}

module _ (triples : List Triple) where
  abbrev f : Bracket ℕ → ℤ
  f b = bracket_there triples b

  abbrev h : Bracket ℕ → ℕ
  h b = bracket_size triples b

  size_positive : (bs : List (Bracket ℕ)) → All (λ b. 1 ≤ h b) bs
  size_positive bs k d l = omega arith

  pub there_within : (b : Bracket ℕ) → unsigned_abs (bracket_there triples b) ≤ bracket_size triples b
  there_within b =
      let s = triple_there triples b.first in
      let t = triple_there triples b.second in
      let u = triple_there triples b.third in
      omega (arith, determinant-fits s t u (sizes_of s) (sizes_of t) (sizes_of u) (fit_refl (sizes_of s)) (fit_refl (sizes_of t)) (fit_refl (sizes_of u)))

  -- ---- a product from the front
  module _ (bs : List (Bracket ℕ)) (i : ℕ) (d : Bracket ℕ) (p : ℤ) (limit : ℕ) (within : i < length bs) (low : unsigned_abs p * height_of_product h (drop i bs) ≤ limit) where
    abbrev b : Bracket ℕ
    b = get_or bs i d

    smaller : unsigned_abs p * unsigned_abs (f b) ≤ unsigned_abs p * h b
    smaller = mul-le-mul (le_refl (unsigned_abs p)) (there_within b)

    on_low : unsigned_abs p * h b * height_of_product h (drop (i + 1) bs) ≤ limit
    on_low = omega (arith, product_on h bs i d (unsigned_abs p) within, low)

    pub so_far : unsigned_abs p ≤ limit
    so_far = front_below h bs (size_positive bs) i (unsigned_abs p) limit low

    pub next_low : unsigned_abs p * unsigned_abs (bracket_there triples (get_or bs i d)) ≤ limit
    next_low = le_trans smaller (front_below h bs (size_positive bs) (i + 1) (unsigned_abs p * h b) limit on_low)

    pub product_low_on : unsigned_abs (p *ℤ bracket_there triples (get_or bs i d)) * height_of_product (bracket_size triples) (drop (i + 1) bs) ≤ limit
    product_low_on = le_trans (omega (arith, ap (λ a. a * height_of_product h (drop (i + 1) bs)) (abs-mul p (f b)), mul-le-mul smaller (le_refl (height_of_product h (drop (i + 1) bs))))) on_low

  -- each bracket of a term is within what the term is
  pub size_below : (t : Product (Bracket ℕ)) (i : ℕ) (d : Bracket ℕ) (limit : ℕ) → i < length t.brackets → height_of_term (bracket_size triples) t ≤ limit → bracket_size triples (get_or t.brackets i d) ≤ limit
  size_below t i d limit within low = le_trans (factor_below h t.brackets i d (size_positive t.brackets) within) (le_trans (product_below h t) low)

  -- the number begins the product
  pub begins_low : (t : Product (Bracket ℕ)) (limit : ℕ) → height_of_term (bracket_size triples) t ≤ limit → unsigned_abs t.number * height_of_product (bracket_size triples) t.brackets ≤ limit
  begins_low t limit low =
      let one : unsigned_abs t.number ≤ max 1 (unsigned_abs t.number) = omega arith in
      le_trans (mul-le-mul one (le_refl (height_of_product h t.brackets))) low

  -- ---- a sum from the front
  module _ (ts : Terms) (i : ℕ) (t : Product (Bracket ℕ)) (s : ℤ) (limit : ℕ) (within : i < length ts) (same : t ≡ get_or ts i t) (low : unsigned_abs s + height_of_sum h (drop i ts) ≤ limit) where
    on_sum : unsigned_abs s + height_of_term h t + height_of_sum h (drop (i + 1) ts) ≤ limit
    on_sum = omega (arith, sum_on h ts i t (unsigned_abs s) within, ap (height_of_term h) same, low)

    pub term_low_at : height_of_term (bracket_size triples) t ≤ limit
    term_low_at = omega (arith, on_sum)

    pub added_low : unsigned_abs s + unsigned_abs (t.number *ℤ product_of (bracket_there triples) t.brackets) ≤ limit
    added_low = omega (arith, on_sum, term_bounded f h there_within t)

    pub sum_low_step : unsigned_abs (s +ℤ t.number *ℤ product_of (bracket_there triples) t.brackets) + height_of_sum (bracket_size triples) (drop (i + 1) ts) ≤ limit
    sum_low_step = omega (arith, on_sum, abs-add s (t.number *ℤ product_of f t.brackets), term_bounded f h there_within t)
