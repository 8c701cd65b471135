-- Sums of products from the front: what is done so far and what is left make the whole, and each factor and each term is at most the whole.
use Rattle.std.proofs.Common.{◌≡◌, ◌∙◌, sym, ap, subst, ℕ, zero, suc, ◌+◌, ◌*◌, ◌<◌, ◌≤◌, max, List, [], ◌∷◌, length, get_or, drop, ℤ, ◌+ℤ◌, ◌*ℤ◌, unsigned_abs, le_refl, le_trans, mul-le-mul, arith}
use Rattle.std.specs.Prelude.{All}
use Rattle.std.proofs.Math.Nat.{mul_assoc}
use Rattle.std.proofs.lemmas.Int.{ints}
use Rattle.std.proofs.lemmas.List.{at_drop_all, at_drop_more}
use Rattle.geo_algebra.proofs.Integers.{mul_ℤ_assoc}
use Rattle.geo_height.proofs.SumLaws.{grows}
use Rattle.geo_bracket.specs.declared.expressions.Bracket.{Bracket}
use Rattle.geo_bracket.specs.Terms.{Product, AtBracket, AtEach, AtProduct, height_of_product, height_of_sum, height_of_term, product_of, sum_of}

module _ {X : Type 0} (f : X → ℤ) where
  pub value_on : (bs : List X) (i : ℕ) (d : X) (p : ℤ) → i < length bs → p *ℤ product_of f (drop i bs) ≡ (p *ℤ f (get_or bs i d)) *ℤ product_of f (drop (i + 1) bs)
  value_on bs i d p l = ap (λ q. p *ℤ q) (at_drop_more (product_of f) bs i d l) ∙ sym (mul_ℤ_assoc p (f (get_or bs i d)) (product_of f (drop (i + 1) bs)))

module _ {X : Type 0} (h : X → ℕ) where
  -- ---- from the front
  pub product_on : (bs : List X) (i : ℕ) (d : X) (p : ℕ) → i < length bs → p * height_of_product h (drop i bs) ≡ p * h (get_or bs i d) * height_of_product h (drop (i + 1) bs)
  product_on bs i d p l = ap (λ q. p * q) (at_drop_more (height_of_product h) bs i d l) ∙ sym (mul_assoc p (h (get_or bs i d)) (height_of_product h (drop (i + 1) bs)))

  pub sum_on : (ts : List (Product X)) (i : ℕ) (d : Product X) (s : ℕ) → i < length ts → s + height_of_sum h (drop i ts) ≡ s + height_of_term h (get_or ts i d) + height_of_sum h (drop (i + 1) ts)
  sum_on ts i d s l = omega (arith, at_drop_more (height_of_sum h) ts i d l)

  -- ---- where each factor is at least 1
  module _ (bs : List X) (positive : All (λ b. 1 ≤ h b) bs) where
    pub rest_positive : (i : ℕ) → 1 ≤ height_of_product h (drop i bs)
    rest_positive i = by_list bs i positive
      where
        by_list : (cs : List X) (k : ℕ) → All (λ b. 1 ≤ h b) cs → 1 ≤ height_of_product h (drop k cs)
        by_list [] zero all = omega arith
        by_list [] (suc k) all = omega arith
        by_list (c ∷ cs) zero all = omega (arith, mul-le-mul (all 0 c (omega arith)) (by_list cs 0 (λ j d l. all (suc j) d (omega arith))))
        by_list (c ∷ cs) (suc k) all = by_list cs k (λ j d l. all (suc j) d (omega arith))

    -- what is multiplied so far is at most the whole
    pub front_below : (i p whole : ℕ) → p * height_of_product h (drop i bs) ≤ whole → p ≤ whole
    front_below i p whole low = omega (arith, mul-le-mul (le_refl p) (rest_positive i), low)

  pub factor_below : (bs : List X) (i : ℕ) (d : X) → All (λ b. 1 ≤ h b) bs → i < length bs → h (get_or bs i d) ≤ height_of_product h bs
  factor_below [] i d all l = absurd (omega arith)
  factor_below (b ∷ bs) zero d all l = omega (arith, mul-le-mul (le_refl (h b)) (rest_positive bs (λ j e m. all (suc j) e (omega arith)) 0))
  factor_below (b ∷ bs) (suc i) d all l =
      le_trans (factor_below bs i d (λ j e m. all (suc j) e (omega arith)) (omega arith)) (grows (h b) (height_of_product h bs) (all 0 b (omega arith)))

  pub product_below : (t : Product X) → height_of_product h t.brackets ≤ height_of_term h t
  product_below t = grows (max 1 (unsigned_abs t.number)) (height_of_product h t.brackets) (omega arith)

  pub term_below : (ts : List (Product X)) (i : ℕ) (d : Product X) → i < length ts → height_of_term h (get_or ts i d) ≤ height_of_sum h ts
  term_below [] i d l = absurd (omega arith)
  term_below (t ∷ ts) zero d l = omega arith
  term_below (t ∷ ts) (suc i) d l = omega (arith, term_below ts i d (omega arith))

-- ---- what holds at each bracket, at those of one term
pub each_at : {N : Type 0} (P : N → Type 0) (ts : List (Product (Bracket N))) (i : ℕ) (x : Product (Bracket N)) → i < length ts → x ≡ get_or ts i x → AtEach P ts → AtProduct P x.brackets
each_at P ts i x l same each = subst (λ t. AtProduct P t.brackets) (sym same) (each i x l)

pub one_at : {N : Type 0} (P : N → Type 0) (bs : List (Bracket N)) (i : ℕ) (b : Bracket N) → i < length bs → b ≡ get_or bs i b → AtProduct P bs → AtBracket P b
one_at P bs i b l same each = subst (λ c. AtBracket P c) (sym same) (each i b l)

-- what `get` gives where there is none
abbrev pub no_bracket : Bracket ℕ
no_bracket = record { first = 0; second = 0; third = 0 }

-- ---- one step on
pub sum_step : {X : Type 0} (h : X → ℕ) (ts : List (Product X)) (i : ℕ) (x : Product X) (s whole : ℕ) → i < length ts → x ≡ get_or ts i x → s + height_of_sum h (drop i ts) ≡ whole → s + height_of_term h x + height_of_sum h (drop (i + 1) ts) ≡ whole
sum_step h ts i x s whole l same done = omega (arith, sum_on h ts i x s l, ap (height_of_term h) same, done)

pub product_step : {X : Type 0} (h : X → ℕ) (bs : List X) (i : ℕ) (d : X) (p whole : ℕ) → i < length bs → p * height_of_product h (drop i bs) ≡ whole → p * h (get_or bs i d) * height_of_product h (drop (i + 1) bs) ≡ whole
product_step h bs i d p whole l done = sym (product_on h bs i d p l) ∙ done

-- and at the end
pub sum_end : {X : Type 0} (h : X → ℕ) (ts : List (Product X)) (i s whole : ℕ) → length ts ≤ i → s + height_of_sum h (drop i ts) ≡ whole → s ≡ whole
sum_end h ts i s whole l done = omega (arith, at_drop_all (height_of_sum h) ts i l, done)

pub product_end : {X : Type 0} (h : X → ℕ) (bs : List X) (i p whole : ℕ) → length bs ≤ i → p * height_of_product h (drop i bs) ≡ whole → p ≡ whole
product_end h bs i p whole l done = omega (arith, ap (λ q. p * q) (at_drop_all (height_of_product h) bs i l), done)

pub value_step : {X : Type 0} (f : X → ℤ) (ts : List (Product X)) (i : ℕ) (x : Product X) (s whole : ℤ) → i < length ts → x ≡ get_or ts i x → s +ℤ sum_of f (drop i ts) ≡ whole → (s +ℤ x.number *ℤ product_of f x.brackets) +ℤ sum_of f (drop (i + 1) ts) ≡ whole
value_step {X = X} f ts i x s whole l same done =
    let here : sum_of f (drop i ts) ≡ x.number *ℤ product_of f x.brackets +ℤ sum_of f (drop (i + 1) ts) = at_drop_more (sum_of f) ts i x l ∙ ap (λ (t : Product X). t.number *ℤ product_of f t.brackets +ℤ sum_of f (drop (i + 1) ts)) (sym same) in
    let whole_is : s +ℤ (x.number *ℤ product_of f x.brackets +ℤ sum_of f (drop (i + 1) ts)) ≡ whole = ap (λ z. s +ℤ z) (sym here) ∙ done in
    omega (arith, ints, whole_is)
