-- What is kept of heights is exact: a table of it has the heights of each element, or None above the limit.
-- lemmas for other crates
use Rattle.std.proofs.Common.{◌≡◌, ◌∙◌, sym, refl, inl, inr, ℕ, ◌<◌, ◌≤◌, Option, None, Some, List, length, get_or, arith}
use Rattle.std.specs.Prelude.{nat_lt, true, false}
use Rattle.std.proofs.lemmas.Bool.{cases_lt}
use Rattle.std.proofs.lemmas.Bool.Decides.{nat_tests}
use Rattle.geo_triple.specs.Sums.{Sizes, largest_of, cross_sums, dot_sum, determinant_sum}
use Rattle.geo_triple.proofs.Sums.{a-largest, b-largest, c-largest, largest_bound, largest-cross_left, largest-cross_right, largest-dot_left, largest-dot_right}
use Rattle.geo_sketch.specs.declared.elements.Def.{Def}
use Rattle.geo_sketch.specs.declared.elements.Def.TheVariants.{Free, Fixed, Cut, Blend, Cross}
use Rattle.geo_sketch.specs.declared.elements.Element.{Element}
use Rattle.geo_sketch.specs.declared.statements.Statement.{Statement}
use Rattle.geo_sketch.specs.declared.statements.Statement.TheVariants as statement
use Rattle.geo_sketch.specs.Assignments.{first_parameter}
use Rattle.geo_sketch.specs.Constructions.{by_def, computed, AtNamed, IsConstruction}
use Rattle.geo_sketch.specs.Heights.{heights_algebra, heights_at, cut_heights, blend_heights, statement_height}
use Rattle.geo_sketch.specs.Lookups.{IsLive}
use Rattle.geo_sketch.specs.Needs.{AtStated}
use Rattle.geo_sketch.specs.Tables.{place, Filled}
use Rattle.geo_sketch.proofs.ConstructionLaws.{at_named}
use Rattle.geo_sketch.proofs.LiveElements.{related}
use Rattle.geo_sketch.proofs.TableLaws.{place_within}
use Rattle.geo_height.specs.declared.heights.Heights.{Heights}
use Rattle.geo_height.specs.Capped.{within_limit, heights_within, from_one, from_both, capped_algebra, capped_cross, capped_dot, capped_largest, capped_statement}
use Rattle.geo_triple.specs.declared.limits.TheConstants.{STATEMENT_LIMIT}
use Rattle.geo_height.proofs.HeightLaws.{positive_made}
use Rattle.geo_height.proofs.SumLaws.{ArePositive, cross-positive, largest-cut, largest-blend_left, largest-blend_right}

-- ---- within the limit, and past it
pub near : (h : ℕ) → h ≤ STATEMENT_LIMIT → within_limit h ≡ Some h
near h p = let test : nat_lt STATEMENT_LIMIT h ≡ false = grind (arith, nat_tests) in rw test refl

pub far : (h : ℕ) → STATEMENT_LIMIT < h → within_limit h ≡ None
far h p = let test : nat_lt STATEMENT_LIMIT h ≡ true = grind (arith, nat_tests) in rw test refl

pub all_near : (g : Sizes) → largest_of g ≤ STATEMENT_LIMIT → heights_within g ≡ Some record { a = g.a; b = g.b; c = g.c }
all_near g p = let test : nat_lt STATEMENT_LIMIT (largest_of g) ≡ false = grind (arith, nat_tests) in rw test refl

pub one_far : (g : Sizes) → STATEMENT_LIMIT < largest_of g → heights_within g ≡ None
one_far g p = let test : nat_lt STATEMENT_LIMIT (largest_of g) ≡ true = grind (arith, nat_tests) in rw test refl

-- what is not kept is past it, and what is kept is the number
past : (h : ℕ) → None ≡ within_limit h → STATEMENT_LIMIT < h
past h q =
    elim (cases_lt STATEMENT_LIMIT h) [
      | inl large ↦ large
      | inr low ↦ absurd (let some = near h low in cc)
    ]

same : (h x : ℕ) → Some x ≡ within_limit h → (x ≡ h) × (h ≤ STATEMENT_LIMIT)
same h x q =
    elim (cases_lt STATEMENT_LIMIT h) [
      | inl large ↦ absurd (let none = far h large in cc)
      | inr low ↦ (let some = near h low in cc, low)
    ]

pub past_first : (g : Sizes) → None ≡ within_limit g.a → heights_within g ≡ None
past_first g q = one_far g (omega (arith, past g.a q, a-largest g))

pub past_second : (g : Sizes) → None ≡ within_limit g.b → heights_within g ≡ None
past_second g q = one_far g (omega (arith, past g.b q, b-largest g))

pub past_third : (g : Sizes) → None ≡ within_limit g.c → heights_within g ≡ None
past_third g q = one_far g (omega (arith, past g.c q, c-largest g))

pub gathered : (g : Sizes) (x y z : ℕ) → Some x ≡ within_limit g.a → Some y ≡ within_limit g.b → Some z ≡ within_limit g.c → Some record { a = x; b = y; c = z } ≡ heights_within g
gathered g x y z p q r =
    let a = same g.a x p in
    let b = same g.b y q in
    let c = same g.c z r in
    let first = a.0 in
    let second = b.0 in
    let third = c.0 in
    (λ i. Some record { a = first i; b = second i; c = third i }) ∙ sym (all_near g (largest_bound g STATEMENT_LIMIT a.1 b.1 c.1))

-- ---- what is made of what is kept
one_kept : (f : Sizes → Sizes) (g : Sizes) → largest_of g ≤ largest_of (f g) → from_one (heights_within g) f ≡ heights_within (f g)
one_kept f g p =
    elim (cases_lt STATEMENT_LIMIT (largest_of g)) [
      | inl past ↦ rw (one_far g past, one_far (f g) (omega arith)) refl
      | inr within ↦ rw (all_near g within) refl
    ]

both_kept : {X : Type 0} (f : Sizes → Sizes → Option X) (g h : Sizes) → (STATEMENT_LIMIT < largest_of g → f g h ≡ None) → (STATEMENT_LIMIT < largest_of h → f g h ≡ None) → from_both (heights_within g) (heights_within h) f ≡ f g h
both_kept f g h p q =
    elim (cases_lt STATEMENT_LIMIT (largest_of g)) [
      | inl past ↦ rw (one_far g past, p past) refl
      | inr within ↦ elim (cases_lt STATEMENT_LIMIT (largest_of h)) [
        | inl past ↦ rw (all_near g within, one_far h past, q past) refl
        | inr low ↦ rw (all_near g within, all_near h low) refl
      ]
    ]

largest_kept : (g : Sizes) → capped_largest (heights_within g) ≡ within_limit (largest_of g)
largest_kept g =
    elim (cases_lt STATEMENT_LIMIT (largest_of g)) [
      | inl past ↦ rw (one_far g past, far (largest_of g) past) refl
      | inr within ↦ rw (all_near g within, near (largest_of g) within) refl
    ]

-- it stands for these heights, which are at least 1
pub record IsKept (kept : Option Heights) (h : Sizes) : Type 0 where
  pub value : kept ≡ heights_within h
  pub positive : ArePositive h

cross_kept : (a b : Option Heights) (g h : Sizes) → IsKept a g → IsKept b h → IsKept (capped_cross a b) (cross_sums g h)
cross_kept a b g h k l =
    record {
      value = rw (k.value, l.value) (both_kept (λ x y. heights_within (cross_sums x y)) g h (λ past. one_far (cross_sums g h) (omega (arith, largest-cross_left g h l.positive))) (λ past. one_far (cross_sums g h) (omega (arith, largest-cross_right g h k.positive))));
      positive = cross-positive g h k.positive l.positive;
    }

dot_kept : (a b : Option Heights) (g h : Sizes) → IsKept a g → IsKept b h → capped_dot a b ≡ within_limit (dot_sum g h)
dot_kept a b g h k l =
    rw (k.value, l.value) (both_kept (λ x y. within_limit (dot_sum x y)) g h (λ past. far (dot_sum g h) (omega (arith, largest-dot_left g h l.positive))) (λ past. far (dot_sum g h) (omega (arith, largest-dot_right g h k.positive))))

-- by each definition, from what is kept of the named elements
module _ (m : ℕ → ℕ) (n : ℕ) (f : ℕ → Option Heights) (g : ℕ → Sizes) where
  value_made : (d : Def) → AtNamed d (λ k. IsKept (f k) (g k)) → by_def (capped_algebra m) n d f ≡ heights_within (by_def (heights_algebra m) n d g)
  value_made Free s = refl
  value_made (Fixed a b c) s = refl
  value_made (Cut k) s = rw s.value (one_kept (λ x. cut_heights x (m (first_parameter n))) (g k) (largest-cut (g k) (m (first_parameter n))))
  value_made (Blend k l) s =
      let h = blend_heights (g k) (g l) (m (first_parameter n)) in
      rw (s.0.value, s.1.value) (both_kept (λ x y. heights_within (blend_heights x y (m (first_parameter n)))) (g k) (g l) (λ past. one_far h (omega (arith, largest-blend_left (g k) (g l) (m (first_parameter n))))) (λ past. one_far h (omega (arith, largest-blend_right (g k) (g l) (m (first_parameter n))))))
  value_made (Cross k l) s = (cross_kept (f k) (f l) (g k) (g l) s.0 s.1).value

  pub kept_made : (d : Def) → AtNamed d (λ k. IsKept (f k) (g k)) → IsKept (by_def (capped_algebra m) n d f) (by_def (heights_algebra m) n d g)
  kept_made d s = record { value = value_made d s; positive = positive_made d n m g (at_named (λ k. IsKept (f k) (g k)) (λ k. ArePositive (g k)) d (λ k p. p.positive) s) }

module _ (es : List Element) (c : IsConstruction es) (m : ℕ → ℕ) where
  pub kept : (n : ℕ) → IsLive es n → IsKept (computed (capped_algebra m) es n) (heights_at es n m)
  kept =
      related es c (capped_algebra m) (heights_algebra m) (λ n k h. IsLive es n → IsKept k h) (λ n q l. absurd (let found = l.1 in cc))
      (λ n e q s l. kept_made m n (computed (capped_algebra m) es) (computed (heights_algebra m) es) e.def (at_named _ (λ k. IsKept (computed (capped_algebra m) es k) (heights_at es k m)) e.def (λ k p. p.2 p.1) s))

  module _ (table : List (Option Heights)) (filled : Filled (capped_algebra m) es None table (length es)) where
    kept_at : (n : ℕ) → IsLive es n → IsKept (get_or table (place es n) None) (heights_at es n m)
    kept_at n l = rw (filled n l.0 l.1 (place_within es n l.0 l.1)) (kept n l)

    pub heights_in_table : (n : ℕ) → IsLive es n → get_or table (place es n) None ≡ heights_within (heights_at es n m)
    heights_in_table n l = (kept_at n l).value

    pub statement_in_table : (s : Statement) → AtStated s (IsLive es) → capped_statement s (λ k. get_or table (place es k) None) ≡ within_limit (statement_height es s m)
    unfolding determinant_sum
    statement_in_table (statement.Null n) l = rw (heights_in_table n l) (largest_kept (heights_at es n m))
    statement_in_table (statement.Same n k) l = rw ((cross_kept _ _ _ _ (kept_at n l.0) (kept_at k l.1)).value) (largest_kept (cross_sums (heights_at es n m) (heights_at es k m)))
    statement_in_table (statement.On n k) l = dot_kept _ _ _ _ (kept_at n l.0) (kept_at k l.1)
    statement_in_table (statement.Triple n k i) l = dot_kept _ _ _ _ (kept_at n l.0) (cross_kept _ _ _ _ (kept_at k l.1) (kept_at i l.2))
