-- The heights where every magnitude is 3, from a list that has the parameters of all elements.
use Rattle.std.proofs.Common.{◌≡◌, ◌≢◌, ◌∙◌, sym, ap, refl, inl, inr, ℕ, zero, suc, ◌+◌, ◌<◌, ◌≤◌, List, [], ◌∷◌, length, length-set, get_or, set, replicate, arith}
use Rattle.std.specs.Prelude.{◌==◌, true, false}
use Rattle.std.proofs.lemmas.Bool.{cases_eq, cond_both}
use Rattle.std.proofs.lemmas.Bool.Decides.{nat_tests}
use Rattle.std.proofs.lemmas.Grind.{get_or-set_at}
use Rattle.std.proofs.lemmas.List.{get_or-replicate, get_or-set_other, get_or_default, length-replicate}
use Rattle.geo_triple.specs.Sums.{determinant_sum}
use Rattle.geo_sketch.specs.declared.elements.Element.{Element}
use Rattle.geo_sketch.specs.Assignments.{first_parameter, second_parameter}
use Rattle.geo_sketch.specs.Constructions.{IsConstruction, computed}
use Rattle.geo_sketch.specs.Heights.{heights_algebra, heights_at}
use Rattle.geo_sketch.specs.Lookups.{IsLive}
use Rattle.geo_sketch.specs.Tables.{place}
use Rattle.geo_sketch.proofs.ConstructionLaws.{at_named, by_def_same}
use Rattle.geo_sketch.proofs.LiveElements.{related}
use Rattle.geo_sketch.proofs.NumberLaws.{number_found}
use Rattle.geo_sketch.proofs.TableLaws.{found_at, place_within}
use Rattle.geo_sketch.proofs.ValueLaws.{heights_agree}
use Rattle.geo_height.specs.Bounds.{magnitude_of}
use Rattle.geo_bracket.specs.Expressions.{Terms, expression_height}
use Rattle.geo_bracket.specs.Terms.{height_of_sum}

-- where two assignments of magnitudes agree on the parameters of all live elements, so do the heights
module _ (es : List Element) (c : IsConstruction es) (m k : ℕ → ℕ) (agree : (n : ℕ) → IsLive es n → (m (first_parameter n) ≡ k (first_parameter n)) × (m (second_parameter n) ≡ k (second_parameter n))) where
  heights_same : (n : ℕ) → heights_at es n m ≡ heights_at es n k
  heights_same =
      related es c (heights_algebra m) (heights_algebra k) (λ n g h. g ≡ h) (λ n q. refl)
      (λ n e q s.
      let at = agree n (e, q) in
      by_def_same (heights_algebra m) n e.def (computed (heights_algebra m) es) (computed (heights_algebra k) es) (at_named _ (λ i. computed (heights_algebra m) es i ≡ computed (heights_algebra k) es i) e.def (λ i p. p.2) s)
      ∙ (heights_agree m k n at.0 at.1).1 e.def (computed (heights_algebra k) es))

  pub expression_same : (ts : Terms) → expression_height es ts m ≡ expression_height es ts k
  expression_same ts = λ i. height_of_sum (λ b. determinant_sum (heights_same b.first i) (heights_same b.second i) (heights_same b.third i)) ts

-- ---- a list of threes
pub three_there : (qs : List (ℕ × ℕ)) (i p : ℕ) → i < length qs → ((j : ℕ) → j < length qs → (get_or qs j (0, 0)).1 ≡ 3) → (get_or qs i (0, 0)).0 ≡ p → magnitude_of qs p ≡ 3
three_there [] i p l all at = absurd (omega arith)
three_there (q ∷ qs) zero p l all at = cond_both (q.0 == p) q.1 (magnitude_of qs p) (λ m. m ≡ 3) (λ t. all 0 (omega arith)) (λ t. absurd (grind (arith, nat_tests)))
three_there (q ∷ qs) (suc i) p l all at = cond_both (q.0 == p) q.1 (magnitude_of qs p) (λ m. m ≡ 3) (λ t. all 0 (omega arith)) (λ t. three_there qs i p (omega arith) (λ j k. all (suc j) (omega arith)) at)

-- the parameters of the first so many elements stand in a list, the second ones from place `half` on
pub record HasThrees (es : List Element) (half count : ℕ) (qs : List (ℕ × ℕ)) : Type 0 where
  pub all : (j : ℕ) → j < length qs → (get_or qs j (0, 0)).1 ≡ 3
  pub first : (j : ℕ) (d : Element) → j < count → (get_or qs j (0, 0)).0 ≡ first_parameter (get_or es j d).number
  pub second : (j : ℕ) (d : Element) → j < count → (get_or qs (half + j) (0, 0)).0 ≡ second_parameter (get_or es j d).number

pub threes_given : (es : List Element) (half : ℕ) (qs : List (ℕ × ℕ)) → half + length es ≤ length qs → HasThrees es half (length es) qs → (n : ℕ) → IsLive es n → (magnitude_of qs (first_parameter n) ≡ 3) × (magnitude_of qs (second_parameter n) ≡ 3)
threes_given es half qs room have n live =
    let e = live.0 in
    let j = place es n in
    let within : place es n < length es = place_within es n live.0 live.1 in
    let number : (get_or es (place es n) live.0).number ≡ n = ap (λ (x : Element). x.number) (found_at es n live.0 live.0 live.1) ∙ number_found es n live.0 live.1 in (
      three_there qs (place es n) (first_parameter n) (omega arith) have.all (have.first (place es n) live.0 within ∙ ap first_parameter number),
      three_there qs (half + place es n) (second_parameter n) (omega arith) have.all (have.second (place es n) live.0 within ∙ ap second_parameter number),
    )

pub threes_begin : (es : List Element) (half count : ℕ) → HasThrees es half 0 (replicate {A = ℕ × ℕ} count (0, 3))
threes_begin es half count = record {
  all = λ j l. ap (λ (q : ℕ × ℕ). q.1) (get_or-replicate {A = ℕ × ℕ} count j (0, 3) (0, 0) (omega (arith, l, length-replicate {A = ℕ × ℕ} count (0, 3))));
  first = λ j d l. absurd (omega arith);
  second = λ j d l. absurd (omega arith);
}

-- one more element, whose parameters are written at these places
pub threes_more : (es : List Element) (half i : ℕ) (qs : List (ℕ × ℕ)) (x : Element) (f s : ℕ) → i < half → half + i < length qs → x ≡ get_or es i x → i < length es → f ≡ first_parameter x.number → s ≡ second_parameter x.number → HasThrees es half i qs → HasThrees es half (i + 1) (set (set qs i (f, 3)) (half + i) (s, 3))
threes_more es half i qs x f s below room same within first second have =
    let once = set qs i (f, 3) in
    let long : length (set qs i (f, 3)) ≡ length qs = length-set qs i (f, 3) in
    let here : (d : Element) → (get_or es i d).number ≡ x.number = λ d. ap (λ (e : Element). e.number) (get_or_default es i d x within ∙ sym same) in
    record {
      all = λ j l.
          elim (cases_eq j (half + i)) [
            | inl e ↦ ap (λ (q : ℕ × ℕ). q.1) (get_or-set_at once (half + i) j (s, 3) (0, 0) e (omega (arith, room, long)))
            | inr apart ↦ elim (cases_eq j i) [
              | inl e ↦ ap (λ (q : ℕ × ℕ). q.1) (get_or-set_other once (half + i) j (s, 3) (0, 0) apart ∙ get_or-set_at qs i j (f, 3) (0, 0) e (omega (arith, room)))
              | inr other ↦ ap (λ (q : ℕ × ℕ). q.1) (get_or-set_other once (half + i) j (s, 3) (0, 0) apart ∙ get_or-set_other qs i j (f, 3) (0, 0) other) ∙ have.all j (omega (arith, l, long, length-set once (half + i) (s, 3)))
            ]
          ];
      first = λ j d l.
          let apart : j ≢ half + i = omega (arith, l, below) in
          elim (cases_eq j i) [
            | inl e ↦ ap (λ (q : ℕ × ℕ). q.0) (get_or-set_other once (half + i) j (s, 3) (0, 0) apart ∙ get_or-set_at qs i j (f, 3) (0, 0) e (omega (arith, room))) ∙ first ∙ ap first_parameter (sym (here d) ∙ ap (λ (k : ℕ). (get_or es k d).number) (sym e))
            | inr other ↦ ap (λ (q : ℕ × ℕ). q.0) (get_or-set_other once (half + i) j (s, 3) (0, 0) apart ∙ get_or-set_other qs i j (f, 3) (0, 0) other) ∙ have.first j d (omega (arith, l, other))
          ];
      second = λ j d l.
          elim (cases_eq j i) [
            | inl e ↦ ap (λ (q : ℕ × ℕ). q.0) (get_or-set_at once (half + i) (half + j) (s, 3) (0, 0) (omega (arith, e)) (omega (arith, room, long))) ∙ second ∙ ap second_parameter (sym (here d) ∙ ap (λ (k : ℕ). (get_or es k d).number) (sym e))
            | inr other ↦ (let away : half + j ≢ half + i = omega (arith, other) in
                let unlike : half + j ≢ i = omega (arith, below) in
                ap (λ (q : ℕ × ℕ). q.0) (get_or-set_other once (half + i) (half + j) (s, 3) (0, 0) away ∙ get_or-set_other qs i (half + j) (f, 3) (0, 0) unlike) ∙ have.second j d (omega (arith, l, other)))
          ];
    }
