-- The axes of a statement tell its blocks: two axes make a Pair where they are the parameters of one element.
use Rattle.std.proofs.Common.{◌≡◌, ◌∙◌, sym, ap, refl, ℕ, suc, ◌+◌, ◌*◌, ◌<◌, ◌≤◌, ◌==◌, Bool, true, false, if◌then◌else◌, List, [], ◌∷◌, ◌++◌, length, get_or, All, arith}
use Rattle.std.specs.Prelude.{nat_lt}
use Rattle.std.proofs.lemmas.Bool.{cond-false, cond-true, cond_both, eq-eqb, ne_eqb}
use Rattle.std.proofs.lemmas.List.Elements.{All-cons, All-nil}
use Rattle.geo_sketch.specs.declared.elements.Def.{Def}
use Rattle.geo_sketch.specs.declared.elements.Def.TheVariants.{Free, Fixed, Cut, Blend, Cross}
use Rattle.geo_sketch.specs.declared.elements.Element.{Element}
use Rattle.geo_sketch.specs.declared.statements.Statement.{Statement}
use Rattle.geo_sketch.specs.Constructions.{IsConstruction}
use Rattle.geo_sketch.specs.Lookups.{Rises}
use Rattle.geo_sketch.proofs.TableLaws.{number_at}
use Rattle.geo_degree.specs.declared.grids.Axis.{Axis}
use Rattle.geo_degree.specs.declared.grids.Block.{Block}
use Rattle.geo_degree.specs.declared.grids.Block.TheVariants.{One, Pair}
use Rattle.geo_degree.specs.Blocks.{blocks_among, blocks_of, own_blocks}
use Rattle.geo_degree.specs.Degrees.{statement_degree}
use Rattle.geo_degree.specs.Grids.{axes_among, axes_of, axis, parameters_of}
use Rattle.geo_sketch.specs.Assignments.{own_parameters}
use Rattle.geo_degree.proofs.PairLaws.{same_statement_degree}

-- two axes whose parameters follow on one another make a Pair, and another axis is a One
abbrev grouped : List Axis → List Block
grouped [] = []
grouped (a ∷ []) = One a.degree ∷ []
grouped (a ∷ b ∷ axes) = if b.param == a.param + 1 then Pair a.degree ∷ grouped axes else One a.degree ∷ grouped (b ∷ axes)

abbrev AreFrom : ℕ → List Axis → Type 0
AreFrom low axes = All (λ (a : Axis). 2 * low ≤ a.param) axes

module _ (degree : ℕ → ℕ) where
  -- ---- an axis more
  group_one : (n d : ℕ) (bs : List Block) (axes : List Axis) → bs ≡ grouped axes → AreFrom (n + 1) axes → One d ∷ bs ≡ grouped (axis (2 * n) d ∷ axes)
  group_one n d bs [] same from = ap (λ (cs : List Block). One d ∷ cs) same
  group_one n d bs (x ∷ axes) same from =
      let apart : (x.param == 2 * n + 1) ≡ false = ne_eqb x.param (2 * n + 1) (λ e. absurd (omega (arith, e, from 0 x (omega arith)))) in
      rw apart (ap (λ (cs : List Block). One d ∷ cs) same)

  ones : (n : ℕ) (bs : List Block) (axes : List Axis) → bs ≡ grouped axes → AreFrom (n + 1) axes → (b : Bool) → (if b then One (degree (2 * n)) ∷ [] else []) ++ bs ≡ grouped (if b then axis (2 * n) (degree (2 * n)) ∷ axes else axes)
  ones n bs axes same from true = group_one n (degree (2 * n)) bs axes same from
  ones n bs axes same from false = same

  pairs : (n : ℕ) (bs : List Block) (axes : List Axis) → bs ≡ grouped axes → (b c : Bool) → b ≡ c
      → (if b then Pair (degree (2 * n)) ∷ [] else []) ++ bs ≡ grouped (if b then axis (2 * n) (degree (2 * n)) ∷ (if c then axis (2 * n + 1) (degree (2 * n + 1)) ∷ axes else axes) else (if c then axis (2 * n + 1) (degree (2 * n + 1)) ∷ axes else axes))
  pairs n bs axes same true true e = let there : (2 * n + 1 == 2 * n + 1) ≡ true = eq-eqb (2 * n + 1) (2 * n + 1) refl in rw there (ap (λ (cs : List Block). Pair (degree (2 * n)) ∷ cs) same)
  pairs n bs axes same true false e = absurd cc
  pairs n bs axes same false true e = absurd cc
  pairs n bs axes same false false e = same

  own_group : (n : ℕ) (d : Def) (bs : List Block) (ps : List ℕ) → (d ≡ Free → degree (2 * n) ≡ degree (2 * n + 1)) → bs ≡ grouped (axes_among degree ps) → AreFrom (n + 1) (axes_among degree ps) → own_blocks degree n d ++ bs ≡ grouped (axes_among degree (own_parameters n d ++ ps))
  own_group n Free bs ps one same from = pairs n bs (axes_among degree ps) same (nat_lt 0 (degree (2 * n))) (nat_lt 0 (degree (2 * n + 1))) (ap (λ d. nat_lt 0 d) (one refl))
  own_group n (Fixed a b c) bs ps one same from = same
  own_group n (Cut k) bs ps one same from = ones n bs (axes_among degree ps) same from (nat_lt 0 (degree (2 * n)))
  own_group n (Blend k m) bs ps one same from = ones n bs (axes_among degree ps) same from (nat_lt 0 (degree (2 * n)))
  own_group n (Cross k m) bs ps one same from = same

  -- ---- where axes begin
  from_more : (low p d : ℕ) (axes : List Axis) (b : Bool) → 2 * low ≤ p → AreFrom low axes → AreFrom low (if b then axis p d ∷ axes else axes)
  from_more low p d axes true within from = All-cons (λ (a : Axis). 2 * low ≤ a.param) (axis p d) axes within from
  from_more low p d axes false within from = from

  own_from : (low n : ℕ) (d : Def) (ps : List ℕ) → low ≤ n → AreFrom low (axes_among degree ps) → AreFrom low (axes_among degree (own_parameters n d ++ ps))
  own_from low n Free ps within from =
      from_more low (2 * n) (degree (2 * n)) (axes_among degree ((2 * n + 1) ∷ ps)) (nat_lt 0 (degree (2 * n))) (omega arith) (from_more low (2 * n + 1) (degree (2 * n + 1)) (axes_among degree ps) (nat_lt 0 (degree (2 * n + 1))) (omega arith) from)
  own_from low n (Fixed a b c) ps within from = from
  own_from low n (Cut k) ps within from = from_more low (2 * n) (degree (2 * n)) (axes_among degree ps) (nat_lt 0 (degree (2 * n))) (omega arith) from
  own_from low n (Blend k m) ps within from = from_more low (2 * n) (degree (2 * n)) (axes_among degree ps) (nat_lt 0 (degree (2 * n))) (omega arith) from
  own_from low n (Cross k m) ps within from = from

  all_from : (low high : ℕ) (es : List Element) → low ≤ high → Rises high es → AreFrom low (axes_among degree (parameters_of es))
  all_from low high [] within rises = All-nil (λ (a : Axis). 2 * low ≤ a.param)
  all_from low high (e ∷ es) within rises = own_from low e.number e.def (parameters_of es) (omega (arith, rises.0)) (all_from low (e.number + 1) es (omega (arith, rises.0)) rises.1)

  -- ---- along the elements
  groups : (low : ℕ) (es : List Element) → Rises low es → All (λ (e : Element). e.def ≡ Free → degree (2 * e.number) ≡ degree (2 * e.number + 1)) es → blocks_among degree es ≡ grouped (axes_among degree (parameters_of es))
  groups low [] rises one = refl
  groups low (e ∷ es) rises one =
      own_group e.number e.def (blocks_among degree es) (parameters_of es) (one 0 e (omega arith)) (groups (e.number + 1) es rises.1 (λ k d l. one (suc k) d (omega arith))) (all_from (e.number + 1) (e.number + 1) es (omega arith) rises.1)

-- the blocks of a statement, by its axes
statement_groups : (es : List Element) → IsConstruction es → (s : Statement) → blocks_of es s ≡ grouped (axes_of es s)
statement_groups es c s =
    groups (statement_degree es s) 0 es c.rising
    (λ i x l free. let e = get_or es i x in same_statement_degree es c e.number e (number_at 0 es i x c.rising l).0 free s)

-- so the same axes make the same blocks
pub blocks_same : (es fs : List Element) → IsConstruction es → IsConstruction fs → (s : Statement) → axes_of es s ≡ axes_of fs s → blocks_of es s ≡ blocks_of fs s
blocks_same es fs c c' s same = statement_groups es c s ∙ ap grouped same ∙ sym (statement_groups fs c' s)
