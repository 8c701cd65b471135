-- The blocks of a statement cover its axes, and the two axes of a Pair are the parameters of one element.
use Rattle.std.proofs.Common.{◌≡◌, ap, ap₂, sym, refl, ℕ, zero, suc, ◌+◌, ◌*◌, ◌<◌, Bool, true, false, if◌then◌else◌, List, [], ◌∷◌, ◌++◌, length, get_or, map, All, Contains, arith}
use Rattle.std.specs.Prelude.{nat_lt}
use Rattle.geo_sketch.specs.declared.elements.Def.{Def}
use Rattle.geo_sketch.specs.declared.elements.Def.TheVariants.{Free, Fixed, Cut, Blend, Cross}
use Rattle.geo_sketch.specs.declared.elements.Element.{Element}
use Rattle.geo_degree.specs.declared.grids.Axis.{Axis}
use Rattle.geo_degree.specs.declared.grids.Block.{Block}
use Rattle.geo_degree.specs.declared.grids.Block.TheVariants.{One, Pair}
use Rattle.geo_degree.specs.Blocks.{block_degrees, blocks_among, own_blocks, pairs_from}
use Rattle.geo_degree.specs.Grids.{axes_among, axis, parameters_of}
use Rattle.geo_sketch.specs.Assignments.{own_parameters}

-- block by block, each of the axes that it covers has its degree
abbrev pub Match : List Block → List Axis → Type 0
Match [] [] = Unit {0}
Match [] (a ∷ axes) = ⊥
Match (One d ∷ bs) [] = ⊥
Match (One d ∷ bs) (a ∷ axes) = (a.degree ≡ d) × Match bs axes
Match (Pair d ∷ bs) [] = ⊥
Match (Pair d ∷ bs) (a ∷ []) = ⊥
Match (Pair d ∷ bs) (a ∷ b ∷ axes) = (a.degree ≡ d) × (b.degree ≡ d) × ((m : ℕ) × (a.param ≡ 2 * m) × (b.param ≡ 2 * m + 1)) × Match bs axes

pub match_degrees : (bs : List Block) (axes : List Axis) → Match bs axes → block_degrees bs ≡ map (λ (a : Axis). a.degree) axes
match_degrees [] [] h = refl
match_degrees [] (a ∷ axes) h = absurd h
match_degrees (One d ∷ bs) [] h = absurd h
match_degrees (One d ∷ bs) (a ∷ axes) h = ap₂ (λ e es. e ∷ es) (sym h.0) (match_degrees bs axes h.1)
match_degrees (Pair d ∷ bs) [] h = absurd h
match_degrees (Pair d ∷ bs) (a ∷ []) h = absurd h
match_degrees (Pair d ∷ bs) (a ∷ b ∷ axes) h = let rest = match_degrees bs axes h.3 in λ i. sym h.0 i ∷ sym h.1 i ∷ rest i

-- where the two axes of a pair lie, and whose parameters they are
pub pair_parameters : (bs : List Block) (axes : List Axis) (k : ℕ) (p : ℕ × ℕ) (d : Axis) → Match bs axes → Contains (pairs_from k bs) p → (j : ℕ) × (p.0 ≡ k + j) × (p.1 ≡ k + suc j) × (suc j < length axes) × ((m : ℕ) × ((get_or axes j d).param ≡ 2 * m) × ((get_or axes (suc j) d).param ≡ 2 * m + 1))
pair_parameters [] axes k p d h c = absurd (omega (arith, c.1))
pair_parameters (One e ∷ bs) [] k p d h c = absurd h
pair_parameters (One e ∷ bs) (a ∷ axes) k p d h c =
    let rest = pair_parameters bs axes (suc k) p d h.1 c in
    (suc rest.0, omega (arith, rest.1), omega (arith, rest.2), omega (arith, rest.3), rest.4)
pair_parameters (Pair e ∷ bs) [] k p d h c = absurd h
pair_parameters (Pair e ∷ bs) (a ∷ []) k p d h c = absurd h
pair_parameters (Pair e ∷ bs) (a ∷ b ∷ axes) k p d h (zero, l, q) = (0, omega (arith, sym (ap (λ (r : ℕ × ℕ). r.0) q)), omega (arith, sym (ap (λ (r : ℕ × ℕ). r.1) q)), omega arith, h.2)
pair_parameters (Pair e ∷ bs) (a ∷ b ∷ axes) k p d h (suc i, l, q) =
    let rest = pair_parameters bs axes (suc (suc k)) p d h.3 (i, omega (arith, l), q) in
    (suc (suc rest.0), omega (arith, rest.1), omega (arith, rest.2), omega (arith, rest.3), rest.4)

-- ---- along the elements
module _ (degree : ℕ → ℕ) where
  one_matches : (n : ℕ) (bs : List Block) (axes : List Axis) → Match bs axes → (b : Bool) → Match ((if b then One (degree (2 * n)) ∷ [] else []) ++ bs) (if b then axis (2 * n) (degree (2 * n)) ∷ axes else axes)
  one_matches n bs axes h true = (refl, h)
  one_matches n bs axes h false = h

  -- the second test is the first, since the degree in both parameters is the same
  pair_matches : (n : ℕ) (bs : List Block) (axes : List Axis) → degree (2 * n) ≡ degree (2 * n + 1) → Match bs axes → (b c : Bool) → b ≡ c
      → Match ((if b then Pair (degree (2 * n)) ∷ [] else []) ++ bs) (if b then axis (2 * n) (degree (2 * n)) ∷ (if c then axis (2 * n + 1) (degree (2 * n + 1)) ∷ axes else axes) else (if c then axis (2 * n + 1) (degree (2 * n + 1)) ∷ axes else axes))
  pair_matches n bs axes same h true true e = (refl, sym same, (n, refl, refl), h)
  pair_matches n bs axes same h true false e = absurd cc
  pair_matches n bs axes same h false true e = absurd cc
  pair_matches n bs axes same h false false e = h

  own_match : (n : ℕ) (d : Def) (bs : List Block) (ps : List ℕ) → (d ≡ Free → degree (2 * n) ≡ degree (2 * n + 1)) → Match bs (axes_among degree ps) → Match (own_blocks degree n d ++ bs) (axes_among degree (own_parameters n d ++ ps))
  own_match n Free bs ps same h = pair_matches n bs (axes_among degree ps) (same refl) h (nat_lt 0 (degree (2 * n))) (nat_lt 0 (degree (2 * n + 1))) (ap (λ d. nat_lt 0 d) (same refl))
  own_match n (Fixed a b c) bs ps same h = h
  own_match n (Cut k) bs ps same h = one_matches n bs (axes_among degree ps) h (nat_lt 0 (degree (2 * n)))
  own_match n (Blend k m) bs ps same h = one_matches n bs (axes_among degree ps) h (nat_lt 0 (degree (2 * n)))
  own_match n (Cross k m) bs ps same h = h

  pub blocks_match : (es : List Element) → All (λ (e : Element). e.def ≡ Free → degree (2 * e.number) ≡ degree (2 * e.number + 1)) es → Match (blocks_among degree es) (axes_among degree (parameters_of es))
  blocks_match [] h = tt
  blocks_match (e ∷ es) h = own_match e.number e.def (blocks_among degree es) (parameters_of es) (h 0 e (omega arith)) (blocks_match es (λ k d l. h (suc k) d (omega arith)))
