-- Placed terms ask of a work what the expression asks at the values for which it stands.
use Rattle.std.proofs.Common.{◌≡◌, ◌∙◌, sym, ap, ap₂, subst, ℕ, suc, ◌+◌, ◌*◌, ◌<◌, ◌≤◌, max, List, [], ◌∷◌, length, get_or, map, refl, ℤ, pos, ◌+ℤ◌, ◌*ℤ◌, unsigned_abs, le_refl, le_trans, mul-le-mul, arith}
use Rattle.std.specs.List.{AllZip}
use Rattle.std.specs.Prelude.{All}
use Rattle.std.proofs.Math.Nat.{max-le}
use Rattle.std.proofs.lemmas.List.Elements.{All-cons, All-nil}
use Rattle.geo_triple.specs.declared.Triple.{Triple}
use Rattle.geo_triple.specs.Triple.{determinant_of}
use Rattle.geo_triple.specs.Sums.{largest_of, sizes_of}
use Rattle.geo_triple.proofs.Sums.{largest-grows}
use Rattle.geo_sketch.specs.declared.elements.Element.{Element}
use Rattle.geo_sketch.specs.Heights.{height_of}
use Rattle.geo_sketch.specs.Lookups.{IsLive}
use Rattle.geo_sketch.specs.Sketches.{IsDrawn}
use Rattle.geo_sketch.proofs.SketchLaws.{constructed}
use Rattle.geo_height.specs.Bounds.{IsWithin}
use Rattle.geo_height.proofs.HeightLaws.{fits, named_in_statement, statement_sum_below}
use Rattle.geo_degree.specs.declared.grids.Axis.{Axis}
use Rattle.geo_degree.specs.Grids.{at_axes}
use Rattle.geo_grid.specs.declared.search.form.Scratch.{Scratch}
use Rattle.geo_grid.specs.Nodes.{triple_there}
use Rattle.geo_grid.specs.Plans.{Planned}
use Rattle.geo_grid.specs.Works.{AreLow, StandsFor, planned_triple}
use Rattle.geo_bracket.specs.declared.expressions.Bracket.{Bracket}
use Rattle.geo_bracket.specs.Expressions.{Terms, bracket_height, bracket_value, expression_height, expression_value, statement_of}
use Rattle.geo_bracket.specs.Posing.{AsksOf, IsPlacedBracket, IsPlacedTerm, bracket_size, bracket_there, named_in, planned_expression}
use Rattle.geo_bracket.specs.Questions.{expression_axes, expression_height_at}
use Rattle.geo_bracket.specs.Terms.{Product, AtBracket, AtEach, AtProduct, height_of_product, height_of_sum, height_of_term, product_of, sum_of}
use Rattle.geo_bracket.proofs.GridLaws.{sizes_at}
use Rattle.geo_bracket.proofs.HeightLaws.{bracket_positive, elements_low}
use Rattle.geo_bracket.proofs.NamedLaws.{each_weaker, to_named}

module _ (p : Planned) (drawn : IsDrawn p.drawing) (work : Scratch) (xs : List ℤ) (stands : StandsFor p work xs) where
  abbrev es : List Element
  es = p.drawing.elements

  abbrev triples : List Triple
  triples = work.triples.items

  abbrev v : ℕ → ℤ
  v q = at_axes (pos 0) p.axes xs q

  abbrev m : ℕ → ℕ
  m q = at_axes 0 p.axes (map unsigned_abs xs) q

  values_within : IsWithin v m
  values_within q = omega (arith, sizes_at p.axes xs q)

  size_within : (n : ℕ) → largest_of (sizes_of (planned_triple p xs n)) ≤ height_of es n m
  size_within n = largest-grows _ _ (fits es (constructed p.drawing drawn) v m values_within n)

  -- ---- a bracket
  bracket_inside : (b c : Bracket ℕ) → IsPlacedBracket p b c → AtBracket (λ n. n < length triples) c
  bracket_inside b c at = ((at.0 work xs stands).0, (at.1 work xs stands).0, (at.2 work xs stands).0)

  bracket_same : (b c : Bracket ℕ) → IsPlacedBracket p b c → bracket_there triples c ≡ bracket_value es v b
  bracket_same b c at = λ i. determinant_of ((at.0 work xs stands).1 i) ((at.1 work xs stands).1 i) ((at.2 work xs stands).1 i)

  bracket_low : (b c : Bracket ℕ) → AtBracket (IsLive es) b → IsPlacedBracket p b c → bracket_size triples c ≤ bracket_height es m b
  bracket_low b c live at =
      let built = constructed p.drawing drawn in
      let named = named_in_statement es built m (statement_of b) live in
      let sum = statement_sum_below es built v m values_within (statement_of b) live in
      let one = bracket_positive es built m b live in
      rw ((at.0 work xs stands).1, (at.1 work xs stands).1, (at.2 work xs stands).1)
      (max-le (max-le one (max-le (le_trans (size_within b.first) named.0) (max-le (le_trans (size_within b.second) named.1) (le_trans (size_within b.third) named.2)))) sum)

  -- ---- the brackets of a term
  product_inside : (bs cs : List (Bracket ℕ)) → AllZip (IsPlacedBracket p) bs cs → AtProduct (λ n. n < length triples) cs
  product_inside [] [] at = All-nil (AtBracket (λ n. n < length triples))
  product_inside [] (c ∷ cs) at = absurd at
  product_inside (b ∷ bs) [] at = absurd at
  product_inside (b ∷ bs) (c ∷ cs) at = All-cons (AtBracket (λ n. n < length triples)) c cs (bracket_inside b c at.0) (product_inside bs cs at.1)

  product_same : (bs cs : List (Bracket ℕ)) → AllZip (IsPlacedBracket p) bs cs → product_of (bracket_there triples) cs ≡ product_of (bracket_value es v) bs
  product_same [] [] at = refl
  product_same [] (c ∷ cs) at = absurd at
  product_same (b ∷ bs) [] at = absurd at
  product_same (b ∷ bs) (c ∷ cs) at = ap₂ (λ x y. x *ℤ y) (bracket_same b c at.0) (product_same bs cs at.1)

  product_low : (bs cs : List (Bracket ℕ)) → AtProduct (IsLive es) bs → AllZip (IsPlacedBracket p) bs cs → height_of_product (bracket_size triples) cs ≤ height_of_product (bracket_height es m) bs
  product_low [] [] live at = omega arith
  product_low [] (c ∷ cs) live at = absurd at
  product_low (b ∷ bs) [] live at = absurd at
  product_low (b ∷ bs) (c ∷ cs) live at = mul-le-mul (bracket_low b c (live 0 b (omega arith)) at.0) (product_low bs cs (λ k d l. live (suc k) d (omega arith)) at.1)

  -- ---- all terms
  terms_inside : (ts us : Terms) → AllZip (IsPlacedTerm p) ts us → AtEach (λ n. n < length triples) us
  terms_inside [] [] at = All-nil (λ (t : Product (Bracket ℕ)). AtProduct (λ n. n < length triples) t.brackets)
  terms_inside [] (u ∷ us) at = absurd at
  terms_inside (t ∷ ts) [] at = absurd at
  terms_inside (t ∷ ts) (u ∷ us) at = All-cons (λ (t : Product (Bracket ℕ)). AtProduct (λ n. n < length triples) t.brackets) u us (product_inside t.brackets u.brackets at.0.1) (terms_inside ts us at.1)

  terms_same : (ts us : Terms) → AllZip (IsPlacedTerm p) ts us → sum_of (bracket_there triples) us ≡ expression_value es ts v
  terms_same [] [] at = refl
  terms_same [] (u ∷ us) at = absurd at
  terms_same (t ∷ ts) [] at = absurd at
  terms_same (t ∷ ts) (u ∷ us) at =
      let number = at.0.0 in
      let product = product_same t.brackets u.brackets at.0.1 in
      let rest = terms_same ts us at.1 in
      λ i. number i *ℤ product i +ℤ rest i

  terms_low : (ts us : Terms) → AtEach (IsLive es) ts → AllZip (IsPlacedTerm p) ts us → height_of_sum (bracket_size triples) us ≤ expression_height es ts m
  terms_low [] [] live at = omega arith
  terms_low [] (u ∷ us) live at = absurd at
  terms_low (t ∷ ts) [] live at = absurd at
  terms_low (t ∷ ts) (u ∷ us) live at =
      let number : max 1 (unsigned_abs u.number) ≤ max 1 (unsigned_abs t.number) = omega (arith, ap unsigned_abs at.0.0) in
      omega (arith, mul-le-mul number (product_low t.brackets u.brackets (live 0 t (omega arith)) at.0.1), terms_low ts us (λ k d l. live (suc k) d (omega arith)) at.1)

-- ---- over the plan for an expression
module _ (p : Planned) (ts : Terms) (drawn : IsDrawn p.drawing) (live : AtEach (IsLive p.drawing.elements) ts) (same : p ≡ planned_expression p.drawing ts) where
  axes_are : p.axes ≡ expression_axes p.drawing.elements ts
  axes_are = ap (λ (q : Planned). q.axes) same

  pub expression_low : (limit : ℕ) (ms : List ℕ) → expression_height_at p.drawing.elements ts ms ≤ limit → AreLow limit p ms
  expression_low limit ms low =
      let es = p.drawing.elements in
      let m = at_axes 0 (expression_axes es ts) ms in
      rw same (to_named (λ n. height_of es n m ≤ limit) ts (each_weaker (λ n. height_of es n m ≤ expression_height es ts m) (λ n. height_of es n m ≤ limit) ts (λ n h. le_trans h low) (elements_low es (constructed p.drawing drawn) m ts live)))

  pub expression_asks : (placed : Terms) → AllZip (IsPlacedTerm p) ts placed → (work : Scratch) (xs : List ℤ) → StandsFor p work xs → AsksOf p.drawing.elements ts placed work.triples.items xs
  expression_asks placed at work xs stands =
      let es = p.drawing.elements in
      record {
        inside = terms_inside p drawn work xs stands ts placed at;
        low = le_trans (terms_low p drawn work xs stands ts placed live at) (omega (arith, ap (λ (axes : List Axis). expression_height es ts (at_axes 0 axes (map unsigned_abs xs))) axes_are));
        value = terms_same p drawn work xs stands ts placed at ∙ ap (λ (axes : List Axis). expression_value es ts (at_axes (pos 0) axes xs)) axes_are;
      }
