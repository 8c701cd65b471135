-- The order of a plan is one of construction, so one step after another makes the triples of its elements.
use Rattle.std.proofs.Common.{◌≡◌, ◌∙◌, sym, ap, subst, true, inl, inr, ℕ, ◌+◌, ◌<◌, ◌≤◌, Bool, Some, List, [], length, get_or, map, ℤ, pos, unsigned_abs, le_trans, arith}
use Rattle.std.specs.Prelude.{All}
use Rattle.std.proofs.lemmas.Bool.{cases_lt}
use Rattle.std.proofs.lemmas.List.{get_or-map, length-map}
use Rattle.geo_triple.specs.declared.Triple.{Triple}
use Rattle.geo_triple.specs.Sums.{largest_of, sizes_of}
use Rattle.geo_triple.specs.Triple.{zero_triple}
use Rattle.geo_triple.proofs.Sums.{largest-grows}
use Rattle.geo_sketch.specs.declared.elements.Def.TheVariants.{Free}
use Rattle.geo_sketch.specs.declared.elements.Element.{Element}
use Rattle.geo_sketch.specs.declared.elements.Kind.TheVariants.{Point}
use Rattle.geo_sketch.specs.Constructions.{AtNamed, IsConstruction}
use Rattle.geo_sketch.specs.Dependence.{depends_on}
use Rattle.geo_sketch.specs.Heights.{height_of}
use Rattle.geo_sketch.specs.Lookups.{numbered, IsLive}
use Rattle.geo_sketch.specs.Needs.{is_needed}
use Rattle.geo_sketch.specs.Sketches.{IsDrawn}
use Rattle.geo_sketch.specs.Tables.{place}
use Rattle.geo_sketch.specs.Triples.{triple_algebra}
use Rattle.geo_sketch.proofs.ConstructionLaws.{at_named, both_named}
use Rattle.geo_sketch.proofs.LiveElements.{live_step}
use Rattle.geo_sketch.proofs.NeedLaws.{depends_on_named, needed_further}
use Rattle.geo_sketch.proofs.NumberLaws.{number_found}
use Rattle.geo_sketch.proofs.SketchLaws.{constructed}
use Rattle.geo_height.specs.Bounds.{IsWithin}
use Rattle.geo_height.proofs.HeightLaws.{fits, height_along, sums_below}
use Rattle.geo_degree.specs.Grids.{at_axes}
use Rattle.geo_grid.specs.declared.posing.order.Ranked.{Ranked}
use Rattle.geo_grid.specs.declared.posing.node.Node.{Node}
use Rattle.geo_grid.specs.Codes.{node_of, IsPlan}
use Rattle.geo_grid.specs.Nodes.{node_size, node_triple, triple_there, IsInside}
use Rattle.geo_grid.specs.Orders.{all_ranked, level_of, order_of, ranked, start_of}
use Rattle.geo_grid.specs.Plans.{Planned, moved_count}
use Rattle.geo_grid.specs.Works.{AreLow, planned_triple, triples_of}
use Rattle.geo_grid.proofs.Levels.{level_grows, level_within}
use Rattle.geo_grid.proofs.NamedLaws.{named_needed, needed_by}
use Rattle.geo_grid.proofs.OrderLaws.{below_before, below_front, below_from, below_has, number_there, In, RankRises}
use Rattle.geo_grid.proofs.RankLaws.{kept_found, kept_in, kept_level, kept_rises, order_count, start_past}
use Rattle.geo_grid.proofs.StepLaws.{node_inside, node_made, node_small, sizes_there}

-- an element, for places that no list has
pub no_element : Element
no_element = record { number = 0; name = []; kind = Point; def = Free }

module _ (p : Planned) (drawn : IsDrawn p.drawing) where
  abbrev es : List Element
  es = p.drawing.elements

  abbrev order : List Element
  order = order_of p

  abbrev ranks : List Ranked
  ranks = all_ranked p.drawing.elements p.named p.axes

  abbrev needed : Element → Bool
  needed e = is_needed p.drawing.elements p.named e.number

  built : IsConstruction es
  built = constructed p.drawing drawn

  rises : RankRises 0 ranks
  rises = kept_rises es p.axes needed 0 es drawn.rising

  levels : (r : Ranked) → In r ranks → r.level ≡ level_of es p.axes r.element.number
  levels = kept_level es p.axes needed es

  -- ---- the order
  -- what stands in it is live and needed
  pub order_found : (i : ℕ) (d : Element) → i < length order → (numbered es (get_or order i d).number ≡ Some (get_or order i d)) × (is_needed es p.named (get_or order i d).number ≡ true)
  order_found i d within =
      let from = below_from ranks (level_of es p.axes) levels rises (length p.axes + 1) i d within in
      let found = kept_found es p.axes needed 0 es from.0 drawn.rising from.1 in
      subst (λ (e : Element). (numbered es e.number ≡ Some e) × (is_needed es p.named e.number ≡ true)) (sym from.2) found

  entry_in : (n : ℕ) (e : Element) → numbered es n ≡ Some e → is_needed es p.named n ≡ true → In (ranked es p.axes e) ranks
  entry_in n e found t = kept_in es p.axes needed es n e found (ap (is_needed es p.named) (number_found es n e found) ∙ t)

  -- what is live and needed stands in it
  pub order_has : (n : ℕ) → IsLive es n → is_needed es p.named n ≡ true → place order n < length order
  order_has n live t =
      subst (λ (k : ℕ). place order k < length order) (number_found es n live.0 live.1)
      (below_has ranks (level_of es p.axes) levels rises (length p.axes + 1) (ranked es p.axes live.0) (entry_in n live.0 live.1 t) (omega (arith, level_within es built p.axes live.0.number)))

  -- so do the named elements
  pub order_has_named : All (IsLive es) p.named → (i d : ℕ) → i < length p.named → place order (get_or p.named i d) < length order
  order_has_named live i d within = order_has (get_or p.named i d) (live i d within) (named_needed es built p.named i d within)

  order_before : (i : ℕ) (d : Element) (n : ℕ) → i < length order → IsLive es n → is_needed es p.named n ≡ true → level_of es p.axes n ≤ level_of es p.axes (get_or order i d).number → n < (get_or order i d).number → place order n < i
  order_before i d n within live t low less =
      let same = number_found es n live.0 live.1 in
      subst (λ (k : ℕ). place order k < i) same
      (below_before ranks (level_of es p.axes) levels rises (length p.axes + 1) i d (ranked es p.axes live.0) (entry_in n live.0 live.1 t) within (rw same low) (rw same less))

  -- what an element names stands before it
  pub order_named : (i : ℕ) (d : Element) → i < length order → AtNamed (get_or order i d).def (λ k. (place order k < i) × IsLive es k)
  order_named i d within =
      let e = get_or order i d in
      let found = order_found i d within in
      both_named (λ k. (k < e.number) × IsLive es k) (λ k. (depends_on es e.number k ≡ true) × (level_of es p.axes k ≤ level_of es p.axes e.number)) (λ k. (place order k < i) × IsLive es k) e.def
      (λ k below h. (order_before i d k within below.1 (needed_further es built p.named e.number k found.1 h.0) h.1 below.0, below.1))
      (built.named e.number e found.0)
      (both_named (λ k. depends_on es e.number k ≡ true) (λ k. level_of es p.axes k ≤ level_of es p.axes e.number) (λ k. (depends_on es e.number k ≡ true) × (level_of es p.axes k ≤ level_of es p.axes e.number)) e.def (λ k t l. (t, l)) (depends_on_named es built e.number e found.0) (level_grows es built p.axes e.number e found.0))

  -- what stands before the start for an axis is moved neither by it nor by later ones
  pub early_level : (first i : ℕ) (d : Element) → i < start_of es p.named p.axes first → (i < length order) × (level_of es p.axes (get_or order i d).number ≤ first)
  early_level first i d early =
      elim (cases_lt (length p.axes) first) [
        | inl past ↦ (let within : i < length (order_of p) = omega (arith, early, start_past es built p.named p.axes first (omega arith)) in
            (within, omega (arith, level_within es built p.axes (get_or order i d).number, past)))
        | inr low ↦ (let front = below_front ranks (level_of es p.axes) levels rises (first + 1) (length p.axes + 1) i d (omega arith) early in
            let from = below_from ranks (level_of es p.axes) levels rises (first + 1) i d early in
            (front.0, omega (arith, from.3, ap (λ (e : Element). level_of es p.axes e.number) front.1)))
      ]

  -- ---- no element that is needed is higher than the named ones
  pub needed_low : (limit : ℕ) (ms : List ℕ) → AreLow limit p ms → (n : ℕ) → is_needed es p.named n ≡ true → height_of es n (at_axes 0 p.axes ms) ≤ limit
  needed_low limit ms low n t =
      let by = needed_by es p.named n 0 t in
      le_trans (height_along es built (at_axes 0 p.axes ms) (get_or p.named by.0 0) n by.2) (low by.0 0 by.1)

  -- ---- the values
  module _ (xs : List ℤ) (count : length xs ≡ length p.axes) where
    abbrev v : ℕ → ℤ
    v q = at_axes (pos 0) p.axes xs q

    abbrev m : ℕ → ℕ
    m q = at_axes 0 p.axes (map unsigned_abs xs) q

    pub triple_in_order : (i : ℕ) (d : Element) → i < length order → triple_there (triples_of p xs) i ≡ planned_triple p xs (get_or order i d).number
    triple_in_order i d within = get_or-map (λ (e : Element). planned_triple p xs e.number) order i d zero_triple within

    pub triple_in_place : (k : ℕ) (d : Element) → place order k < length order → triple_there (triples_of p xs) (place order k) ≡ planned_triple p xs k
    triple_in_place k d within = triple_in_order (place order k) d within ∙ ap (planned_triple p xs) (number_there order k d within)

    pub values_within : IsWithin v m
    values_within q = omega (arith, sizes_there p.axes xs q)

    pub size_within : (k : ℕ) → largest_of (sizes_of (planned_triple p xs k)) ≤ height_of es k m
    size_within k = largest-grows _ _ (fits es built v m values_within k)

    -- ---- one step, where those before it are done
    module _ (ts : List Triple) (i : ℕ) (d : Element) (within : i < length order) (before : (j : ℕ) → j < i → triple_there ts j ≡ triple_there (triples_of p xs) j) where
      abbrev e : Element
      e = get_or (order_of p) i d

      named_there : AtNamed e.def (λ k. triple_there ts (place order k) ≡ planned_triple p xs k)
      named_there = at_named (λ k. (place order k < i) × IsLive es k) _ e.def (λ k h. before (place order k) h.0 ∙ triple_in_place k d (omega (arith, h.0, within))) (order_named i d within)

      pub step_made : node_triple (node_of p.axes order e) ts xs ≡ triple_there (triples_of p xs) i
      step_made =
          node_made p.axes order ts xs count e.number (planned_triple p xs) e.def named_there
          ∙ sym (live_step es built (triple_algebra v) e.number e (order_found i d within).0)
          ∙ sym (triple_in_order i d within)

      pub step_small : (limit : ℕ) → AreLow limit p (map unsigned_abs xs) → node_size (node_of p.axes order e) ts xs ≤ limit
      step_small limit low =
          let found = order_found i d within in
          let named = at_named (λ k. depends_on es e.number k ≡ true) (λ k. largest_of (sizes_of (planned_triple p xs k)) ≤ limit) e.def
          (λ k t. le_trans (size_within k) (needed_low limit (map unsigned_abs xs) low k (needed_further es built p.named e.number k found.1 t))) (depends_on_named es built e.number e found.0) in
          let sums = le_trans (largest-grows _ _ (sums_below es built v m values_within e.number e found.0)) (needed_low limit (map unsigned_abs xs) low e.number found.1) in
          node_small p.axes order ts xs count e.number (planned_triple p xs) e.def limit named_there named sums

      pub step_inside : i ≤ length ts → IsInside (node_of p.axes order e) (length ts)
      step_inside room = node_inside p.axes order ts xs count e.number (planned_triple p xs) e.def i room (at_named (λ k. (place order k < i) × IsLive es k) _ e.def (λ k h. h.0) (order_named i d within))

-- ---- what a plan keeps, by the value that contracts see
module _ {order : List Element} {nodes : List Node} {starts : List ℕ} {short : Bool} where
  pub seen_plan : {p q : Planned} → p ≡ q → IsPlan p order nodes starts short → IsPlan q order nodes starts short
  seen_plan same plan = subst (λ (r : Planned). IsPlan r order nodes starts short) same plan

  pub node_count : {p : Planned} → IsPlan p order nodes starts short → length nodes ≡ length (order_of p)
  node_count {p} plan = ap length plan.nodes_are ∙ length-map (order_of p) (node_of p.axes (order_of p))

  -- the elements before the start for an axis, and those that it or a later one moves, are all
  pub counted_from : {p : Planned} → IsPlan p order nodes starts short → (first : ℕ) → length nodes ≡ start_of p.drawing.elements p.named p.axes first + moved_count p first
  counted_from {p} plan first = node_count plan ∙ order_count p.drawing.elements (constructed p.drawing plan.drawn) p.named p.axes first

  pub ends_at : {p : Planned} → IsPlan p order nodes starts short → (first : ℕ) → length p.axes ≤ first → length nodes ≡ start_of p.drawing.elements p.named p.axes first
  ends_at {p} plan first past = node_count plan ∙ start_past p.drawing.elements (constructed p.drawing plan.drawn) p.named p.axes first past
