-- Before the start for an axis stand the triples that it and later axes do not move.
use Rattle.std.proofs.Common.{◌≡◌, ◌∙◌, sym, ap, subst, refl, true, false, inl, inr, ℕ, suc, ◌+◌, ◌*◌, ◌<◌, ◌≤◌, ⊎_elim, Bool, eqb, List, [], ◌∷◌, length, get_or, ℤ, pos, of_z, arith}
use Rattle.std.specs.Int.{w128}
use Rattle.std.specs.Prelude.{◌==◌, ◌⊎◌}
use Rattle.std.proofs.lemmas.Bool.{cases_lt, cond_both, eqb-true}
use Rattle.std.proofs.lemmas.List.{get_or_past, length-map}
use Rattle.geo_triple.specs.declared.Triple.{Triple}
use Rattle.geo_sketch.specs.declared.elements.Element.{Element}
use Rattle.geo_sketch.specs.Assignments.{element_of_parameter}
use Rattle.geo_sketch.specs.Dependence.{depends_on}
use Rattle.geo_sketch.specs.Sketches.{IsDrawn}
use Rattle.geo_sketch.specs.Constructions.{IsConstruction}
use Rattle.geo_sketch.specs.Triples.{triple_algebra}
use Rattle.geo_sketch.proofs.TableLaws.{built}
use Rattle.geo_sketch.proofs.ValueLaws.{computed_same, triples_agree}
use Rattle.geo_degree.specs.declared.grids.Axis.{Axis}
use Rattle.geo_degree.specs.Grids.{at_axes, axis}
use Rattle.geo_sketch.proofs.SketchLaws.{constructed}
use Rattle.geo_grid.specs.declared.search.form.Scratch.{Scratch}
use Rattle.geo_grid.specs.Codes.{axis_place}
use Rattle.geo_grid.specs.Nodes.{axis_value, triple_there}
use Rattle.geo_grid.specs.Orders.{level_of, order_of, start_of}
use Rattle.geo_grid.specs.Plans.{Planned, moved_count}
use Rattle.geo_grid.specs.Values.{AgreeBefore}
use Rattle.geo_grid.specs.Works.{planned_triple, triples_of, IsFresh, IsOnGridFrom, StandsFor}
use Rattle.geo_grid.proofs.Levels.{axis_below}
use Rattle.geo_grid.proofs.LaneLaws.{on_grid_all}
use Rattle.geo_grid.proofs.PlanLaws.{early_level, no_element, triple_in_order}
use Rattle.geo_grid.proofs.RankLaws.{order_count}
use Rattle.geo_grid.proofs.StepLaws.{value_there}

axis_there : (axes : List Axis) (p : ℕ) (a : Axis) → axis_place axes p < length axes → (get_or axes (axis_place axes p) a).param ≡ p
axis_there [] p a within = absurd (omega arith)
axis_there (x ∷ axes) p a within =
    cond_both (x.param == p) 0 (suc (axis_place axes p)) (λ (k : ℕ). k < suc (length axes) → (get_or (x ∷ axes) k a).param ≡ p)
    (λ t h. eqb-true x.param p t)
    (λ t h. axis_there axes p a (omega arith))
    within

module _ (p : Planned) (drawn : IsDrawn p.drawing) (xs ys : List ℤ) (first : ℕ) where
  abbrev es : List Element
  es = p.drawing.elements

  abbrev v : ℕ → ℤ
  v q = at_axes (pos 0) p.axes xs q

  abbrev w : ℕ → ℤ
  w q = at_axes (pos 0) p.axes ys q

  built_up : IsConstruction es
  built_up = constructed p.drawing drawn

  module _ (count : length xs ≡ length p.axes) (count' : length ys ≡ length p.axes) (agree : AgreeBefore first xs ys) where
    same_value : (q : ℕ) → (first ≤ axis_place p.axes q → axis_place p.axes q < length p.axes → ⊥) → v q ≡ w q
    same_value q early = sym (value_there p.axes xs q count) ∙ by_order (cases_lt (axis_place p.axes q) first) ∙ value_there p.axes ys q count'
      where
        by_order : (axis_place p.axes q < first) ⊎ (first ≤ axis_place p.axes q) → axis_value xs (axis_place p.axes q) ≡ axis_value ys (axis_place p.axes q)
        by_order (inl l) = agree (axis_place p.axes q) l
        by_order (inr g) = by_end (cases_lt (axis_place p.axes q) (length p.axes))
          where
            by_end : (axis_place p.axes q < length p.axes) ⊎ (length p.axes ≤ axis_place p.axes q) → axis_value xs (axis_place p.axes q) ≡ axis_value ys (axis_place p.axes q)
            by_end (inl l) = absurd (early g l)
            by_end (inr e) = get_or_past xs (axis_place p.axes q) (pos 0) (omega (arith, e, count)) ∙ sym (get_or_past ys (axis_place p.axes q) (pos 0) (omega (arith, e, count')))

    -- the parameters of what an element depends on
    same_parameter : (n on q : ℕ) → level_of es p.axes n ≤ first → depends_on es n on ≡ true → element_of_parameter q ≡ on → v q ≡ w q
    same_parameter n on q low depends half =
        same_value q
        (λ late within.
        let own : element_of_parameter (get_or p.axes (axis_place p.axes q) (axis 0 0)).param ≡ on = ap element_of_parameter (axis_there p.axes q (axis 0 0) within) ∙ half in
        let below = axis_below es built_up p.axes (axis_place p.axes q) (axis 0 0) within n (ap (λ r. depends_on es n r) own ∙ depends) in
        absurd (omega (arith, below, low, late)))

    same_triple : (n : ℕ) → level_of es p.axes n ≤ first → planned_triple p xs n ≡ planned_triple p ys n
    same_triple n low =
        let made = built es built_up in
        computed_same es drawn.rising made (triple_algebra v) (triple_algebra w) es drawn.rising made n
        (λ on depends. (refl, triples_agree v w on (same_parameter n on (2 * on) low depends (omega arith)) (same_parameter n on (2 * on + 1) low depends (omega arith))))

    -- so the triples before the start stay
    pub start_stays : (i : ℕ) → i < start_of es p.named p.axes first → triple_there (triples_of p xs) i ≡ triple_there (triples_of p ys) i
    start_stays i early =
        let within = (early_level p drawn first i no_element early).0 in
        let low = (early_level p drawn first i no_element early).1 in
        triple_in_order p drawn xs count i no_element within ∙ same_triple (get_or (order_of p) i no_element).number low ∙ sym (triple_in_order p drawn ys count' i no_element within)

pub counted_order : (p : Planned) → IsDrawn p.drawing → (first : ℕ) → length (order_of p) ≡ start_of p.drawing.elements p.named p.axes first + moved_count p first
counted_order p drawn first = order_count p.drawing.elements (constructed p.drawing drawn) p.named p.axes first

-- ---- from which place on a work is evaluated
abbrev pub Begins : Planned → Scratch → List ℤ → ℕ → Type 0
Begins p work ys first = IsFresh p work ⊎ ((xs : List ℤ) × StandsFor p work xs × AgreeBefore first xs ys)

module _ (p : Planned) (work : Scratch) (ys : List ℤ) (first : ℕ) where
  -- the number of a work, and what it says
  pub one_number : Begins p work ys first → length work.numbers.items ≡ 1
  one_number (inl fresh) = ap (λ ns. length ns) fresh.marked
  one_number (inr (xs, stands, agree)) = by_mark stands.marked
    where
      by_mark : (work.numbers.items ≡ pos 1 ∷ []) ⊎ ((work.numbers.items ≡ pos 2 ∷ []) × IsOnGridFrom 0 p.axes xs) → length work.numbers.items ≡ 1
      by_mark (inl used) = ap (λ ns. length ns) used
      by_mark (inr short) = ap (λ ns. length ns) short.0

  pub one_triple_each : Begins p work ys first → length work.triples.items ≡ length (order_of p)
  one_triple_each (inl fresh) = fresh.room
  one_triple_each (inr (xs, stands, agree)) = ap (λ ts. length ts) stands.triples_are ∙ length-map (order_of p) (λ (e : Element). planned_triple p xs e.number)

  -- a work keeps the room of what it holds
  pub new_mark : Begins p work ys first → (ns : List ℤ) (mark : ℤ) → ns ≡ mark ∷ [] → length ns ≡ work.numbers.len
  new_mark begins ns mark same = ap (λ (ms : List ℤ). length ms) same ∙ sym (one_number begins) ∙ sym work.numbers.ok.0

  pub new_room : Begins p work ys first → (ts : List Triple) → ts ≡ triples_of p ys → length ts ≡ work.triples.len
  new_room begins ts same = ap (λ (us : List Triple). length us) same ∙ length-map (order_of p) (λ (e : Element). planned_triple p ys e.number) ∙ sym (one_triple_each begins) ∙ sym work.triples.ok.0

  module _ (begins : Begins p work ys first) (x : ℤ) (here : x ≡ get_or work.numbers.items 0 x) where
    abbrev is_marked : ℕ → Bool
    is_marked mark = eqb (of_z w128 x) mark

    marked : (mark : ℤ) (k : ℕ) → work.numbers.items ≡ mark ∷ [] → is_marked k ≡ eqb (of_z w128 mark) k
    marked mark k same = ap (λ z. eqb (of_z w128 z) k) (here ∙ ap (λ ns. get_or ns 0 x) same)

    -- either it is fresh, or it stands for values
    kind : ((is_marked 0 ≡ true) × IsFresh p work) ⊎ ((is_marked 0 ≡ false) × ((xs : List ℤ) × StandsFor p work xs × AgreeBefore first xs ys))
    kind = by_kind begins
      where
        by_kind : Begins p work ys first → ((is_marked 0 ≡ true) × IsFresh p work) ⊎ ((is_marked 0 ≡ false) × ((xs : List ℤ) × StandsFor p work xs × AgreeBefore first xs ys))
        by_kind (inl fresh) = inl (marked (pos 0) 0 fresh.marked, fresh)
        by_kind (inr (xs, stands, agree)) = inr (⊎_elim (λ wide. marked (pos 1) 0 wide) (λ short. marked (pos 2) 0 short.0) stands.marked, (xs, stands, agree))

    module _ (start : ℕ) (fresh_start : is_marked 0 ≡ true → start ≡ 0) (used_start : is_marked 0 ≡ false → start ≡ start_of p.drawing.elements p.named p.axes first) where
      pub start_within : IsDrawn p.drawing → start ≤ length (order_of p)
      start_within drawn =
          elim kind [
            | inl k ↦ omega (arith, fresh_start k.0)
            | inr k ↦ omega (arith, used_start k.0, counted_order p drawn first)
          ]

      pub stands_before : IsDrawn p.drawing → length ys ≡ length p.axes → (i : ℕ) → i < start → triple_there work.triples.items i ≡ triple_there (triples_of p ys) i
      stands_before drawn count i early =
          elim kind [
            | inl k ↦ absurd (omega (arith, fresh_start k.0))
            | inr k ↦ ap (λ ts. triple_there ts i) k.1.1.triples_are ∙ start_stays p drawn k.1.0 ys first k.1.1.count count k.1.2 i (omega (arith, used_start k.0))
          ]

      pub start_counted : IsDrawn p.drawing → ¬ IsFresh p work → length (order_of p) ≡ start + moved_count p first
      start_counted drawn used =
          elim kind [
            | inl k ↦ absurd (used k.1)
            | inr k ↦ omega (arith, used_start k.0, counted_order p drawn first)
          ]

    -- where it is not marked as wide, the new values are on the grid where they are from the first axis on
    pub goes_on : (from : ℕ) → (is_marked 0 ≡ true → from ≡ 0) → (is_marked 0 ≡ false → from ≡ first) → is_marked 1 ≡ false → IsOnGridFrom from p.axes ys → IsOnGridFrom 0 p.axes ys
    goes_on from fresh_from used_from narrow grid =
        elim kind [
          | inl k ↦ subst (λ f. IsOnGridFrom f p.axes ys) (fresh_from k.0) grid
          | inr k ↦ ⊎_elim (λ wide. absurd (let apart : true ≡ false = sym (marked (pos 1) 1 wide) ∙ narrow in cc)) (λ short. on_grid_all p.axes k.1.0 ys first k.1.2 short.1 (subst (λ f. IsOnGridFrom f p.axes ys) (used_from k.0) grid)) k.1.1.marked
        ]

-- ---- what the mark says
module _ (p : Planned) (work : Scratch) (x : ℤ) (here : x ≡ get_or work.numbers.items 0 x) where
  short_marked : (mark : ℤ) → work.numbers.items ≡ mark ∷ [] → eqb (of_z w128 x) 2 ≡ eqb (of_z w128 mark) 2
  short_marked mark same = ap (λ z. eqb (of_z w128 z) 2) (here ∙ ap (λ ns. get_or ns 0 x) same)

  pub mark_on_grid : eqb (of_z w128 x) 2 ≡ true → (xs : List ℤ) → StandsFor p work xs → IsOnGridFrom 0 p.axes xs
  mark_on_grid t xs stands = ⊎_elim (λ wide. absurd (let apart : true ≡ false = sym t ∙ short_marked (pos 1) wide in cc)) (λ short. short.1) stands.marked
