-- The condition of a statement speaks of the triples of the elements that it names, and its parts are the statement's.
use Rattle.std.proofs.Common.{◌≡◌, ◌∙◌, ap, subst, ℕ, ◌<◌, ◌≤◌, Bool, List, [], ◌∷◌, length, get_or, map, ℤ, pos, unsigned_abs, le_trans, arith}
use Rattle.std.specs.Prelude.{All, Contains}
use Rattle.std.proofs.Math.Nat.{max-le}
use Rattle.std.proofs.lemmas.List.{length-map}
use Rattle.geo_triple.specs.declared.Triple.{Triple}
use Rattle.geo_triple.specs.Sums.{largest_of, sizes_of}
use Rattle.geo_triple.specs.Triple.{cross_of, determinant_of, dot_of}
use Rattle.geo_sketch.specs.declared.elements.Element.{Element}
use Rattle.geo_sketch.specs.declared.statements.Statement.{Statement}
use Rattle.geo_sketch.specs.declared.statements.Statement.TheVariants as statement
use Rattle.geo_sketch.specs.Heights.{height_of, statement_height}
use Rattle.geo_sketch.specs.Lookups.{IsLive}
use Rattle.geo_sketch.specs.Needs.{stated, AtStated}
use Rattle.geo_sketch.specs.Sketches.{Drawing, IsDrawn}
use Rattle.geo_sketch.specs.Statements.{parts_at}
use Rattle.geo_triple.specs.Zero.{coordinates}
use Rattle.geo_sketch.specs.Triples.{triple_at}
use Rattle.geo_sketch.proofs.SketchLaws.{constructed}
use Rattle.geo_sketch.proofs.StatementLaws.{at_stated}
use Rattle.geo_height.specs.Bounds.{statement_sum}
use Rattle.geo_height.proofs.HeightLaws.{named_in_statement, statement_sum_below}
use Rattle.geo_degree.specs.declared.grids.Axis.{Axis}
use Rattle.geo_degree.specs.Grids.{at_axes, axes_of}
use Rattle.geo_degree.specs.Verdicts.{statement_height_at}
use Rattle.geo_grid.specs.declared.posing.condition.Condition.{Condition}
use Rattle.geo_grid.specs.declared.posing.node.Node.{Node}
use Rattle.geo_grid.specs.declared.search.form.Scratch.{Scratch}
use Rattle.geo_grid.specs.Codes.{Asks, IsPlan, condition_by, condition_parts, condition_size, place_in, SpeaksOf}
use Rattle.geo_grid.specs.Nodes.{triple_there}
use Rattle.geo_grid.specs.Orders.{order_of}
use Rattle.geo_grid.specs.Plans.{Planned, planned_for}
use Rattle.geo_grid.specs.Works.{AreLow, HasPlace, planned_triple, StandsFor}
use Rattle.geo_grid.proofs.NamedLaws.{from_list, to_list}
use Rattle.geo_grid.proofs.PlanLaws.{no_element, order_has_named, size_within, triple_in_place, values_within}

-- ---- by cases
speaks : (at : ℕ → ℕ) (s : Statement) (count : ℕ) → AtStated s (λ n. at n < count) → SpeaksOf (condition_by at s) count
speaks at (statement.Null n) count h = h
speaks at (statement.Same n m) count h = (h.0, h.1)
speaks at (statement.On n m) count h = (h.0, h.1)
speaks at (statement.Triple n m k) count h = (h.0, h.1, h.2)

-- where f gives the triples at the places
module _ (at : ℕ → ℕ) (ts : List Triple) (f : ℕ → Triple) where
  parts_there : (es : List Element) (s : Statement) (v : ℕ → ℤ) → AtStated s (λ n. triple_there ts (at n) ≡ triple_at es n v) → condition_parts (condition_by at s) ts ≡ parts_at es s v
  parts_there es (statement.Null n) v h = ap coordinates h
  parts_there es (statement.Same n m) v h = λ i. coordinates (cross_of (h.0 i) (h.1 i))
  parts_there es (statement.On n m) v h = λ i. dot_of (h.0 i) (h.1 i) ∷ []
  parts_there es (statement.Triple n m k) v h = λ i. determinant_of (h.0 i) (h.1 i) (h.2 i) ∷ []

  size_by : (s : Statement) (limit : ℕ) → AtStated s (λ n. triple_there ts (at n) ≡ f n) → AtStated s (λ n. largest_of (sizes_of (f n)) ≤ limit) → statement_sum s f ≤ limit → condition_size (condition_by at s) ts ≤ limit
  size_by (statement.Null n) limit h named sum = omega arith
  size_by (statement.Same n m) limit h named sum = rw (h.0, h.1) (max-le (max-le named.0 named.1) sum)
  size_by (statement.On n m) limit h named sum = rw (h.0, h.1) (max-le (max-le named.0 named.1) sum)
  size_by (statement.Triple n m k) limit h named sum = rw (h.0, h.1, h.2) (max-le (max-le named.0 (max-le named.1 named.2)) sum)

-- ---- the places of the named elements
module _ (p : Planned) (drawn : IsDrawn p.drawing) (live : All (IsLive p.drawing.elements) p.named) (i d : ℕ) (within : i < length p.named) (work : Scratch) (xs : List ℤ) (stands : StandsFor p work xs) where
  abbrev n : ℕ
  n = get_or p.named i d

  place_within_work : place_in p n < length work.triples.items
  place_within_work = omega (arith, ap (λ ts. length ts) stands.triples_are, length-map (order_of p) (λ (e : Element). planned_triple p xs e.number), order_has_named p drawn live i d within)

  triple_of_place : triple_there work.triples.items (place_in p n) ≡ planned_triple p xs n
  triple_of_place = ap (λ ts. triple_there ts (place_in p n)) stands.triples_are ∙ triple_in_place p drawn xs stands.count n no_element (order_has_named p drawn live i d within)

pub place_found : {p : Planned} {order : List Element} {nodes : List Node} {starts : List ℕ} {short : Bool} → IsPlan p order nodes starts short → (n : ℕ) → Contains p.named n → HasPlace p n (place_in p n)
place_found {p} plan n (i, within, same) work xs stands =
    subst (λ (k : ℕ). (place_in p k < length work.triples.items) × (triple_there work.triples.items (place_in p k) ≡ planned_triple p xs k)) same
    (place_within_work p plan.drawn plan.live i n within work xs stands, triple_of_place p plan.drawn plan.live i n within work xs stands)

-- ---- what a statement asks of a work
pub planned_is : (drawing : Drawing) (s : Statement) (p : Planned) (named : List ℕ) (axes : List Axis) → p ≡ record { drawing = drawing; named = named; axes = axes } → named ≡ stated s → axes ≡ axes_of drawing.elements s → p ≡ planned_for drawing s
planned_is drawing s p named axes same names at = same ∙ (λ i. record { drawing = drawing; named = names i; axes = at i })

module _ (p : Planned) (s : Statement) (drawn : IsDrawn p.drawing) (live : All (IsLive p.drawing.elements) p.named) (same : p ≡ planned_for p.drawing s) where
  abbrev es : List Element
  es = p.drawing.elements

  axes_are : p.axes ≡ axes_of es s
  axes_are = ap (λ (q : Planned). q.axes) same

  pub each_stated : (P : ℕ → Type 0) → All P p.named → AtStated s P
  each_stated P h = from_list P s (subst (λ ns. All P ns) (ap (λ (q : Planned). q.named) same) h)

  -- no named element is higher than the statement
  named_low : (m : ℕ → ℕ) → AtStated s (λ n. height_of es n m ≤ statement_height es s m)
  named_low m = named_in_statement es (constructed p.drawing drawn) m s (each_stated (IsLive es) live)

  pub statement_low : (limit : ℕ) (ms : List ℕ) → statement_height_at es s ms ≤ limit → AreLow limit p ms
  statement_low limit ms low =
      let m = at_axes 0 (axes_of es s) ms in
      rw same (to_list (λ n. height_of es n m ≤ limit) s (at_stated (λ n. height_of es n m ≤ statement_height es s m) (λ n. height_of es n m ≤ limit) s (λ n h. le_trans h low) (named_low m)))

  pub statement_asks : (condition : Condition) → condition ≡ condition_by (place_in p) s → (work : Scratch) (xs : List ℤ) → StandsFor p work xs → Asks es s condition work.triples.items xs
  statement_asks condition asked work xs stands =
      let ts = work.triples.items in
      let f = planned_triple p xs in
      let m = at_axes 0 p.axes (map unsigned_abs xs) in
      let there = each_stated (λ n. triple_there ts (place_in p n) ≡ f n) (λ i d l. triple_of_place p drawn live i d l work xs stands) in
      let named = at_stated (λ n. height_of es n m ≤ statement_height es s m) (λ n. largest_of (sizes_of (f n)) ≤ statement_height es s m) s (λ n h. le_trans (size_within p drawn xs stands.count n) h) (named_low m) in
      let sum = statement_sum_below es (constructed p.drawing drawn) (at_axes (pos 0) p.axes xs) m (values_within p drawn xs stands.count) s (each_stated (IsLive es) live) in
      let at_the_axes : statement_height es s (at_axes 0 p.axes (map unsigned_abs xs)) ≡ statement_height_at es s (map unsigned_abs xs) = ap (λ (axes : List Axis). statement_height es s (at_axes 0 axes (map unsigned_abs xs))) axes_are in
      record {
        inside = rw asked (speaks (place_in p) s (length ts) (each_stated (λ n. place_in p n < length ts) (λ i d l. place_within_work p drawn live i d l work xs stands)));
        low = rw (asked, ← at_the_axes) (size_by (place_in p) ts f s (statement_height es s m) there named sum);
        parts = ap (λ (k : Condition). condition_parts k ts) asked
            ∙ parts_there (place_in p) ts f es s (at_axes (pos 0) p.axes xs) there
            ∙ ap (λ (axes : List Axis). parts_at es s (at_axes (pos 0) axes xs)) axes_are;
      }
