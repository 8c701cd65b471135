-- Heights bound coordinates and parts, and grow with the magnitudes and along the construction.
-- lemmas for other crates
use Rattle.std.proofs.Common.{◌≡◌, sym, subst, ℕ, ◌<◌, ◌≤◌, max, true, Some, List, [], ◌∷◌, ℤ, unsigned_abs, arith, le_refl, le_trans}
use Rattle.geo_triple.specs.declared.Triple.{Triple}
use Rattle.geo_triple.specs.Sums.{Sizes, of_sizes, sizes_of, largest_of, FitIn}
use Rattle.geo_triple.specs.Triple.{cross_of}
use Rattle.geo_triple.proofs.Sums.{a-largest, b-largest, c-largest, largest_bound, largest-grows, fit_refl, fit_trans, cross_sums-grows, dot_sum-grows, determinant_sum-grows, blend_sums-grows, cut_sums-grows, cross-fits, dot-fits, determinant-fits, blend-fits, cut-fits, cross_sums-plain, dot_sum-plain, determinant_sum-plain, blend_sums-plain, largest-cross_left, largest-cross_right, largest-dot_left, largest-dot_right}
use Rattle.geo_sketch.specs.declared.elements.Def.{Def}
use Rattle.geo_sketch.specs.declared.elements.Def.TheVariants.{Free, Fixed, Cut, Blend, Cross}
use Rattle.geo_sketch.specs.declared.elements.Element.{Element}
use Rattle.geo_sketch.specs.declared.elements.Kind.{Kind}
use Rattle.geo_sketch.specs.declared.statements.Statement.{Statement}
use Rattle.geo_sketch.specs.declared.statements.Statement.TheVariants as statement
use Rattle.geo_sketch.specs.Assignments.{first_parameter, second_parameter}
use Rattle.geo_sketch.specs.Constructions.{by_def, computed, AtNamed, IsConstruction}
use Rattle.geo_sketch.specs.Dependence.{depends_on}
use Rattle.geo_sketch.specs.Heights.{heights_algebra, heights_at, height_of, statement_height}
use Rattle.geo_sketch.specs.Lookups.{numbered, IsLive}
use Rattle.geo_sketch.specs.Needs.{is_needed, needs, stated, AtStated}
use Rattle.geo_sketch.specs.PlainHeights.{plain_height_algebra, plain_height_of, threes}
use Rattle.geo_sketch.specs.declared.limits.TheConstants.{HEIGHT_LIMIT}
use Rattle.geo_sketch.specs.Sketches.{Drawing, IsDrawn, IsDefined}
use Rattle.geo_sketch.specs.Statements.{parts_at}
use Rattle.geo_triple.specs.Zero.{coordinates}
use Rattle.geo_sketch.specs.Triples.{triple_algebra, triple_at}
use Rattle.geo_sketch.proofs.ConstructionLaws.{at_named}
use Rattle.geo_sketch.proofs.DependenceLaws.{by_either, reaches}
use Rattle.geo_sketch.proofs.LiveElements.{related, live_step}
use Rattle.geo_sketch.proofs.PlainHeightLaws.{low}
use Rattle.geo_sketch.proofs.SketchLaws.{constructed, defined}
use Rattle.geo_height.specs.Bounds.{sums_by, statement_sum, IsWithin, AreAtMost}
use Rattle.geo_triple.specs.declared.limits.TheConstants.{STATEMENT_LIMIT}
use Rattle.geo_height.proofs.SumLaws.{ArePositive, cut-positive, blend-positive, cross-positive, largest-cut, largest-blend_left, largest-blend_right, cut_heights-grows, cut_sums-fit, cut_heights-plain, largest-determinant, minors-below}

-- ---- heights do not fall where a magnitude grows
made_grows : (d : Def) (n : ℕ) (m k : ℕ → ℕ) (f g : ℕ → Sizes) → ((p : ℕ) → m p ≤ k p) → AtNamed d (λ j. FitIn (f j) (g j)) → FitIn (by_def (heights_algebra m) n d f) (by_def (heights_algebra k) n d g)
made_grows Free n m k f g h s = record { a = omega (arith, h (first_parameter n)); b = omega (arith, h (second_parameter n)); c = le_refl 1 }
made_grows (Fixed a b c) n m k f g h s = fit_refl _
made_grows (Cut i) n m k f g h s = cut_heights-grows (f i) (g i) (m (first_parameter n)) (k (first_parameter n)) s (h (first_parameter n))
made_grows (Blend i j) n m k f g h s =
    let w : max 1 (m (first_parameter n)) ≤ max 1 (k (first_parameter n)) = omega (arith, h (first_parameter n)) in
    blend_sums-grows (f i) (g i) (f j) (g j) (max 1 (m (first_parameter n))) (max 1 (k (first_parameter n))) s.0 s.1 w
made_grows (Cross i j) n m k f g h s = cross_sums-grows (f i) (g i) (f j) (g j) s.0 s.1

-- ---- they bound what is computed, by way of the sums
-- coordinates are at most the sums
made_fits : (d : Def) (n : ℕ) (v : ℕ → ℤ) (f : ℕ → Triple) → FitIn (sizes_of (by_def (triple_algebra v) n d f)) (sums_by v n d f)
made_fits Free n v f = record { a = le_refl _; b = le_refl _; c = omega arith }
made_fits (Fixed a b c) n v f = fit_refl _
made_fits (Cut k) n v f = cut-fits (f k) (v (first_parameter n)) (sizes_of (f k)) (unsigned_abs (v (first_parameter n))) (fit_refl _) (le_refl _)
made_fits (Blend k l) n v f = blend-fits (f k) (f l) (v (first_parameter n)) (sizes_of (f k)) (sizes_of (f l)) (unsigned_abs (v (first_parameter n))) (fit_refl _) (fit_refl _) (le_refl _)
made_fits (Cross k l) n v f = cross-fits (f k) (f l) (sizes_of (f k)) (sizes_of (f l)) (fit_refl _) (fit_refl _)

-- and sums at most the heights, where g bounds the coordinates of the named elements
pub sums_fit : (d : Def) (n : ℕ) (v : ℕ → ℤ) (m : ℕ → ℕ) (f : ℕ → Triple) (g : ℕ → Sizes) → IsWithin v m → AtNamed d (λ k. FitIn (sizes_of (f k)) (g k)) → FitIn (sums_by v n d f) (by_def (heights_algebra m) n d g)
sums_fit Free n v m f g w s = record { a = omega (arith, w (first_parameter n)); b = omega (arith, w (second_parameter n)); c = le_refl 1 }
sums_fit (Fixed a b c) n v m f g w s = record { a = omega arith; b = omega arith; c = omega arith }
sums_fit (Cut k) n v m f g w s = fit_trans _ _ _ (cut_sums-grows (sizes_of (f k)) (g k) (unsigned_abs (v (first_parameter n))) (m (first_parameter n)) s (w (first_parameter n))) (cut_sums-fit (g k) (m (first_parameter n)))
sums_fit (Blend k l) n v m f g w s =
    let weight : unsigned_abs (v (first_parameter n)) ≤ max 1 (m (first_parameter n)) = omega (arith, w (first_parameter n)) in
    blend_sums-grows (sizes_of (f k)) (g k) (sizes_of (f l)) (g l) (unsigned_abs (v (first_parameter n))) (max 1 (m (first_parameter n))) s.0 s.1 weight
sums_fit (Cross k l) n v m f g w s = cross_sums-grows (sizes_of (f k)) (g k) (sizes_of (f l)) (g l) s.0 s.1

coordinates_within : (t : Triple) (g : Sizes) → FitIn (sizes_of t) g → AreAtMost (largest_of g) (coordinates t)
coordinates_within t g s = (le_trans s.a (a-largest g), (le_trans s.b (b-largest g), (le_trans s.c (c-largest g), tt)))

-- ---- they are at least 1, and at least those of the named elements
pub positive_made : (d : Def) (n : ℕ) (m : ℕ → ℕ) (g : ℕ → Sizes) → AtNamed d (λ k. ArePositive (g k)) → ArePositive (by_def (heights_algebra m) n d g)
positive_made Free n m g s = record { a = omega arith; b = omega arith; c = le_refl 1 }
positive_made (Fixed a b c) n m g s = record { a = omega arith; b = omega arith; c = omega arith }
positive_made (Cut k) n m g s = cut-positive (g k) (m (first_parameter n)) s
positive_made (Blend k l) n m g s = blend-positive (g k) (g l) (m (first_parameter n)) s.0
positive_made (Cross k l) n m g s = cross-positive (g k) (g l) s.0 s.1

pub named_below : (d : Def) (n : ℕ) (m : ℕ → ℕ) (g : ℕ → Sizes) → AtNamed d (λ k. ArePositive (g k)) → AtNamed d (λ k. largest_of (g k) ≤ largest_of (by_def (heights_algebra m) n d g))
named_below Free n m g s = tt
named_below (Fixed a b c) n m g s = tt
named_below (Cut k) n m g s = largest-cut (g k) (m (first_parameter n))
named_below (Blend k l) n m g s = (largest-blend_left (g k) (g l) (m (first_parameter n)), largest-blend_right (g k) (g l) (m (first_parameter n)))
named_below (Cross k l) n m g s = (largest-cross_left (g k) (g l) s.1, largest-cross_right (g k) (g l) s.0)

-- ---- and at most the plain height
plain_made : (d : Def) (es : List Element) (i n : ℕ) (kind : Kind) (m : ℕ → ℕ) (g : ℕ → Sizes) (h : ℕ → ℕ) → IsDefined es i kind d → AtNamed d (λ k. largest_of (g k) ≤ h k) → largest_of (by_def (heights_algebra m) n d g) ≤ by_def (plain_height_algebra m) n d h
plain_made Free es i n kind m g h fits s =
    largest_bound (of_sizes (max 1 (m (first_parameter n))) (max 1 (m (second_parameter n))) 1) (max 1 (max (m (first_parameter n)) (m (second_parameter n)))) (omega arith) (omega arith) (omega arith)
plain_made (Fixed a b c) es i n kind m g h fits s =
    largest_bound (of_sizes (max 1 (unsigned_abs a)) (max 1 (unsigned_abs b)) (max 1 (unsigned_abs c))) (max (unsigned_abs a) (max (unsigned_abs b) (unsigned_abs c))) (omega (arith, fits.3)) (omega (arith, fits.3)) (omega (arith, fits.3))
plain_made (Cut k) es i n kind m g h fits s = cut_heights-plain (g k) (h k) (m (first_parameter n)) s
plain_made (Blend k l) es i n kind m g h fits s = blend_sums-plain (g k) (g l) (h k) (h l) (m (first_parameter n)) s.0 s.1
plain_made (Cross k l) es i n kind m g h fits s = cross_sums-plain (g k) (g l) (h k) (h l) s.0 s.1

-- ---- what holds of each element that a statement names
abbrev Each : (ℕ → Type 0) → List ℕ → Type 0
Each P [] = Unit {0}
Each P (a ∷ named) = P a × Each P named

each_stated : (P : ℕ → Type 0) (s : Statement) → AtStated s P → Each P (stated s)
each_stated P (statement.Null n) h = (h, tt)
each_stated P (statement.Same n k) h = (h.0, (h.1, tt))
each_stated P (statement.On n k) h = (h.0, (h.1, tt))
each_stated P (statement.Triple n k i) h = (h.0, (h.1, (h.2, tt)))

-- ---- so along every construction
module _ (es : List Element) (c : IsConstruction es) where
  pub heights_grow : (m k : ℕ → ℕ) → ((p : ℕ) → m p ≤ k p) → (n : ℕ) → FitIn (heights_at es n m) (heights_at es n k)
  heights_grow m k h =
      related es c (heights_algebra m) (heights_algebra k) (λ n g i. FitIn g i) (λ n q. fit_refl (of_sizes 0 0 0))
      (λ n e q s. made_grows e.def n m k (computed (heights_algebra m) es) (computed (heights_algebra k) es) h (at_named _ (λ j. FitIn (heights_at es j m) (heights_at es j k)) e.def (λ j p. p.2) s))

  pub statement_height_grows : (m k : ℕ → ℕ) → ((p : ℕ) → m p ≤ k p) → (s : Statement) → statement_height es s m ≤ statement_height es s k
  statement_height_grows m k h (statement.Null n) = largest-grows _ _ (heights_grow m k h n)
  statement_height_grows m k h (statement.Same n i) = largest-grows _ _ (cross_sums-grows _ _ _ _ (heights_grow m k h n) (heights_grow m k h i))
  statement_height_grows m k h (statement.On n i) = dot_sum-grows _ _ _ _ (heights_grow m k h n) (heights_grow m k h i)
  statement_height_grows m k h (statement.Triple n i j) = determinant_sum-grows _ _ _ _ _ _ (heights_grow m k h n) (heights_grow m k h i) (heights_grow m k h j)

  -- ---- bounds
  module _ (v : ℕ → ℤ) (m : ℕ → ℕ) (w : IsWithin v m) where
    pub fits : (n : ℕ) → FitIn (sizes_of (triple_at es n v)) (heights_at es n m)
    fits =
        related es c (triple_algebra v) (heights_algebra m) (λ n t g. FitIn (sizes_of t) g) (λ n q. record { a = omega arith; b = omega arith; c = omega arith })
        (λ n e q s. fit_trans _ _ _ (made_fits e.def n v (computed (triple_algebra v) es)) (sums_fit e.def n v m (computed (triple_algebra v) es) (computed (heights_algebra m) es) w (at_named _ (λ k. FitIn (sizes_of (triple_at es k v)) (heights_at es k m)) e.def (λ k p. p.2) s)))

    pub bounded : (n : ℕ) → AreAtMost (height_of es n m) (coordinates (triple_at es n v))
    bounded n = coordinates_within (triple_at es n v) (heights_at es n m) (fits n)

    pub parts_bounded : (s : Statement) → AreAtMost (statement_height es s m) (parts_at es s v)
    parts_bounded (statement.Null n) = bounded n
    parts_bounded (statement.Same n k) = coordinates_within (cross_of (triple_at es n v) (triple_at es k v)) _ (cross-fits (triple_at es n v) (triple_at es k v) (heights_at es n m) (heights_at es k m) (fits n) (fits k))
    parts_bounded (statement.On n k) = (dot-fits (triple_at es n v) (triple_at es k v) (heights_at es n m) (heights_at es k m) (fits n) (fits k), tt)
    parts_bounded (statement.Triple n k l) = (determinant-fits (triple_at es n v) (triple_at es k v) (triple_at es l v) (heights_at es n m) (heights_at es k m) (heights_at es l m) (fits n) (fits k) (fits l), tt)

    -- the sums by which a live element is computed
    pub sums_below : (n : ℕ) (e : Element) → numbered es n ≡ Some e → FitIn (sums_by v n e.def (λ k. triple_at es k v)) (heights_at es n m)
    sums_below n e q =
        subst (λ (g : Sizes). FitIn (sums_by v n e.def (computed (triple_algebra v) es)) g) (sym (live_step es c (heights_algebra m) n e q))
        (sums_fit e.def n v m (computed (triple_algebra v) es) (computed (heights_algebra m) es) w (at_named (λ k. (k < n) × IsLive es k) (λ k. FitIn (sizes_of (triple_at es k v)) (heights_at es k m)) e.def (λ k p. fits k) (c.named n e q)))

  -- ---- along the construction
  module _ (m : ℕ → ℕ) where
    pub positive : (n : ℕ) → IsLive es n → ArePositive (heights_at es n m)
    positive =
        related es c (heights_algebra m) (heights_algebra m) (λ n g h. IsLive es n → ArePositive g) (λ n q l. absurd (let found = l.1 in cc))
        (λ n e q s l. positive_made e.def n m (computed (heights_algebra m) es) (at_named _ (λ k. ArePositive (heights_at es k m)) e.def (λ k p. p.2 p.1) s))

    -- the height of an element is at least that of each element that its definition names
    below : (n : ℕ) (e : Element) → numbered es n ≡ Some e → AtNamed e.def (λ k. height_of es k m ≤ height_of es n m)
    below n e q =
        subst (λ (g : Sizes). AtNamed e.def (λ k. height_of es k m ≤ largest_of g)) (sym (live_step es c (heights_algebra m) n e q))
        (named_below e.def n m (computed (heights_algebra m) es) (at_named (λ k. (k < n) × IsLive es k) (λ k. ArePositive (heights_at es k m)) e.def (λ k p. positive k p.1) (c.named n e q)))

    -- and of each that it depends on
    pub height_along : (n on : ℕ) → depends_on es n on ≡ true → height_of es on m ≤ height_of es n m
    height_along = reaches es c (λ n k. height_of es k m ≤ height_of es n m) (λ n. le_refl _) (λ i j k p q. le_trans q p) below

    -- the height of a statement is at least that of each element that it names
    pub named_in_statement : (s : Statement) → AtStated s (IsLive es) → AtStated s (λ n. height_of es n m ≤ statement_height es s m)
    named_in_statement (statement.Null n) l = le_refl _
    named_in_statement (statement.Same n k) l = (largest-cross_left _ _ (positive k l.1), largest-cross_right _ _ (positive n l.0))
    named_in_statement (statement.On n k) l = (largest-dot_left _ _ (positive k l.1), largest-dot_right _ _ (positive n l.0))
    named_in_statement (statement.Triple n k i) l =
        let minors = minors-below (heights_at es n m) (heights_at es k m) (heights_at es i m) (positive n l.0) in
        (largest-determinant _ _ _ (positive k l.1) (positive i l.2), le_trans (largest-cross_left _ _ (positive i l.2)) minors, le_trans (largest-cross_right _ _ (positive k l.1)) minors)

    -- and of each that it needs
    needed_below : (limit : ℕ) (named : List ℕ) (n : ℕ) → Each (λ a. height_of es a m ≤ limit) named → is_needed es named n ≡ true → height_of es n m ≤ limit
    needed_below limit [] n h t = cc
    needed_below limit (a ∷ named) n h t = by_either (depends_on es a n) (is_needed es named n) (λ u. le_trans (height_along a n u) h.0) (λ u. needed_below limit named n h.1 u) t

    pub needed_in_statement : (s : Statement) → AtStated s (IsLive es) → (n : ℕ) → needs es s n ≡ true → height_of es n m ≤ statement_height es s m
    needed_in_statement s l n t = needed_below (statement_height es s m) (stated s) n (each_stated (λ a. height_of es a m ≤ statement_height es s m) s (named_in_statement s l)) t

  -- the sums by which a statement's parts are computed
  pub statement_sum_below : (v : ℕ → ℤ) (m : ℕ → ℕ) → IsWithin v m → (s : Statement) → AtStated s (IsLive es) → statement_sum s (λ k. triple_at es k v) ≤ statement_height es s m
  statement_sum_below v m w (statement.Null n) l = largest-grows _ _ (fits v m w n)
  statement_sum_below v m w (statement.Same n k) l = largest-grows _ _ (cross_sums-grows _ _ _ _ (fits v m w n) (fits v m w k))
  statement_sum_below v m w (statement.On n k) l = dot_sum-grows _ _ _ _ (fits v m w n) (fits v m w k)
  statement_sum_below v m w (statement.Triple n k i) l =
      omega (
        arith,
        largest-grows _ _ (cross_sums-grows _ _ _ _ (fits v m w k) (fits v m w i)),
        minors-below (heights_at es n m) (heights_at es k m) (heights_at es i m) (positive m n l.0),
        determinant_sum-grows _ _ _ _ _ _ (fits v m w n) (fits v m w k) (fits v m w i),
      )

-- ---- in a sketch
module _ (drawing : Drawing) (drawn : IsDrawn drawing) where
  pub plain_below : (m : ℕ → ℕ) (n : ℕ) → height_of drawing.elements n m ≤ plain_height_of drawing.elements n m
  plain_below m =
      related drawing.elements (constructed drawing drawn) (heights_algebra m) (plain_height_algebra m) (λ n g h. largest_of g ≤ h) (λ n q. largest_bound (of_sizes 0 0 0) 0 (omega arith) (omega arith) (omega arith))
      (λ n e q s. plain_made e.def drawing.elements e.number n e.kind m (computed (heights_algebra m) drawing.elements) (computed (plain_height_algebra m) drawing.elements) (defined drawing drawn n e q) (at_named _ (λ k. height_of drawing.elements k m ≤ plain_height_of drawing.elements k m) e.def (λ k p. p.2) s))

  lowest : (n : ℕ) → height_of drawing.elements n threes ≤ HEIGHT_LIMIT
  lowest n = le_trans (plain_below threes n) (low drawing.elements drawing.settings drawing.claims drawn n)

  pub statement_low : (s : Statement) → statement_height drawing.elements s threes ≤ STATEMENT_LIMIT
  statement_low (statement.Null n) = omega (arith, lowest n)
  statement_low (statement.Same n k) = omega (arith, cross_sums-plain _ _ _ _ (lowest n) (lowest k))
  statement_low (statement.On n k) = omega (arith, dot_sum-plain _ _ _ _ (lowest n) (lowest k))
  statement_low (statement.Triple n k i) = omega (arith, determinant_sum-plain _ _ _ _ _ _ (lowest n) (lowest k) (lowest i))

  -- where a statement's height is at most a limit, no sum on the way to it passes the limit
  pub sums_on_the_way : (v : ℕ → ℤ) (m : ℕ → ℕ) → IsWithin v m → (s : Statement) (n : ℕ) (e : Element) (limit : ℕ) → AtStated s (IsLive drawing.elements) → statement_height drawing.elements s m ≤ limit → needs drawing.elements s n ≡ true → numbered drawing.elements n ≡ Some e → largest_of (sums_by v n e.def (λ k. triple_at drawing.elements k v)) ≤ limit
  sums_on_the_way v m w s n e limit live high t q =
      let es = drawing.elements in
      let c = constructed drawing drawn in
      le_trans (largest-grows _ _ (sums_below es c v m w n e q)) (le_trans (needed_in_statement es c m s live n t) high)
