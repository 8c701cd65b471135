-- A statement has a degree above 0 exactly in the parameters of the elements that it needs.
use Rattle.std.proofs.Common.{◌≡◌, ◌∙◌, ap, subst, refl, ℕ, ◌+◌, ◌*◌, ◌/◌, ◌<◌, ◌++◌, max, None, Some, List, [], ◌∷◌, map, arith}
use Rattle.std.specs.Prelude.{Bool, true, false, ◌==◌, ◌||◌, filter, if◌then◌else◌, nat_lt}
use Rattle.std.specs.List.{AllByRecursion, filter_map}
use Rattle.std.proofs.lemmas.Bool.{cond_both, or_parts}
use Rattle.std.proofs.lemmas.Bool.Decides.{nat_tests}
use Rattle.geo_sketch.specs.declared.elements.Def.{Def}
use Rattle.geo_sketch.specs.declared.elements.Def.TheVariants.{Free, Fixed, Cut, Blend, Cross}
use Rattle.geo_sketch.specs.declared.elements.Element.{Element}
use Rattle.geo_sketch.specs.declared.statements.Statement.{Statement}
use Rattle.geo_sketch.specs.declared.statements.Statement.TheVariants as statement
use Rattle.geo_sketch.specs.Constructions.{by_def, computed, AtNamed, IsConstruction}
use Rattle.geo_sketch.specs.Dependence.{depends_algebra, depends_on}
use Rattle.geo_sketch.specs.Lookups.{numbered, IsLive}
use Rattle.geo_sketch.specs.Needs.{entry_of, needs}
use Rattle.geo_sketch.specs.Rebuilding.{listed}
use Rattle.geo_sketch.proofs.ConstructionLaws.{at_named}
use Rattle.geo_sketch.proofs.LiveElements.{related}
use Rattle.geo_degree.specs.declared.grids.Axis.{Axis}
use Rattle.geo_degree.specs.Degrees.{degree_algebra, degree_of, statement_degree}
use Rattle.geo_degree.specs.Grids.{axes_among, parameters_of}
use Rattle.geo_sketch.specs.Assignments.{own_parameters}
use Rattle.geo_cert.specs.Making.{element_degree, own_degree}

-- ---- what an element does not depend on
module _ (es : List Element) (c : IsConstruction es) (n p : ℕ) (own : p / 2 ≡ n) where
  unneeded_step : (m : ℕ) (d : Def) (f : ℕ → Bool) (g : ℕ → ℕ) → AtNamed d (λ k. f k ≡ false → g k ≡ 0) → by_def (depends_algebra n) m d f ≡ false → by_def (degree_algebra p) m d g ≡ 0
  unneeded_step m Free f g h t =
      let first : (2 * m == p) ≡ false = grind (arith, nat_tests) in
      let second : (2 * m + 1 == p) ≡ false = grind (arith, nat_tests) in
      rw (first, second) refl
  unneeded_step m (Fixed a b e) f g h t = refl
  unneeded_step m (Cut k) f g h t =
      let parts = or_parts (m == n) (f k) t in
      let here : (m == n) ≡ false = parts.0 in
      let first : (2 * m == p) ≡ false = grind (arith, nat_tests) in
      rw first (h parts.1)
  unneeded_step m (Blend k l) f g h t =
      let parts = or_parts (m == n) (f k || f l) t in
      let rest = or_parts (f k) (f l) parts.1 in
      let here : (m == n) ≡ false = parts.0 in
      let first : (2 * m == p) ≡ false = grind (arith, nat_tests) in
      rw first (omega (arith, h.0 rest.0, h.1 rest.1))
  unneeded_step m (Cross k l) f g h t =
      let parts = or_parts (m == n) (f k || f l) t in
      let rest = or_parts (f k) (f l) parts.1 in
      omega (arith, h.0 rest.0, h.1 rest.1)

  unneeded_by : (m : ℕ) → depends_on es m n ≡ false → degree_of es m p ≡ 0
  unneeded_by =
      related es c (depends_algebra n) (degree_algebra p) (λ m b d. b ≡ false → d ≡ 0) (λ m none t. refl)
      (λ m e q h t. unneeded_step m e.def (computed (depends_algebra n) es) (computed (degree_algebra p) es) (at_named (λ k. (k < m) × IsLive es k × (computed (depends_algebra n) es k ≡ false → computed (degree_algebra p) es k ≡ 0)) (λ k. computed (depends_algebra n) es k ≡ false → computed (degree_algebra p) es k ≡ 0) e.def (λ k x. x.2) h) t)

  pub unneeded : (s : Statement) → needs es s n ≡ false → statement_degree es s p ≡ 0
  unneeded (statement.Null a) t = unneeded_by a (or_parts (depends_on es a n) false t).0
  unneeded (statement.Same a b) t =
      let one = or_parts (depends_on es a n) (depends_on es b n || false) t in
      let other = or_parts (depends_on es b n) false one.1 in
      omega (arith, unneeded_by a one.0, unneeded_by b other.0)
  unneeded (statement.On a b) t =
      let one = or_parts (depends_on es a n) (depends_on es b n || false) t in
      let other = or_parts (depends_on es b n) false one.1 in
      omega (arith, unneeded_by a one.0, unneeded_by b other.0)
  unneeded (statement.Triple a b k) t =
      let one = or_parts (depends_on es a n) (depends_on es b n || (depends_on es k n || false)) t in
      let other = or_parts (depends_on es b n) (depends_on es k n || false) one.1 in
      let last = or_parts (depends_on es k n) false other.1 in
      omega (arith, unneeded_by a one.0, unneeded_by b other.0, unneeded_by k last.0)

-- ---- what it does depend on
-- the parameter is one of those that an element with this definition has
abbrev HasOwn : ℕ → Def → ℕ → Type 0
HasOwn n Free p = p / 2 ≡ n
HasOwn n (Fixed a b c) p = ⊥
HasOwn n (Cut k) p = p ≡ 2 * n
HasOwn n (Blend k m) p = p ≡ 2 * n
HasOwn n (Cross k m) p = ⊥

by_either : {P : Type 0} (a b : Bool) → (a || b) ≡ true → (a ≡ true → P) → (a ≡ false → b ≡ true → P) → P
by_either true b t f g = f refl
by_either false b t f g = g refl t

module _ (es : List Element) (c : IsConstruction es) (n p : ℕ) (x : Element) (there : numbered es n ≡ Some x) (own : HasOwn n x.def p) where
  above_if : (m x : ℕ) → 0 < x → 0 < (if 2 * m == p then 1 else x)
  above_if m x h = let one : 0 < 1 = omega arith in cond_both (2 * m == p) 1 x (λ y. 0 < y) (λ t. one) (λ t. h)

  needed_step : (m : ℕ) (d : Def) (f : ℕ → Bool) (g : ℕ → ℕ) → ((m == n) ≡ true → HasOwn n d p) → AtNamed d (λ k. f k ≡ true → 0 < g k) → by_def (depends_algebra n) m d f ≡ true → 0 < by_def (degree_algebra p) m d g
  needed_step m Free f g here h t =
      let half : p / 2 ≡ n = here t in
      let either : ((2 * m == p) || (2 * m + 1 == p)) ≡ true = grind (arith, nat_tests) in
      let one : 0 < 1 = omega arith in
      rw either one
  needed_step m (Fixed a b e) f g here h t = absurd (here t)
  needed_step m (Cut k) f g here h t =
      by_either (m == n) (f k) t
      (λ u. let first : (2 * m == p) ≡ true = (let p_is : p ≡ 2 * n = here u in grind (arith, nat_tests)) in let one : 0 < 1 = omega arith in rw first one)
      (λ u v. above_if m (g k) (h v))
  needed_step m (Blend k l) f g here h t =
      by_either (m == n) (f k || f l) t
      (λ u. let first : (2 * m == p) ≡ true = (let p_is : p ≡ 2 * n = here u in grind (arith, nat_tests)) in let one : 0 < 1 = omega arith in rw first one)
      (λ u v. above_if m (max (g k) (g l)) (by_either (f k) (f l) v (λ w. let a = h.0 w in omega (arith, a)) (λ w x. let a = h.1 x in omega (arith, a))))
  needed_step m (Cross k l) f g here h t =
      by_either (m == n) (f k || f l) t
      (λ u. absurd (here u))
      (λ u v. by_either (f k) (f l) v (λ w. let a = h.0 w in omega (arith, a)) (λ w x. let a = h.1 x in omega (arith, a)))

  own_here : (m : ℕ) (e : Element) → numbered es m ≡ Some e → (m == n) ≡ true → HasOwn n e.def p
  own_here m e found t =
      let number : m ≡ n = grind (arith, nat_tests) in
      let also : numbered es n ≡ Some e = subst (λ (k : ℕ). numbered es k ≡ Some e) number found in
      let same : x ≡ e = cc in
      subst (λ (y : Element). HasOwn n y.def p) same own

  not_absent : (m : ℕ) → numbered es m ≡ None → (m == n) ≡ true → 0 < 0
  not_absent m none t =
      let number : m ≡ n = grind (arith, nat_tests) in
      let also : numbered es n ≡ None = subst (λ (k : ℕ). numbered es k ≡ None) number none in
      absurd (cc)

  needed_by : (m : ℕ) → depends_on es m n ≡ true → 0 < degree_of es m p
  needed_by =
      related es c (depends_algebra n) (degree_algebra p) (λ m b d. b ≡ true → 0 < d) not_absent
      (λ m e q h t. needed_step m e.def (computed (depends_algebra n) es) (computed (degree_algebra p) es) (own_here m e q) (at_named (λ k. (k < m) × IsLive es k × (computed (depends_algebra n) es k ≡ true → 0 < computed (degree_algebra p) es k)) (λ k. computed (depends_algebra n) es k ≡ true → 0 < computed (degree_algebra p) es k) e.def (λ k y. y.2) h) t)

  pub needed : (s : Statement) → needs es s n ≡ true → 0 < statement_degree es s p
  needed (statement.Null a) t = by_either (depends_on es a n) false t (needed_by a) (λ u v. absurd (cc))
  needed (statement.Same a b) t =
      by_either (depends_on es a n) (depends_on es b n || false) t (λ u. let d = needed_by a u in omega (arith, d))
      (λ u v. by_either (depends_on es b n) false v (λ w. let d = needed_by b w in omega (arith, d)) (λ w x. absurd (cc)))
  needed (statement.On a b) t =
      by_either (depends_on es a n) (depends_on es b n || false) t (λ u. let d = needed_by a u in omega (arith, d))
      (λ u v. by_either (depends_on es b n) false v (λ w. let d = needed_by b w in omega (arith, d)) (λ w x. absurd (cc)))
  needed (statement.Triple a b k) t =
      by_either (depends_on es a n) (depends_on es b n || (depends_on es k n || false)) t (λ u. let d = needed_by a u in omega (arith, d))
      (λ u v. by_either (depends_on es b n) (depends_on es k n || false) v (λ w. let d = needed_by b w in omega (arith, d))
      (λ w x. by_either (depends_on es k n) false x (λ y. let d = needed_by k y in omega (arith, d)) (λ y z. absurd (cc))))

-- ---- the degrees of a part of the elements
module _ (D : ℕ → ℕ) (test : ℕ → Bool) where
  -- where the degrees are 0 in the parameters of all others, they are those of the elements that pass
  abbrev AreNothing : Element → Type 0
  AreNothing e = test e.number ≡ false → AllByRecursion (λ p. D p ≡ 0) (own_parameters e.number e.def)

  abbrev AreSomething : Element → Type 0
  AreSomething e = test e.number ≡ true → AllByRecursion (λ p. 0 < D p) (own_parameters e.number e.def)

  abbrev part : List Element → List Element
  part es = map listed (map entry_of (filter (λ (e : Element). test e.number) es))

  no_degree : (n : ℕ) (d : Def) → AllByRecursion (λ p. D p ≡ 0) (own_parameters n d) → own_degree D n d ≡ None
  no_degree n Free h = let t : nat_lt 0 (D (2 * n)) ≡ false = (let z : D (2 * n) ≡ 0 = h.0 in grind (arith, nat_tests)) in rw t refl
  no_degree n (Fixed a b c) h = refl
  no_degree n (Cut k) h = let t : nat_lt 0 (D (2 * n)) ≡ false = (let z : D (2 * n) ≡ 0 = h.0 in grind (arith, nat_tests)) in rw t refl
  no_degree n (Blend k m) h = let t : nat_lt 0 (D (2 * n)) ≡ false = (let z : D (2 * n) ≡ 0 = h.0 in grind (arith, nat_tests)) in rw t refl
  no_degree n (Cross k m) h = refl

  pub part_degrees : (es : List Element) → AllByRecursion AreNothing es → filter_map (element_degree D) (part es) ≡ filter_map (element_degree D) es
  part_degrees [] h = refl
  part_degrees (e ∷ es) h =
      let rest = part_degrees es h.1 in
      cond_both (test e.number) (e ∷ filter (λ (x : Element). test x.number) es) (filter (λ (x : Element). test x.number) es) (λ xs. filter_map (element_degree D) (map listed (map entry_of xs)) ≡ filter_map (element_degree D) (e ∷ es))
      (λ t. rw rest refl)
      (λ t. rw (no_degree e.number e.def (h.0 t)) rest)

  -- and those that pass have them above 0 in all parameters
  kept : (ps qs : List ℕ) → AllByRecursion (λ p. 0 < D p) ps → map (λ (a : Axis). a.param) (axes_among D (ps ++ qs)) ≡ ps ++ map (λ (a : Axis). a.param) (axes_among D qs)
  kept [] qs h = refl
  kept (p ∷ ps) qs h = let t : nat_lt 0 (D p) ≡ true = (let l : 0 < D p = h.0 in grind (arith, nat_tests)) in rw t (ap (λ rs. p ∷ rs) (kept ps qs h.1))

  left_out : (ps qs : List ℕ) → AllByRecursion (λ p. D p ≡ 0) ps → axes_among D (ps ++ qs) ≡ axes_among D qs
  left_out [] qs h = refl
  left_out (p ∷ ps) qs h = let t : nat_lt 0 (D p) ≡ false = (let z : D p ≡ 0 = h.0 in grind (arith, nat_tests)) in rw t (left_out ps qs h.1)

  pub part_parameters : (es : List Element) → AllByRecursion AreNothing es → AllByRecursion AreSomething es → map (λ (a : Axis). a.param) (axes_among D (parameters_of es)) ≡ parameters_of (part es)
  part_parameters [] h g = refl
  part_parameters (e ∷ es) h g =
      let rest = part_parameters es h.1 g.1 in
      let own = own_parameters e.number e.def in
      cond_both (test e.number) (e ∷ filter (λ (x : Element). test x.number) es) (filter (λ (x : Element). test x.number) es) (λ xs. map (λ (a : Axis). a.param) (axes_among D (own ++ parameters_of es)) ≡ parameters_of (map listed (map entry_of xs)))
      (λ t. kept own (parameters_of es) (g.0 t) ∙ ap (λ rs. own ++ rs) rest)
      (λ t. ap (map (λ (a : Axis). a.param)) (left_out own (parameters_of es) (h.0 t)) ∙ rest)
