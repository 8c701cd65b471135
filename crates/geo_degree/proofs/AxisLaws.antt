-- The axes of a statement rise, and each parameter with degree above 0 is one.
-- lemmas for other crates
use Rattle.std.proofs.Common.{◌≡◌, sym, ap, subst, refl, inl, inr, ℕ, zero, suc, ◌+◌, ◌*◌, ◌<◌, ◌≤◌, max, ◌⊎◌, ⊎_elim, Some, List, [], ◌∷◌, ◌++◌, arith, All}
use Rattle.std.specs.Prelude.{Contains, AllPairs, ◌==◌, ◌||◌, nat_lt, Bool, true, false}
use Rattle.std.proofs.lemmas.Bool.{cond_both, eqb-true, ltb-true, ltb-false}
use Rattle.std.proofs.lemmas.List.Elements.{All-cons}
use Rattle.std.proofs.lemmas.List.Kept.{AllPairs-cons}
use Rattle.geo_sketch.specs.declared.elements.Def.{Def}
use Rattle.geo_sketch.specs.declared.elements.Def.TheVariants.{Free, Fixed, Cut, Blend, Cross}
use Rattle.geo_sketch.specs.declared.elements.Element.{Element}
use Rattle.geo_sketch.specs.declared.statements.Statement.{Statement}
use Rattle.geo_sketch.specs.declared.statements.Statement.TheVariants as statement
use Rattle.geo_sketch.specs.Constructions.{by_def, computed, AtNamed, IsConstruction}
use Rattle.geo_sketch.specs.Lookups.{numbered, Rises}
use Rattle.geo_sketch.proofs.ConstructionLaws.{at_named}
use Rattle.geo_sketch.proofs.LiveElements.{related}
use Rattle.geo_degree.specs.declared.grids.Axis.{Axis}
use Rattle.geo_degree.specs.Degrees.{degree_algebra, degree_of, statement_degree}
use Rattle.geo_degree.specs.Grids.{parameters_of, axis, axes_among, axes_of}
use Rattle.geo_sketch.specs.Assignments.{own_parameters}

-- ---- parameters rise, and so do the axes
abbrev RiseFrom : ℕ → List ℕ → Type 0
RiseFrom low [] = Unit {0}
RiseFrom low (p ∷ ps) = (low ≤ p) × RiseFrom (p + 1) ps

lower : (low high : ℕ) (ps : List ℕ) → low ≤ high → RiseFrom high ps → RiseFrom low ps
lower low high [] h r = tt
lower low high (p ∷ ps) h r = (omega (arith, r.0, h), r.1)

own_rise : (low n : ℕ) (d : Def) (ps : List ℕ) → low ≤ n → RiseFrom (2 * (n + 1)) ps → RiseFrom (2 * low) (own_parameters n d ++ ps)
own_rise low n Free ps h r = (omega arith, (omega arith, lower (2 * n + 1 + 1) (2 * (n + 1)) ps (omega arith) r))
own_rise low n (Fixed a b c) ps h r = lower (2 * low) (2 * (n + 1)) ps (omega arith) r
own_rise low n (Cut k) ps h r = (omega arith, lower (2 * n + 1) (2 * (n + 1)) ps (omega arith) r)
own_rise low n (Blend k m) ps h r = (omega arith, lower (2 * n + 1) (2 * (n + 1)) ps (omega arith) r)
own_rise low n (Cross k m) ps h r = lower (2 * low) (2 * (n + 1)) ps (omega arith) r

parameters_rise : (low : ℕ) (es : List Element) → Rises low es → RiseFrom (2 * low) (parameters_of es)
parameters_rise low [] r = tt
parameters_rise low (e ∷ es) r = own_rise low e.number e.def (parameters_of es) r.0 (parameters_rise (e.number + 1) es r.1)

axes_above : (degree : ℕ → ℕ) (low : ℕ) (ps : List ℕ) → RiseFrom low ps → All (λ (a : Axis). low ≤ a.param) (axes_among degree ps)
axes_above degree low [] r = λ k d l. absurd (omega arith)
axes_above degree low (p ∷ ps) r =
    let rest = axes_above degree low ps (lower low (p + 1) ps (omega (arith, r.0)) r.1) in
    cond_both (nat_lt 0 (degree p)) (axis p (degree p) ∷ axes_among degree ps) (axes_among degree ps) (All (λ (a : Axis). low ≤ a.param))
    (λ t. All-cons (λ (a : Axis). low ≤ a.param) (axis p (degree p)) (axes_among degree ps) r.0 rest)
    (λ t. rest)

axes_rise : (degree : ℕ → ℕ) (low : ℕ) (ps : List ℕ) → RiseFrom low ps → AllPairs (λ (a b : Axis). a.param < b.param) (axes_among degree ps)
axes_rise degree low [] r = λ i j d l m. absurd (omega arith)
axes_rise degree low (p ∷ ps) r =
    let rest = axes_rise degree (p + 1) ps r.1 in
    cond_both (nat_lt 0 (degree p)) (axis p (degree p) ∷ axes_among degree ps) (axes_among degree ps) (AllPairs (λ (a b : Axis). a.param < b.param))
    (λ t. AllPairs-cons (λ (a b : Axis). a.param < b.param) (axis p (degree p)) (axes_among degree ps) (λ k d l. let above = axes_above degree (p + 1) ps r.1 k d l in omega (arith, above)) rest)
    (λ t. rest)

pub statement_axes_rise : (es : List Element) (s : Statement) → Rises 0 es → AllPairs (λ (a b : Axis). a.param < b.param) (axes_of es s)
statement_axes_rise es s r = axes_rise (statement_degree es s) 0 (parameters_of es) (parameters_rise 0 es r)

-- ---- each axis has its degree, which is above 0
pub axes_by_degree : (degree : ℕ → ℕ) (ps : List ℕ) → All (λ (a : Axis). (a.degree ≡ degree a.param) × (0 < a.degree)) (axes_among degree ps)
axes_by_degree degree [] = λ k d l. absurd (omega arith)
axes_by_degree degree (p ∷ ps) =
    let rest = axes_by_degree degree ps in
    cond_both (nat_lt 0 (degree p)) (axis p (degree p) ∷ axes_among degree ps) (axes_among degree ps) (All (λ (a : Axis). (a.degree ≡ degree a.param) × (0 < a.degree)))
    (λ t. All-cons (λ (a : Axis). (a.degree ≡ degree a.param) × (0 < a.degree)) (axis p (degree p)) (axes_among degree ps) (refl, ltb-true 0 (degree p) t) rest)
    (λ t. rest)

-- ---- each parameter with degree above 0 is an axis
-- the parameter stands in the list
abbrev pub Has : ℕ → List ℕ → Type 0
Has p [] = ⊥
Has p (q ∷ qs) = (q ≡ p) ⊎ Has p qs

has_left : (p : ℕ) (ps qs : List ℕ) → Has p ps → Has p (ps ++ qs)
has_left p [] qs h = absurd h
has_left p (r ∷ ps) qs h = ⊎_elim (λ e. inl e) (λ t. inr (has_left p ps qs t)) h

has_right : (p : ℕ) (ps qs : List ℕ) → Has p qs → Has p (ps ++ qs)
has_right p [] qs h = h
has_right p (r ∷ ps) qs h = inr (has_right p ps qs h)

has_own : (es : List Element) (n p : ℕ) (e : Element) → numbered es n ≡ Some e → Has p (own_parameters n e.def) → Has p (parameters_of es)
has_own [] n p e q h = cc
has_own (x ∷ es) n p e q h =
    cond_both (x.number == n) (Some x) (numbered es n) (λ o. o ≡ Some e → Has p (own_parameters x.number x.def ++ parameters_of es))
    (λ t g. let same : x ≡ e = cc in
    has_left p (own_parameters x.number x.def) (parameters_of es) (rw (eqb-true x.number n t) (subst (λ (y : Element). Has p (own_parameters n y.def)) (sym same) h)))
    (λ t g. has_right p (own_parameters x.number x.def) (parameters_of es) (has_own es n p e g h))
    q

either_positive : {Q : Type 0} (a b : ℕ) → (0 < a → Q) → (0 < b → Q) → 0 < a + b → Q
either_positive zero b f g h = g (omega arith)
either_positive (suc a) b f g h = f (omega arith)

either_true : (a b : Bool) → (a || b) ≡ true → (a ≡ true) ⊎ (b ≡ true)
either_true true b h = inl refl
either_true false b h = inr h

positive_made : {Q : Type 0} (d : Def) (n p : ℕ) (f : ℕ → ℕ) → (Has p (own_parameters n d) → Q) → AtNamed d (λ k. 0 < f k → Q) → 0 < by_def (degree_algebra p) n d f → Q
positive_made {Q} Free n p f own s h =
    cond_both (2 * n == p || 2 * n + 1 == p) 1 0 (λ (d : ℕ). 0 < d → Q)
    (λ t g. ⊎_elim (λ u. own (inl (eqb-true (2 * n) p u))) (λ u. own (inr (inl (eqb-true (2 * n + 1) p u)))) (either_true (2 * n == p) (2 * n + 1 == p) t))
    (λ t g. absurd (omega arith)) h
positive_made (Fixed a b c) n p f own s h = absurd (omega arith)
positive_made {Q} (Cut k) n p f own s h = cond_both (2 * n == p) 1 (f k) (λ (d : ℕ). 0 < d → Q) (λ t g. own (inl (eqb-true (2 * n) p t))) (λ t g. s g) h
positive_made {Q} (Blend k m) n p f own s h =
    cond_both (2 * n == p) 1 (max (f k) (f m)) (λ (d : ℕ). 0 < d → Q) (λ t g. own (inl (eqb-true (2 * n) p t))) (λ t g. either_positive (f k) (f m) s.0 s.1 (omega arith)) h
positive_made (Cross k m) n p f own s h = either_positive (f k) (f m) s.0 s.1 h

pub has_parameter : (es : List Element) → IsConstruction es → (p n : ℕ) → 0 < degree_of es n p → Has p (parameters_of es)
has_parameter es c p =
    related es c (degree_algebra p) (degree_algebra p) (λ n d e. 0 < d → Has p (parameters_of es)) (λ n q h. absurd (omega arith))
    (λ n e q s h. positive_made e.def n p (computed (degree_algebra p) es) (has_own es n p e q) (at_named _ (λ k. 0 < degree_of es k p → Has p (parameters_of es)) e.def (λ k r. r.2) s) h)

pub statement_parameter : (es : List Element) → IsConstruction es → (s : Statement) (p : ℕ) → 0 < statement_degree es s p → Has p (parameters_of es)
statement_parameter es c (statement.Null n) p h = has_parameter es c p n h
statement_parameter es c (statement.Same n m) p h = either_positive _ _ (has_parameter es c p n) (has_parameter es c p m) h
statement_parameter es c (statement.On n m) p h = either_positive _ _ (has_parameter es c p n) (has_parameter es c p m) h
statement_parameter es c (statement.Triple n m k) p h = either_positive _ _ (either_positive _ _ (has_parameter es c p n) (has_parameter es c p m)) (has_parameter es c p k) h

is_first : (a : Axis) (axes : List Axis) → Contains (a ∷ axes) a
is_first a axes = (0, omega arith, refl)

is_later : (a b : Axis) (axes : List Axis) → Contains axes a → Contains (b ∷ axes) a
is_later a b axes h = (suc h.0, omega (arith, h.1), h.2)

has_axis : (degree : ℕ → ℕ) (ps : List ℕ) (p : ℕ) → Has p ps → 0 < degree p → Contains (axes_among degree ps) (axis p (degree p))
has_axis degree [] p h g = absurd h
has_axis degree (q ∷ ps) p h g =
    cond_both (nat_lt 0 (degree q)) (axis q (degree q) ∷ axes_among degree ps) (axes_among degree ps) (λ axes. Contains axes (axis p (degree p)))
    (λ t. ⊎_elim (λ e. subst (λ (r : ℕ). Contains (axis q (degree q) ∷ axes_among degree ps) (axis r (degree r))) e (is_first (axis q (degree q)) (axes_among degree ps))) (λ k. is_later (axis p (degree p)) (axis q (degree q)) (axes_among degree ps) (has_axis degree ps p k g)) h)
    (λ t. ⊎_elim (λ e. absurd (omega (arith, ltb-false 0 (degree q) t, ap degree e, g))) (λ k. has_axis degree ps p k g) h)

pub is_axis : (es : List Element) → IsConstruction es → (s : Statement) (p : ℕ) → 0 < statement_degree es s p → Contains (axes_of es s) (axis p (statement_degree es s p))
is_axis es c s p h = has_axis (statement_degree es s) (parameters_of es) p (statement_parameter es c s p h) h
