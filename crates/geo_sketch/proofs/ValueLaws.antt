-- What is computed for an element is fixed by the definitions of all that it depends
-- on, and by what the algebra makes of those.
-- lemmas for other crates
use Rattle.std.proofs.Common.{◌≡◌, ◌≢◌, ◌∙◌, sym, ap, refl, ℕ, zero, suc, ◌<◌, ◌==◌, Bool, true, false, Option, None, Some, List, ℤ, pos, max, arith}
use Rattle.std.specs.Prelude.{◌||◌}
use Rattle.std.proofs.lemmas.Bool.{eq-eqb, ne_eqb}
use Rattle.geo_triple.specs.declared.Triple.{Triple}
use Rattle.geo_triple.specs.Triple.{blend_of, cut_of}
use Rattle.geo_triple.specs.Height.{blend_height, cut_height}
use Rattle.geo_triple.specs.Sums.{Sizes, of_sizes}
use Rattle.geo_sketch.specs.declared.elements.Def.{Def}
use Rattle.geo_sketch.specs.declared.elements.Def.TheVariants.{Free, Fixed, Cut, Blend, Cross}
use Rattle.geo_sketch.specs.declared.elements.Element.{Element}
use Rattle.geo_sketch.specs.Constructions.{Algebra, by_def, computed, by_found, AtNamed}
use Rattle.geo_sketch.proofs.ConstructionLaws.{IsBuilt, both_named, by_def_same, computed_step}
use Rattle.geo_sketch.specs.Lookups.{def_at, Rises}
use Rattle.geo_sketch.specs.Assignments.{first_parameter, second_parameter}
use Rattle.geo_sketch.specs.Heights.{heights_algebra, cut_heights, blend_heights}
use Rattle.geo_sketch.specs.PlainHeights.{plain_height_algebra}
use Rattle.geo_sketch.specs.Triples.{triple_algebra, triple_by, of_coordinates}
use Rattle.geo_sketch.specs.Dependence.{depends_algebra, depends_on}

-- two algebras make the same of element n, whatever its definition
abbrev pub AgreeAt : {X : Type 0} → Algebra X → Algebra X → ℕ → Type 0
AgreeAt {X} A B n = (A.absent n ≡ B.absent n) × ((d : Def) (f : ℕ → X) → by_def A n d f ≡ by_def B n d f)

or_right : (a b : Bool) → b ≡ true → (a || b) ≡ true
or_right true b h = refl
or_right false b h = h

or_left : (a b : Bool) → a ≡ true → (a || b) ≡ true
or_left true b h = refl
or_left false b h = cc

-- ---- dependence
own : (n : ℕ) (o : Option Def) (f : ℕ → Bool) → by_found (depends_algebra n) n o f ≡ true
own n None f = eq-eqb n n refl
own n (Some Free) f = eq-eqb n n refl
own n (Some (Fixed a b c)) f = eq-eqb n n refl
own n (Some (Cut k)) f = or_left (n == n) (f k) (eq-eqb n n refl)
own n (Some (Blend k m)) f = or_left (n == n) (f k || f m) (eq-eqb n n refl)
own n (Some (Cross k m)) f = or_left (n == n) (f k || f m) (eq-eqb n n refl)

-- what a named element depends on, the definition depends on
pub depends_named : (d : Def) (n : ℕ) (f : ℕ → ℕ → Bool) (P : ℕ → Type 0) → ((on : ℕ) → by_def (depends_algebra on) n d (f on) ≡ true → P on) → AtNamed d (λ k. (on : ℕ) → f on k ≡ true → P on)
depends_named Free n f P h = tt
depends_named (Fixed a b c) n f P h = tt
depends_named (Cut k) n f P h = λ on g. h on (or_right (n == on) (f on k) g)
depends_named (Blend k m) n f P h = (λ on g. h on (or_right (n == on) (f on k || f on m) (or_left (f on k) (f on m) g)), λ on g. h on (or_right (n == on) (f on k || f on m) (or_right (f on k) (f on m) g)))
depends_named (Cross k m) n f P h = (λ on g. h on (or_right (n == on) (f on k || f on m) (or_left (f on k) (f on m) g)), λ on g. h on (or_right (n == on) (f on k || f on m) (or_right (f on k) (f on m) g)))

module _ (es : List Element) (rising : Rises 0 es) (built : IsBuilt es) where
  pub depends_on_self : (n : ℕ) → depends_on es n n ≡ true
  depends_on_self n = computed_step (depends_algebra n) es rising built n ∙ own n (def_at es n) (computed (depends_algebra n) es)

  -- a definition that does not name n, of an element that is not n
  depends_on_none : (m n : ℕ) (d : Def) → m ≢ n → AtNamed d (λ k. depends_on es k n ≡ false) → by_def (depends_algebra n) m d (λ k. depends_on es k n) ≡ false
  depends_on_none m n Free ne h = ne_eqb m n ne
  depends_on_none m n (Fixed a b c) ne h = ne_eqb m n ne
  depends_on_none m n (Cut k) ne h = rw (ne_eqb m n ne) h
  depends_on_none m n (Blend k l) ne h = rw (ne_eqb m n ne, h.0) h.1
  depends_on_none m n (Cross k l) ne h = rw (ne_eqb m n ne, h.0) h.1

  independent_within : (n : ℕ) → ((m : ℕ) (d : Def) → def_at es m ≡ Some d → AtNamed d (λ k. k ≢ n)) → (bound m : ℕ) → m < bound → m ≢ n → depends_on es m n ≡ false
  independent_within n unnamed zero m h ne = absurd (omega arith)
  independent_within n unnamed (suc bound) m h ne =
      computed_step (depends_algebra n) es rising built m ∙ by_definition (def_at es m) refl (λ k less other. independent_within n unnamed bound k (omega arith) other)
    where
      by_definition : (o : Option Def) → def_at es m ≡ o → ((k : ℕ) → k < m → k ≢ n → depends_on es k n ≡ false) → by_found (depends_algebra n) m o (computed (depends_algebra n) es) ≡ false
      by_definition None q smaller = ne_eqb m n ne
      by_definition (Some d) q smaller = depends_on_none m n d ne (both_named (λ k. k < m) (λ k. k ≢ n) (λ k. depends_on es k n ≡ false) d smaller (built m d q) (unnamed m d q))

  -- no other element depends on one that no definition names
  pub independent : (n : ℕ) → ((m : ℕ) (d : Def) → def_at es m ≡ Some d → AtNamed d (λ k. k ≢ n)) → (m : ℕ) → m ≢ n → depends_on es m n ≡ false
  independent n unnamed m ne = independent_within n unnamed (suc m) m (omega arith) ne

  module _ {X : Type 0} (A B : Algebra X) (fs : List Element) (rising' : Rises 0 fs) (built' : IsBuilt fs) where
    abbrev SameFor : ℕ → Type 0
    SameFor n = (on : ℕ) → depends_on es n on ≡ true → (def_at es on ≡ def_at fs on) × AgreeAt A B on

    by_same : (n : ℕ) (o : Option Def) → def_at es n ≡ o → AgreeAt A B n → SameFor n → ((k : ℕ) → k < n → SameFor k → computed A es k ≡ computed B fs k) → by_found A n o (computed A es) ≡ by_found B n o (computed B fs)
    by_same n None h agree same smaller = agree.0
    by_same n (Some d) h agree same smaller =
        let named = depends_named d n (λ on. computed (depends_algebra on) es) (λ on. (def_at es on ≡ def_at fs on) × AgreeAt A B on) (λ on g. same on (computed_step (depends_algebra on) es rising built n ∙ rw h g)) in
        let each = both_named (λ k. k < n) SameFor (λ k. computed A es k ≡ computed B fs k) d smaller (built n d h) named in
        by_def_same A n d (computed A es) (computed B fs) each ∙ agree.1 d (computed B fs)

    same_within : (bound n : ℕ) → n < bound → SameFor n → computed A es n ≡ computed B fs n
    same_within zero n h same = absurd (omega arith)
    same_within (suc bound) n h same =
        let here = same n (depends_on_self n) in
        computed_step A es rising built n ∙ by_same n (def_at es n) refl here.1 same (λ k less s. same_within bound k (omega arith) s)
        ∙ ap (λ o. by_found B n o (computed B fs)) here.0 ∙ sym (computed_step B fs rising' built' n)

    -- two lists that agree on the definitions of all that n depends on, and two
    -- algebras that agree there, give n the same
    pub computed_same : (n : ℕ) → SameFor n → computed A es n ≡ computed B fs n
    computed_same n same = same_within (suc n) n (omega arith) same

-- an algebra agrees with itself
pub agree_itself : {X : Type 0} (A : Algebra X) (n : ℕ) → AgreeAt A A n
agree_itself A n = (refl, λ d f. refl)

-- where two assignments agree on the parameters of element n, so do the triples, the
-- heights and the plain heights that they make of it
pub triples_agree : (v w : ℕ → ℤ) (n : ℕ) → v (first_parameter n) ≡ w (first_parameter n) → v (second_parameter n) ≡ w (second_parameter n) → AgreeAt (triple_algebra v) (triple_algebra w) n
triples_agree v w n h g = (refl, by_definition)
  where
    by_definition : (d : Def) (f : ℕ → Triple) → by_def (triple_algebra v) n d f ≡ by_def (triple_algebra w) n d f
    by_definition Free f = λ i. of_coordinates (h i) (g i) (pos 1)
    by_definition (Fixed a b c) f = refl
    by_definition (Cut k) f = ap (cut_of (f k)) h
    by_definition (Blend k m) f = ap (blend_of (f k) (f m)) h
    by_definition (Cross k m) f = refl

pub heights_agree : (v w : ℕ → ℕ) (n : ℕ) → v (first_parameter n) ≡ w (first_parameter n) → v (second_parameter n) ≡ w (second_parameter n) → AgreeAt (heights_algebra v) (heights_algebra w) n
heights_agree v w n h g = (refl, by_definition)
  where
    by_definition : (d : Def) (f : ℕ → Sizes) → by_def (heights_algebra v) n d f ≡ by_def (heights_algebra w) n d f
    by_definition Free f = λ i. of_sizes (max 1 (h i)) (max 1 (g i)) 1
    by_definition (Fixed a b c) f = refl
    by_definition (Cut k) f = ap (cut_heights (f k)) h
    by_definition (Blend k m) f = ap (blend_heights (f k) (f m)) h
    by_definition (Cross k m) f = refl

pub plain_heights_agree : (v w : ℕ → ℕ) (n : ℕ) → v (first_parameter n) ≡ w (first_parameter n) → v (second_parameter n) ≡ w (second_parameter n) → AgreeAt (plain_height_algebra v) (plain_height_algebra w) n
plain_heights_agree v w n h g = (refl, by_definition)
  where
    by_definition : (d : Def) (f : ℕ → ℕ) → by_def (plain_height_algebra v) n d f ≡ by_def (plain_height_algebra w) n d f
    by_definition Free f = λ i. max 1 (max (h i) (g i))
    by_definition (Fixed a b c) f = refl
    by_definition (Cut k) f = ap (cut_height (f k)) h
    by_definition (Blend k m) f = ap (blend_height (f k) (f m)) h
    by_definition (Cross k m) f = refl

-- the triple of a definition, by the values of its own parameters
pub triple_by_def : (v : ℕ → ℤ) (n : ℕ) (d : Def) (triples : ℕ → Triple) → by_def (triple_algebra v) n d triples ≡ triple_by d (v (first_parameter n)) (v (second_parameter n)) triples
triple_by_def v n Free triples = refl
triple_by_def v n (Fixed a b c) triples = refl
triple_by_def v n (Cut k) triples = refl
triple_by_def v n (Blend k m) triples = refl
triple_by_def v n (Cross k m) triples = refl
