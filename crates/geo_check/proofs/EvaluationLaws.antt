-- What is evaluated of a statement: the triples of the elements that it needs, one after the other.
use Rattle.std.proofs.Common.{◌≡◌, ◌≢◌, ◌∙◌, sym, ap, subst, refl, inl, inr, ℕ, zero, suc, ◌+◌, ◌*◌, ◌<◌, ◌≤◌, max, Bool, true, false, Some, List, [], ◌∷◌, ◌++◌, length, get_or, set, take, map, ℤ, unsigned_abs, le_refl, le_trans, arith}
use Rattle.std.proofs.lemmas.Bool.{cases_eq}
use Rattle.std.proofs.lemmas.List.{get_or-set_same, get_or-set_other, get_or-map}
use Rattle.geo_triple.specs.declared.Triple.{Triple}
use Rattle.geo_triple.specs.Sums.{blend_sums, cross_sums, cut_sums, determinant_sum, dot_sum, largest_of, sizes_of}
use Rattle.geo_triple.specs.Triple.{cross_of, determinant_of, dot_of, zero_triple}
use Rattle.geo_sketch.specs.declared.elements.Def.{Def}
use Rattle.geo_sketch.specs.declared.elements.Def.TheVariants.{Free, Fixed, Cut, Blend, Cross}
use Rattle.geo_sketch.specs.declared.elements.Element.{Element}
use Rattle.geo_sketch.specs.declared.elements.Kind.TheVariants.{Point}
use Rattle.geo_sketch.specs.declared.statements.Statement.{Statement}
use Rattle.geo_sketch.specs.declared.statements.Statement.TheVariants as statement
use Rattle.geo_sketch.specs.Assignments.{magnitudes}
use Rattle.geo_sketch.specs.Constructions.{by_def, AtNamed, IsConstruction}
use Rattle.geo_sketch.specs.Dependence.{depends_on}
use Rattle.geo_sketch.specs.Heights.{statement_height}
use Rattle.geo_sketch.specs.Lookups.{numbered, IsLive}
use Rattle.geo_sketch.specs.Needs.{needs, stated, AtStated}
use Rattle.geo_sketch.specs.Sketches.{Drawing, IsDrawn}
use Rattle.geo_sketch.specs.declared.limits.TheConstants.{NUMBER_LIMIT}
use Rattle.geo_sketch.specs.Statements.{parts_at}
use Rattle.geo_triple.specs.Zero.{coordinates}
use Rattle.geo_sketch.specs.Tables.{place}
use Rattle.geo_sketch.specs.Triples.{triple_algebra, triple_at}
use Rattle.geo_sketch.proofs.ConstructionLaws.{at_named, both_named, by_def_same}
use Rattle.geo_sketch.proofs.LiveElements.{live_step}
use Rattle.geo_sketch.proofs.NeedLaws.{depends_on_named, needed_further, needs_named}
use Rattle.geo_sketch.proofs.NumberLaws.{number_found}
use Rattle.geo_sketch.proofs.SketchLaws.{constructed}
use Rattle.geo_sketch.proofs.StatementLaws.{at_stated}
use Rattle.geo_sketch.proofs.TableLaws.{found_at, number_at, place_before, place_within}
use Rattle.geo_height.specs.Bounds.{statement_sum, sums_by, IsWithin}
use Rattle.geo_triple.specs.declared.limits.TheConstants.{STATEMENT_LIMIT}
use Rattle.geo_height.proofs.HeightLaws.{statement_sum_below, sums_on_the_way}
use Rattle.geo_check.specs.Positions.{parts_of, triple_of, AreKnown}

-- ---- numbers
pub numbers_low : (drawing : Drawing) → IsDrawn drawing → (n : ℕ) (e : Element) → numbered drawing.elements n ≡ Some e → n < NUMBER_LIMIT
numbers_low drawing drawn n e q = omega (arith, drawn.given n e q, drawn.numbers_room)

pub number_low : (drawing : Drawing) (i : ℕ) (x : Element) → IsDrawn drawing → i < length drawing.elements → x ≡ get_or drawing.elements i x → x.number < NUMBER_LIMIT
number_low drawing i x drawn l same =
    let there = number_at 0 drawing.elements i x drawn.rising l in
    let low = numbers_low drawing drawn _ _ there.0 in
    subst (λ (y : Element). y.number < NUMBER_LIMIT) (sym same) low

-- the elements that an element names have numbers below the limit too
pub named_low : (drawing : Drawing) (i : ℕ) (x : Element) → IsDrawn drawing → i < length drawing.elements → x ≡ get_or drawing.elements i x → AtNamed x.def (λ k. k < NUMBER_LIMIT)
named_low drawing i x drawn l same =
    let es = drawing.elements in
    let there = number_at 0 es i x drawn.rising l in
    let e = get_or es i x in
    subst (λ (y : Element). AtNamed y.def (λ k. k < NUMBER_LIMIT)) (sym same)
    (at_named (λ k. (k < e.number) × IsLive es k) (λ k. k < NUMBER_LIMIT) e.def (λ k h. numbers_low drawing drawn k h.1.0 h.1.1) ((constructed drawing drawn).named e.number e there.0))

-- ---- sums of what is the same
sums_same : (v : ℕ → ℤ) (n : ℕ) (d : Def) (f g : ℕ → Triple) → AtNamed d (λ k. f k ≡ g k) → sums_by v n d f ≡ sums_by v n d g
sums_same v n Free f g h = refl
sums_same v n (Fixed a b c) f g h = refl
sums_same v n (Cut k) f g h = ap (λ t. cut_sums (sizes_of t) (unsigned_abs (v (2 * n)))) h
sums_same v n (Blend k m) f g h = λ i. blend_sums (sizes_of (h.0 i)) (sizes_of (h.1 i)) (unsigned_abs (v (2 * n)))
sums_same v n (Cross k m) f g h = λ i. cross_sums (sizes_of (h.0 i)) (sizes_of (h.1 i))

statement_sum_same : (s : Statement) (f g : ℕ → Triple) → AtStated s (λ n. f n ≡ g n) → statement_sum s f ≡ statement_sum s g
statement_sum_same (statement.Null n) f g h = ap (λ t. largest_of (sizes_of t)) h
statement_sum_same (statement.Same n m) f g h = λ i. largest_of (cross_sums (sizes_of (h.0 i)) (sizes_of (h.1 i)))
statement_sum_same (statement.On n m) f g h = λ i. dot_sum (sizes_of (h.0 i)) (sizes_of (h.1 i))
statement_sum_same (statement.Triple n m k) f g h = λ i. max (largest_of (cross_sums (sizes_of (h.1 i)) (sizes_of (h.2 i)))) (determinant_sum (sizes_of (h.0 i)) (sizes_of (h.1 i)) (sizes_of (h.2 i)))

parts_same : (es : List Element) (s : Statement) (v : ℕ → ℤ) (f : ℕ → Triple) → AtStated s (λ n. f n ≡ triple_at es n v) → parts_of s f ≡ parts_at es s v
parts_same es (statement.Null n) v f h = ap coordinates h
parts_same es (statement.Same n m) v f h = λ i. coordinates (cross_of (h.0 i) (h.1 i))
parts_same es (statement.On n m) v f h = λ i. dot_of (h.0 i) (h.1 i) ∷ []
parts_same es (statement.Triple n m k) v f h = λ i. determinant_of (h.0 i) (h.1 i) (h.2 i) ∷ []

-- ---- one element after the other
module _ (drawing : Drawing) (drawn : IsDrawn drawing) (s : Statement) (live : AtStated s (IsLive drawing.elements)) (v : ℕ → ℤ) where
  abbrev es : List Element
  es = drawing.elements

  c : IsConstruction es
  c = constructed drawing drawn

  itself_within : IsWithin v (magnitudes v)
  itself_within p = le_refl _

  -- the triples of what a needed element names are known
  named_known : (triples : List Triple) (n : ℕ) (e : Element) → numbered es n ≡ Some e → needs es s n ≡ true → AreKnown es s v triples (place es n) → AtNamed e.def (λ k. triple_of triples k ≡ triple_at es k v)
  named_known triples n e q need known =
      both_named (λ k. (k < n) × IsLive es k) (λ k. depends_on es n k ≡ true) (λ k. triple_of triples k ≡ triple_at es k v) e.def
      (λ k h d. known k h.1.0 h.1.1 (place_before 0 es k n h.1.0 e drawn.rising h.1.1 q h.0) (needed_further es c (stated s) n k need d))
      (c.named n e q) (depends_on_named es c n e q)

  -- so its own can be computed
  pub sums_low : (triples : List Triple) (i : ℕ) (x : Element) → i < length es → x ≡ get_or es i x → needs es s x.number ≡ true → AreKnown es s v triples i → statement_height es s (magnitudes v) ≤ STATEMENT_LIMIT → largest_of (sums_by v x.number x.def (triple_of triples)) ≤ STATEMENT_LIMIT
  sums_low triples i x l same need known low =
      let at = number_at 0 es i x drawn.rising l in
      let found : numbered es x.number ≡ Some x = rw same at.0 in
      let there : place es x.number ≡ i = rw same at.1 in
      subst (λ g. largest_of g ≤ STATEMENT_LIMIT)
      (sym (sums_same v x.number x.def (triple_of triples) (λ k. triple_at es k v) (named_known triples x.number x found need (subst (AreKnown es s v triples) (sym there) known))))
      (sums_on_the_way drawing drawn v (magnitudes v) itself_within s x.number x STATEMENT_LIMIT live low need found)

  pub known_more : (triples : List Triple) (i : ℕ) (x : Element) → i < length es → x ≡ get_or es i x → needs es s x.number ≡ true → x.number < length triples → AreKnown es s v triples i → AreKnown es s v (set triples x.number (by_def (triple_algebra v) x.number x.def (triple_of triples))) (i + 1)
  known_more triples i x l same need room known n f q within needed =
      let at = number_at 0 es i x drawn.rising l in
      let found : numbered es x.number ≡ Some x = rw same at.0 in
      let there : place es x.number ≡ i = rw same at.1 in
      let made = by_def (triple_algebra v) x.number x.def (triple_of triples) in
      elim (cases_eq n x.number) [
        | inl e ↦ (
            let value : made ≡ triple_at es x.number v
            = by_def_same (triple_algebra v) x.number x.def (triple_of triples) (λ k. triple_at es k v) (named_known triples x.number x found need (subst (AreKnown es s v triples) (sym there) known)) ∙ sym (live_step es c (triple_algebra v) x.number x found) in
            ap (λ k. get_or (set triples x.number made) k zero_triple) e ∙ get_or-set_same triples x.number made zero_triple room ∙ value ∙ ap (λ k. triple_at es k v) (sym e))
        | inr ne ↦ (
            let other : place es n ≢ i = λ h. ne (sym (number_found es n f q) ∙ ap (λ (y : Element). y.number) (sym (found_at es n f x q) ∙ ap (λ j. get_or es j x) h ∙ sym same)) in
            get_or-set_other triples x.number n made zero_triple ne ∙ known n f q (omega (arith, within, other)) needed)
      ]

  pub known_less : (triples : List Triple) (i : ℕ) (x : Element) → i < length es → needs es s (get_or es i x).number ≡ false → AreKnown es s v triples i → AreKnown es s v triples (i + 1)
  known_less triples i x l skip known n f q within needed =
      elim (cases_eq (place es n) i) [
        | inl e ↦ (
            let same : (get_or es i x).number ≡ n = ap (λ (y : Element). y.number) (ap (λ j. get_or es j x) (sym e) ∙ found_at es n f x q) ∙ number_found es n f q in
            let skipped : needs es s n ≡ false = ap (needs es s) (sym same) ∙ skip in
            cc)
        | inr ne ↦ known n f q (omega (arith, within, ne)) needed
      ]

  -- at the end those of the elements that the statement names are known
  pub stated_known : (triples : List Triple) → AreKnown es s v triples (length es) → AtStated s (λ n. triple_of triples n ≡ triple_at es n v)
  stated_known triples known =
      at_both (IsLive es) (λ n. needs es s n ≡ true) (λ n. triple_of triples n ≡ triple_at es n v) s (λ n h t. known n h.0 h.1 (place_within es n h.0 h.1) t) live (needs_named es c s)
    where
      at_both : (P Q R : ℕ → Type 0) (s : Statement) → ((n : ℕ) → P n → Q n → R n) → AtStated s P → AtStated s Q → AtStated s R
      at_both P Q R (statement.Null n) f p q = f n p q
      at_both P Q R (statement.Same n m) f p q = (f n p.0 q.0, f m p.1 q.1)
      at_both P Q R (statement.On n m) f p q = (f n p.0 q.0, f m p.1 q.1)
      at_both P Q R (statement.Triple n m k) f p q = (f n p.0 q.0, f m p.1 q.1, f k p.2 q.2)

  pub parts_known : (triples : List Triple) → AreKnown es s v triples (length es) → parts_of s (triple_of triples) ≡ parts_at es s v
  parts_known triples known = parts_same es s v (triple_of triples) (stated_known triples known)

  pub sum_low : (triples : List Triple) → AreKnown es s v triples (length es) → statement_height es s (magnitudes v) ≤ STATEMENT_LIMIT → statement_sum s (triple_of triples) ≤ STATEMENT_LIMIT
  sum_low triples known low =
      subst (λ k. k ≤ STATEMENT_LIMIT) (sym (statement_sum_same s (triple_of triples) (λ n. triple_at es n v) (stated_known triples known)))
      (le_trans (statement_sum_below es c v (magnitudes v) itself_within s live) low)

-- the elements that a statement names have numbers below the limit
pub stated_low : (drawing : Drawing) → IsDrawn drawing → (s : Statement) → AtStated s (IsLive drawing.elements) → (count : ℕ) → count ≡ NUMBER_LIMIT → AtStated s (λ n. n < count)
stated_low drawing drawn s live count room = at_stated (IsLive drawing.elements) (λ n. n < count) s (λ n h. omega (arith, numbers_low drawing drawn n h.0 h.1, room)) live

pub flag_at : (es : List Element) (s : Statement) (needed : List Bool) (i : ℕ) (x : Element) (d : Bool) → needed ≡ map (λ (e : Element). needs es s e.number) es → i < length es → get_or needed i d ≡ needs es s (get_or es i x).number
flag_at es s needed i x d same l = ap (λ flags. get_or flags i d) same ∙ get_or-map (λ (e : Element). needs es s e.number) es i x d l

-- an element, for places past the last one
pub no_element : Element
no_element = record { number = 0; name = []; kind = Point; def = Free }

pub flags_more : (es : List Element) (s : Statement) (i : ℕ) (x : Element) → i < length es → x ≡ get_or es i x → map (λ (e : Element). needs es s e.number) (take i es) ++ needs es s x.number ∷ [] ≡ map (λ (e : Element). needs es s e.number) (take (i + 1) es)
flags_more es s i x l same = ap (λ (y : Element). map (λ (e : Element). needs es s e.number) (take i es) ++ needs es s y.number ∷ []) same ∙ sym (map_more (λ (e : Element). needs es s e.number) es i x l)
  where
    map_more : (f : Element → Bool) (es : List Element) (i : ℕ) (d : Element) → i < length es → map f (take (i + 1) es) ≡ map f (take i es) ++ f (get_or es i d) ∷ []
    map_more f [] i d l = absurd (omega arith)
    map_more f (e ∷ es) zero d l = refl
    map_more f (e ∷ es) (suc i) d l =
        let next : suc i + 1 ≡ suc (i + 1) = omega arith in
        ap (λ n. map f (take n (e ∷ es))) next ∙ ap (λ bs. f e ∷ bs) (map_more f es i d (omega arith))
