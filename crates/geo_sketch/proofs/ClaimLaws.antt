-- What is said is a statement about live elements of fitting kinds, and a sketch with
-- one more claim is a sketch.
-- lemmas for other crates
use Rattle.std.proofs.Common.{◌≡◌, ◌≢◌, ◌∙◌, ap, subst, refl, inl, inr, ℕ, ◌<◌, ◌==◌, ◌++◌, if◌then◌else◌, Bool, true, false, Option, None, Some, option_map, List, [], ◌∷◌, length, arith, length-append, min, max, suc, zero}
use Rattle.std.specs.Prelude.{Result, Ok, Err, ◌&&◌, ◌||◌, nat_le, Contains}
use Rattle.std.proofs.lemmas.Bool.{cond_both, cases_lt, eqb-false, eq-eqb}
use Rattle.std.proofs.lemmas.Bool.Decides.{nat_tests}
use Rattle.geo_sketch.specs.declared.changes.Delta.TheVariants as delta
use Rattle.geo_sketch.specs.declared.changes.Refusal.{Refusal}
use Rattle.geo_sketch.specs.declared.changes.Refusal.TheVariants as refusal
use Rattle.geo_sketch.specs.declared.elements.Kind.{Kind}
use Rattle.geo_sketch.specs.declared.elements.Kind.TheVariants.{Point, Line}
use Rattle.geo_sketch.specs.declared.elements.Setting.{Setting}
use Rattle.geo_sketch.specs.declared.elements.Element.{Element}
use Rattle.geo_sketch.specs.declared.statements.Statement.{Statement}
use Rattle.geo_sketch.specs.declared.statements.Statement.TheVariants as statement
use Rattle.geo_sketch.specs.declared.statements.Said.{Said}
use Rattle.geo_sketch.specs.declared.statements.Said.TheVariants as said
use Rattle.geo_sketch.specs.Sketches.{Drawing, IsDrawn, IsPosed, ArePosed, IsSketch}
use Rattle.geo_sketch.specs.declared.limits.TheConstants.{CLAIM_LIMIT}
use Rattle.geo_sketch.specs.Lookups.{kind_at, Rises, find_named}
use Rattle.geo_sketch.specs.Changes.{LeadsFrom}
use Rattle.geo_sketch.specs.Additions.{same_kind}
use Rattle.geo_sketch.specs.Claims.{null_meant, same_meant, on_meant, triple_meant, meaning_of, in_order, least, middle, greatest, same_statement, is_claimed, claiming, claiming_ordered, claim_of, ordered, resolved, resolution_of}
use Rattle.geo_sketch.proofs.AdditionLaws.{found_by_name, same_kinds}

-- ---- what is said fits, in any order of its numbers
abbrev pub IsFitting : List Element → Statement → Type 0
IsFitting es (statement.Null n) = (kind : Kind) × (kind_at es n ≡ Some kind)
IsFitting es (statement.Same n m) = (kind : Kind) × ((kind_at es n ≡ Some kind) × (kind_at es m ≡ Some kind))
IsFitting es (statement.On n m) = (kind_at es n ≡ Some Point) × (kind_at es m ≡ Some Line)
IsFitting es (statement.Triple n m k) = (kind : Kind) × ((kind_at es n ≡ Some kind) × (kind_at es m ≡ Some kind) × (kind_at es k ≡ Some kind))

module _ (es : List Element) (rises : Rises 0 es) where
  kind_found : (name : List ℕ) (p : Element) → find_named es name ≡ Some p → kind_at es p.number ≡ Some p.kind
  kind_found name p q = ap (option_map (λ (e : Element). e.kind)) (found_by_name 0 es name p rises q).0

  kind_wanted : (name : List ℕ) (p : Element) (wanted : Kind) → find_named es name ≡ Some p → same_kind p.kind wanted ≡ true → kind_at es p.number ≡ Some wanted
  kind_wanted name p wanted q t = kind_found name p q ∙ ap Some (same_kinds p.kind wanted t)

  null_fits : (a : List ℕ) (s : Statement) → null_meant (find_named es a) ≡ Ok s → IsFitting es s
  null_fits a s h = by_found (find_named es a) refl h
    where
      by_found : (o : Option Element) → find_named es a ≡ o → null_meant o ≡ Ok s → IsFitting es s
      by_found None q g = cc
      by_found (Some p) q g = let same : statement.Null p.number ≡ s = cc in subst (λ (s : Statement). IsFitting es s) same (p.kind, kind_found a p q)

  same_fits : (a b : List ℕ) (s : Statement) → same_meant (find_named es a) (find_named es b) ≡ Ok s → IsFitting es s
  same_fits a b s h = by_found (find_named es a) (find_named es b) refl refl h
    where
      by_found : (o u : Option Element) → find_named es a ≡ o → find_named es b ≡ u → same_meant o u ≡ Ok s → IsFitting es s
      by_found None u q r g = cc
      by_found (Some p) None q r g = cc
      by_found (Some p) (Some o) q r g = by_kind (same_kind p.kind o.kind) refl g
        where
          by_kind : (t : Bool) → same_kind p.kind o.kind ≡ t → (if t then Ok (statement.Same p.number o.number) else Err refusal.Kind) ≡ Ok s → IsFitting es s
          by_kind true t g = let same : statement.Same p.number o.number ≡ s = cc in subst (λ (s : Statement). IsFitting es s) same (o.kind, (kind_wanted a p o.kind q t, kind_found b o r))
          by_kind false t g = cc

  on_fits : (a b : List ℕ) (s : Statement) → on_meant (find_named es a) (find_named es b) ≡ Ok s → IsFitting es s
  on_fits a b s h = by_found (find_named es a) (find_named es b) refl refl h
    where
      by_found : (o u : Option Element) → find_named es a ≡ o → find_named es b ≡ u → on_meant o u ≡ Ok s → IsFitting es s
      by_found None u q r g = cc
      by_found (Some p) None q r g = cc
      by_found (Some p) (Some o) q r g = by_kinds (same_kind p.kind Point) (same_kind o.kind Line) refl refl g
        where
          by_kinds : (t u : Bool) → same_kind p.kind Point ≡ t → same_kind o.kind Line ≡ u → (if t && u then Ok (statement.On p.number o.number) else Err refusal.Kind) ≡ Ok s → IsFitting es s
          by_kinds true true t u g = let same : statement.On p.number o.number ≡ s = cc in subst (λ (s : Statement). IsFitting es s) same (kind_wanted a p Point q t, kind_wanted b o Line r u)
          by_kinds true false t u g = cc
          by_kinds false u t v g = cc

  triple_fits : (wanted : Kind) (a b c : List ℕ) (s : Statement) → triple_meant wanted (find_named es a) (find_named es b) (find_named es c) ≡ Ok s → IsFitting es s
  triple_fits wanted a b c s h = by_found (find_named es a) (find_named es b) (find_named es c) refl refl refl h
    where
      by_found : (o u v : Option Element) → find_named es a ≡ o → find_named es b ≡ u → find_named es c ≡ v → triple_meant wanted o u v ≡ Ok s → IsFitting es s
      by_found None u v q r w g = cc
      by_found (Some p) None v q r w g = cc
      by_found (Some p) (Some o) None q r w g = cc
      by_found (Some p) (Some o) (Some e) q r w g = by_kinds (same_kind p.kind wanted) (same_kind o.kind wanted) (same_kind e.kind wanted) refl refl refl g
        where
          by_kinds : (t u v : Bool) → same_kind p.kind wanted ≡ t → same_kind o.kind wanted ≡ u → same_kind e.kind wanted ≡ v → (if t && (u && v) then Ok (statement.Triple p.number o.number e.number) else Err refusal.Kind) ≡ Ok s → IsFitting es s
          by_kinds true true true t u v g = let same : statement.Triple p.number o.number e.number ≡ s = cc in subst (λ (s : Statement). IsFitting es s) same (wanted, (kind_wanted a p wanted q t, kind_wanted b o wanted r u, kind_wanted c e wanted w v))
          by_kinds true true false t u v g = cc
          by_kinds true false v t u w g = cc
          by_kinds false u v t w x g = cc

  meaning_fits : (x : Said) (s : Statement) → meaning_of es x ≡ Ok s → IsFitting es s
  meaning_fits (said.Null a) s h = null_fits a s h
  meaning_fits (said.Same a b) s h = same_fits a b s h
  meaning_fits (said.On a b) s h = on_fits a b s h
  meaning_fits (said.Collinear a b c) s h = triple_fits Point a b c s h
  meaning_fits (said.Concurrent a b c) s h = triple_fits Line a b c s h

-- ---- put in order it is posed
min_keeps : (P : ℕ → Type 0) (n m : ℕ) → P n → P m → P (min n m)
min_keeps P n m h g =
    elim (cases_lt n m) [
      | inl q ↦ (let same : n ≡ min n m = omega arith in subst P same h)
      | inr q ↦ (let same : m ≡ min n m = omega arith in subst P same g)
    ]

max_keeps : (P : ℕ → Type 0) (n m : ℕ) → P n → P m → P (max n m)
max_keeps P n m h g =
    elim (cases_lt n m) [
      | inl q ↦ (let same : m ≡ max n m = omega arith in subst P same g)
      | inr q ↦ (let same : n ≡ max n m = omega arith in subst P same h)
    ]

posed_on : (es : List Element) (n m : ℕ) → n ≢ m → kind_at es n ≡ Some Point → kind_at es m ≡ Some Line → IsPosed es (statement.On (min n m) (max n m))
posed_on es n m ne h g =
    elim (cases_lt n m) [
      | inl q ↦ (let low : min n m ≡ n = omega arith in let high : max n m ≡ m = omega arith in rw (low, high) (q, (Point, (h, g))))
      | inr q ↦ (let low : min n m ≡ m = omega arith in let high : max n m ≡ n = omega arith in
          let less : m < n = omega arith in rw (low, high) (less, (Line, (g, h))))
    ]

posed_triple : (es : List Element) (n m k : ℕ) (kind : Kind) → n ≢ m → n ≢ k → m ≢ k → kind_at es n ≡ Some kind → kind_at es m ≡ Some kind → kind_at es k ≡ Some kind → IsPosed es (statement.Triple (least n m k) (middle n m k) (greatest n m k))
posed_triple es n m k kind a b c h g f =
    let P : ℕ → Type 0 = λ i. kind_at es i ≡ Some kind in
    let first : least n m k < middle n m k = omega arith in
    let second : middle n m k < greatest n m k = omega arith in
    (first, second, (kind, (min_keeps P n (min m k) h (min_keeps P m k g f), max_keeps P (min n m) (min (max n m) k) (min_keeps P n m h g) (min_keeps P (max n m) k (max_keeps P n m h g) f), max_keeps P n (max m k) h (max_keeps P m k g f))))

pub order_posed : (es : List Element) (s c : Statement) → IsFitting es s → in_order s ≡ Some c → IsPosed es c
order_posed es (statement.Null n) c h o = let same : statement.Null n ≡ c = cc in subst (λ (c : Statement). IsPosed es c) same h
order_posed es (statement.Same n m) c h o =
    cond_both (n == m) None (Some (statement.Same (min n m) (max n m))) (λ o. o ≡ Some c → IsPosed es c)
    (λ t g. cc)
    (λ t g. let same : statement.Same (min n m) (max n m) ≡ c = cc in
    let P : ℕ → Type 0 = λ i. kind_at es i ≡ Some h.0 in
    let less : min n m < max n m = omega (arith, eqb-false n m t) in
    subst (λ (c : Statement). IsPosed es c) same (less, (h.0, (min_keeps P n m h.1.0 h.1.1, max_keeps P n m h.1.0 h.1.1))))
    o
order_posed es (statement.On n m) c h o =
    cond_both (n == m) None (Some (statement.On (min n m) (max n m))) (λ o. o ≡ Some c → IsPosed es c)
    (λ t g. cc)
    (λ t g. let same : statement.On (min n m) (max n m) ≡ c = cc in
    subst (λ (c : Statement). IsPosed es c) same (posed_on es n m (eqb-false n m t) h.0 h.1))
    o
order_posed es (statement.Triple n m k) c h o = by_tests (n == m) (n == k) (m == k) refl refl refl o
  where
    by_tests : (t u v : Bool) → (n == m) ≡ t → (n == k) ≡ u → (m == k) ≡ v → (if t || (u || v) then None else Some (statement.Triple (least n m k) (middle n m k) (greatest n m k))) ≡ Some c → IsPosed es c
    by_tests true u v t r w g = cc
    by_tests false true v t r w g = cc
    by_tests false false true t r w g = cc
    by_tests false false false t r w g =
        let same : statement.Triple (least n m k) (middle n m k) (greatest n m k) ≡ c = cc in
        subst (λ (c : Statement). IsPosed es c) same (posed_triple es n m k h.0 (eqb-false n m t) (eqb-false n k r) (eqb-false m k w) h.1.0 h.1.1 h.1.2)

-- ---- a sketch with one more claim
same_itself : (c : Statement) → same_statement c c ≡ true
same_itself (statement.Null n) = rw (eq-eqb n n refl) refl
same_itself (statement.Same n m) = rw (eq-eqb n n refl, eq-eqb m m refl) refl
same_itself (statement.On n m) = rw (eq-eqb n n refl, eq-eqb m m refl) refl
same_itself (statement.Triple n m k) = rw (eq-eqb n n refl, eq-eqb m m refl, eq-eqb k k refl) refl

pub neither : (a b : Bool) → (a || b) ≡ false → (a ≡ false) × (b ≡ false)
neither true b h = cc
neither false b h = (refl, h)

pub unclaimed : (cs : List Statement) (c : Statement) → is_claimed cs c ≡ false → Contains cs c → ⊥
unclaimed [] c h within = absurd (omega (arith, within.1))
unclaimed (x ∷ xs) c h (zero, less, found) = let same : x ≡ c = found in let itself = same_itself c in cc
unclaimed (x ∷ xs) c h (suc i, less, found) = unclaimed xs c (neither (same_statement x c) (is_claimed xs c) h).1 (i, omega arith, found)

one_more_posed : (es : List Element) (cs : List Statement) (c : Statement) → ArePosed es cs → IsPosed es c → ArePosed es (cs ++ c ∷ [])
one_more_posed es [] c h g = (g, tt)
one_more_posed es (x ∷ xs) c h g = (h.0, one_more_posed es xs c h.1 g)

pub claimed_drawn : (es : List Element) (ss : List Setting) (cs : List Statement) (c : Statement) → IsSketch es ss cs → IsPosed es c → length cs < CLAIM_LIMIT → IsSketch es ss (cs ++ c ∷ [])
claimed_drawn es ss cs c sketch posed room = record {
  rising = sketch.rising;
  given = sketch.given;
  each = sketch.each;
  apart = sketch.apart;
  posed = one_more_posed es cs c sketch.posed posed;
  elements_room = sketch.elements_room;
  parameters_room = sketch.parameters_room;
  numbers_room = sketch.numbers_room;
  claims_room = omega (arith, room, length-append cs (c ∷ []));
}

pub claim_leads : (drawing : Drawing) (x : Said) (c : Statement) → IsDrawn drawing → claim_of drawing x ≡ Ok (delta.Claimed c) → LeadsFrom drawing (delta.Claimed c)
claim_leads drawing x c sketch h = by_meaning (meaning_of drawing.elements x) refl h
  where
    by_order : (s : Statement) (o : Option Statement) → IsFitting drawing.elements s → in_order s ≡ o → length drawing.claims < CLAIM_LIMIT → claiming_ordered drawing.claims o ≡ Ok (delta.Claimed c) → LeadsFrom drawing (delta.Claimed c)
    by_order s None fits q room g = cc
    by_order s (Some o) fits q room g =
        cond_both (is_claimed drawing.claims o) (Err refusal.Repeat) (Ok (delta.Claimed o)) (λ r. r ≡ Ok (delta.Claimed c) → LeadsFrom drawing (delta.Claimed c))
        (λ t k. cc)
        (λ t k. let same : o ≡ c = cc in
        subst (λ (c : Statement). LeadsFrom drawing (delta.Claimed c)) same
        record { records = unclaimed drawing.claims o t; drawn = claimed_drawn drawing.elements drawing.settings drawing.claims o sketch (order_posed drawing.elements s o fits q) room })
        g

    by_meaning : (r : Result Statement Refusal) → meaning_of drawing.elements x ≡ r → claiming drawing.claims r ≡ Ok (delta.Claimed c) → LeadsFrom drawing (delta.Claimed c)
    by_meaning (Err r) q g = cc
    by_meaning (Ok s) q g =
        cond_both (nat_le CLAIM_LIMIT (length drawing.claims)) (Err refusal.Full) (claiming_ordered drawing.claims (in_order s)) (λ r. r ≡ Ok (delta.Claimed c) → LeadsFrom drawing (delta.Claimed c))
        (λ t k. cc)
        (λ t k. by_order s (in_order s) (meaning_fits drawing.elements sketch.rising x s q) refl (grind (arith, nat_tests)) k)
        g

-- what is resolved is posed
pub resolution_posed : (drawing : Drawing) (x : Said) (c : Statement) → IsDrawn drawing → resolution_of drawing x ≡ Ok c → IsPosed drawing.elements c
resolution_posed drawing x c sketch h = by_meaning (meaning_of drawing.elements x) refl h
  where
    by_order : (s : Statement) (o : Option Statement) → IsFitting drawing.elements s → in_order s ≡ o → ordered o ≡ Ok c → IsPosed drawing.elements c
    by_order s None fits q g = cc
    by_order s (Some o) fits q g = let same : o ≡ c = cc in subst (λ (c : Statement). IsPosed drawing.elements c) same (order_posed drawing.elements s o fits q)

    by_meaning : (r : Result Statement Refusal) → meaning_of drawing.elements x ≡ r → resolved r ≡ Ok c → IsPosed drawing.elements c
    by_meaning (Err r) q g = cc
    by_meaning (Ok s) q g = by_order s (in_order s) (meaning_fits drawing.elements sketch.rising x s q) refl g
