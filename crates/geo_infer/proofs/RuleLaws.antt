-- The identity of each rule, over the elements of a sketch.
use Rattle.std.proofs.Common.{◌≡◌, ◌≢◌, ◌⊎◌, ⊎_elim, inl, inr, refl, ap, ℕ, zero, suc, ℤ, pos, negsuc, ◌*ℤ◌, List, [], ◌∷◌, map, arith}
use Rattle.std.proofs.lemmas.Int.{ints}
use Rattle.geo_algebra.proofs.Integers.{zero_from_product}
use Rattle.geo_triple.specs.declared.Triple.{Triple}
use Rattle.geo_sketch.specs.declared.elements.Element.{Element}
use Rattle.geo_sketch.specs.declared.statements.Statement.{Statement}
use Rattle.geo_sketch.specs.declared.statements.Statement.TheVariants as statement
use Rattle.geo_sketch.specs.Statements.{parts_at}
use Rattle.geo_triple.specs.Zero.{AreZero}
use Rattle.geo_sketch.specs.Triples.{triple_at}
use Rattle.geo_infer.specs.declared.rules.Rule.{Rule}
use Rattle.geo_infer.specs.declared.rules.Rule.TheVariants.{Span, Extend, Lie, Unique, Move}
use Rattle.geo_infer.specs.Products.{AreAllZero, AreZeroProducts, AreZeroTimes}
use Rattle.geo_infer.specs.Shapes.{rising, shape_by}
use Rattle.geo_infer.proofs.Identities.{span, extend, lie, unique, move}
use Rattle.geo_infer.proofs.Orders.{null_as_said, null_rising}

-- ---- products that are 0
pub zero_or_not : (z : ℤ) → (z ≡ pos 0) ⊎ (z ≢ pos 0)
zero_or_not (pos zero) = inl refl
zero_or_not (pos (suc n)) = inr (λ (e : pos (suc n) ≡ pos 0). omega (arith, ints))
zero_or_not (negsuc n) = inr (λ (e : negsuc n ≡ pos 0). omega (arith, ints))

others_zero : (d : ℤ) (cs : List ℤ) → d ≢ pos 0 → AreZeroTimes d cs → AreZero cs
others_zero d [] n h = tt
others_zero d (c ∷ cs) n h = (zero_from_product d c n h.0, others_zero d cs n h.1)

-- all of the one or all of the other are 0
pub one_is_zero : (ds cs : List ℤ) → AreZeroProducts ds cs → AreZero ds ⊎ AreZero cs
one_is_zero [] cs h = inl tt
one_is_zero (d ∷ ds) cs h =
    elim (zero_or_not d) [
      | inl z ↦ ⊎_elim (λ g. inl (z, g)) (λ g. inr g) (one_is_zero ds cs h.1)
      | inr n ↦ inr (others_zero d cs n h.0)
    ]

times_zero : (d : ℤ) (cs : List ℤ) → AreZero cs → AreZeroTimes d cs
times_zero d [] h = tt
times_zero d (c ∷ cs) h =
    let product : d *ℤ c ≡ d *ℤ pos 0 = ap (λ z. d *ℤ z) h.0 in
    (omega (arith, ints, product), times_zero d cs h.1)

zero_times : (cs : List ℤ) (d : ℤ) → d ≡ pos 0 → AreZeroTimes d cs
zero_times [] d z = tt
zero_times (c ∷ cs) d z =
    let product : d *ℤ c ≡ pos 0 *ℤ c = ap (λ y. y *ℤ c) z in
    (omega (arith, ints, product), zero_times cs d z)

pub zero_products : (ds cs : List ℤ) → AreZero ds ⊎ AreZero cs → AreZeroProducts ds cs
zero_products [] cs h = tt
zero_products (d ∷ ds) cs (inl h) = (zero_times cs d h.0, zero_products ds cs (inl h.1))
zero_products (d ∷ ds) cs (inr h) = (times_zero d cs h, zero_products ds cs (inr h))

-- ---- the rules
module _ (es : List Element) (v : ℕ → ℤ) where
  abbrev at : ℕ → Triple
  at n = triple_at es n v

  abbrev IsNull : Statement → Type 0
  IsNull s = AreZero (parts_at es s v)

  ordered : (side conclusion : Statement) → AreZeroProducts (parts_at es side v) (parts_at es conclusion v) → AreZeroProducts (parts_at es (rising side) v) (parts_at es (rising conclusion) v)
  ordered side conclusion h =
      zero_products (parts_at es (rising side) v) (parts_at es (rising conclusion) v)
      (⊎_elim (λ z. inl (null_rising es v side z)) (λ z. inr (null_rising es v conclusion z)) (one_is_zero (parts_at es side v) (parts_at es conclusion v) h))

  said : (s : Statement) → IsNull (rising s) → IsNull s
  said s h = null_as_said es v s h

  pub by_rule : (rule : Rule) (a b c d : ℕ) → AreAllZero es (shape_by rule a b c d).premises v → AreZeroProducts (parts_at es (shape_by rule a b c d).side v) (parts_at es (shape_by rule a b c d).conclusion v)
  by_rule Span p q r l h =
      ordered (statement.Null l) (statement.Triple p q r)
      (span (at p) (at q) (at r) (at l) (said (statement.On p l) h.0).0 (said (statement.On q l) h.1.0).0 (said (statement.On r l) h.1.1.0).0)
  by_rule Extend p q r s h =
      ordered (statement.Same p q) (statement.Triple p r s)
      (extend (at p) (at q) (at r) (at s) (said (statement.Triple p q r) h.0).0 (said (statement.Triple p q s) h.1.0).0)
  by_rule Lie p q r l h =
      ordered (statement.Same p q) (statement.On r l)
      (lie (at p) (at q) (at r) (at l) (said (statement.Triple p q r) h.0).0 (said (statement.On p l) h.1.0).0 (said (statement.On q l) h.1.1.0).0)
  by_rule Unique p q l m h =
      ordered (statement.Same l m) (statement.Same p q)
      (unique (at p) (at q) (at l) (at m) (said (statement.On p l) h.0).0 (said (statement.On p m) h.1.0).0 (said (statement.On q l) h.1.1.0).0 (said (statement.On q m) h.1.1.1.0).0)
  by_rule Move p q l none h =
      ordered (statement.Null p) (statement.On q l)
      (move (at p) (at q) (at l) (said (statement.Same p q) h.0) (said (statement.On p l) h.1.0).0)
