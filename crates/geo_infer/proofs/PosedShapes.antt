-- What a step asks for is posed in the sketch.
use Rattle.std.proofs.Common.{◌≡◌, ◌≢◌, ◌∙◌, ap, sym, subst, inl, inr, refl, ℕ, ◌<◌, ◌==◌, if◌then◌else◌, Bool, true, false, Option, None, Some, option_map, List, [], ◌∷◌, min, max, arith}
use Rattle.std.specs.Prelude.{Result, Ok, Err, IfOk, ◌&&◌, ◌||◌}
use Rattle.std.proofs.lemmas.Bool.{and_parts, cases_lt, eqb-false, ne_eqb}
use Rattle.geo_sketch.specs.declared.changes.Refusal.{Refusal}
use Rattle.geo_sketch.specs.declared.changes.Refusal.TheVariants as refusal
use Rattle.geo_sketch.specs.declared.elements.Element.{Element}
use Rattle.geo_sketch.specs.declared.elements.Kind.{Kind}
use Rattle.geo_sketch.specs.declared.elements.Kind.TheVariants.{Point, Line}
use Rattle.geo_sketch.specs.declared.statements.Statement.{Statement}
use Rattle.geo_sketch.specs.declared.statements.Statement.TheVariants as statement
use Rattle.geo_sketch.specs.Additions.{same_kind}
use Rattle.geo_sketch.specs.Claims.{in_order, least, middle, greatest}
use Rattle.geo_sketch.specs.Lookups.{find_named, kind_at, Rises}
use Rattle.geo_sketch.specs.Sketches.{other, IsPosed}
use Rattle.geo_sketch.proofs.AdditionLaws.{found_by_name, same_kinds}
use Rattle.geo_sketch.proofs.ClaimLaws.{neither, order_posed}
use Rattle.geo_infer.specs.declared.rules.Rule.{Rule}
use Rattle.geo_infer.specs.declared.rules.Rule.TheVariants.{Span, Extend, Lie, Unique, Move}
use Rattle.geo_infer.specs.declared.rules.SaidStep.{SaidStep}
use Rattle.geo_infer.specs.declared.shapes.Shape.{Shape}
use Rattle.geo_infer.specs.Shapes.{IsPosedShape, fits, fourth_kind, fourth_said, repeats, rising, rising_on, rising_same, rising_triple, shape_by, shape_found, shape_of, shape_unless, third_kind}
use Rattle.geo_infer.specs.Words.{names_four}

other_twice : (kind : Kind) → other (other kind) ≡ kind
other_twice Point = refl
other_twice Line = refl

-- ---- statements, put in rising order
module _ (es : List Element) where
  posed_same : (n m : ℕ) (kind : Kind) → n ≢ m → kind_at es n ≡ Some kind → kind_at es m ≡ Some kind → IsPosed es (rising_same n m)
  posed_same n m kind ne h g = order_posed es (statement.Same n m) (rising_same n m) (kind, (h, g)) (rw (ne_eqb n m ne) refl)

  posed_triple : (n m k : ℕ) (kind : Kind) → n ≢ m → n ≢ k → m ≢ k → kind_at es n ≡ Some kind → kind_at es m ≡ Some kind → kind_at es k ≡ Some kind → IsPosed es (rising_triple n m k)
  posed_triple n m k kind a b c h g f = order_posed es (statement.Triple n m k) (rising_triple n m k) (kind, (h, g, f)) (rw (ne_eqb n m a, ne_eqb n k b, ne_eqb m k c) refl)

  posed_on : (n m : ℕ) (kind : Kind) → n ≢ m → kind_at es n ≡ Some kind → kind_at es m ≡ Some (other kind) → IsPosed es (rising_on n m)
  posed_on n m kind ne h g =
      elim (cases_lt n m) [
        | inl q ↦ (let low : min n m ≡ n = omega arith in let high : max n m ≡ m = omega arith in rw (low, high) (q, (kind, (h, g))))
        | inr q ↦ (let low : min n m ≡ m = omega arith in let high : max n m ≡ n = omega arith in
            let less : m < n = omega (arith, ne) in
            rw (low, high) (less, (other kind, (g, h ∙ ap Some (sym (other_twice kind))))))
      ]

  -- ---- each rule
  posed_by : (rule : Rule) (a b c d : ℕ) (kind : Kind) → kind_at es a ≡ Some kind → kind_at es b ≡ Some kind → kind_at es c ≡ Some (third_kind rule kind) → kind_at es d ≡ Some (fourth_kind rule kind)
      → a ≢ b → a ≢ c → b ≢ c → (names_four rule ≡ true → (a ≢ d) × (b ≢ d) × (c ≢ d)) → IsPosedShape es (shape_by rule a b c d)
  posed_by Span p q r l kind hp hq hr hl pq pr qr more =
      let apart = more refl in
      ((posed_on p l kind apart.0 hp hl, (posed_on q l kind apart.1 hq hl, (posed_on r l kind apart.2 hr hl, tt))), (other kind, hl), posed_triple p q r kind pq pr qr hp hq hr)
  posed_by Extend p q r s kind hp hq hr hs pq pr qr more =
      let apart = more refl in
      ((posed_triple p q r kind pq pr qr hp hq hr, (posed_triple p q s kind pq apart.0 apart.1 hp hq hs, tt)), posed_same p q kind pq hp hq, posed_triple p r s kind pr apart.0 apart.2 hp hr hs)
  posed_by Lie p q r l kind hp hq hr hl pq pr qr more =
      let apart = more refl in
      ((posed_triple p q r kind pq pr qr hp hq hr, (posed_on p l kind apart.0 hp hl, (posed_on q l kind apart.1 hq hl, tt))), posed_same p q kind pq hp hq, posed_on r l kind apart.2 hr hl)
  posed_by Unique p q l m kind hp hq hl hm pq pl ql more =
      let apart = more refl in
      ((posed_on p l kind pl hp hl, (posed_on p m kind apart.0 hp hm, (posed_on q l kind ql hq hl, (posed_on q m kind apart.1 hq hm, tt)))), posed_same l m (other kind) apart.2 hl hm, posed_same p q kind pq hp hq)
  posed_by Move p q l none kind hp hq hl hn pq pl ql more =
      ((posed_same p q kind pq hp hq, (posed_on p l kind pl hp hl, tt)), (kind, hp), posed_on q l kind ql hq hl)

  -- ---- what is said
  apart_four : (four : Bool) (x y z : Bool) → (four && (x || (y || z))) ≡ false → four ≡ true → (x ≡ false) × (y ≡ false) × (z ≡ false)
  apart_four true x y z h t = let first = neither x (y || z) h in let rest = neither y z first.1 in (first.0, rest.0, rest.1)
  apart_four false x y z h t = absurd cc

  posed_unless : (rule : Rule) (p q r s : Element) → kind_at es p.number ≡ Some p.kind → kind_at es q.number ≡ Some q.kind → kind_at es r.number ≡ Some r.kind → kind_at es s.number ≡ Some s.kind
      → fits rule p q r s ≡ true → repeats rule p.number q.number r.number s.number ≡ false → IsPosedShape es (shape_by rule p.number q.number r.number s.number)
  posed_unless rule p q r s hp hq hr hs fit apart =
      let second = and_parts _ _ fit in
      let rest = and_parts _ _ second.1 in
      let one = neither (p.number == q.number) _ apart in
      let two = neither (p.number == r.number) _ one.1 in
      let three = neither (q.number == r.number) _ two.1 in
      posed_by rule p.number q.number r.number s.number p.kind hp (hq ∙ ap Some (same_kinds q.kind p.kind second.0)) (hr ∙ ap Some (same_kinds r.kind (third_kind rule p.kind) rest.0)) (hs ∙ ap Some (same_kinds s.kind (fourth_kind rule p.kind) rest.1))
      (eqb-false p.number q.number one.0) (eqb-false p.number r.number two.0) (eqb-false q.number r.number three.0)
      (λ t. let others = apart_four (names_four rule) (p.number == s.number) (q.number == s.number) (r.number == s.number) three.1 t in
      (eqb-false p.number s.number others.0, eqb-false q.number s.number others.1, eqb-false r.number s.number others.2))

  posed_made : (rule : Rule) (p q r s : Element) → kind_at es p.number ≡ Some p.kind → kind_at es q.number ≡ Some q.kind → kind_at es r.number ≡ Some r.kind → kind_at es s.number ≡ Some s.kind
      → (shape : Shape) → shape_unless rule p q r s ≡ Ok shape → IsPosedShape es shape
  posed_made rule p q r s hp hq hr hs shape h = by_tests (fits rule p q r s) (repeats rule p.number q.number r.number s.number) refl refl h
    where
      by_tests : (t u : Bool) → fits rule p q r s ≡ t → repeats rule p.number q.number r.number s.number ≡ u → (if t then (if u then Err refusal.Repeat else Ok (shape_by rule p.number q.number r.number s.number)) else Err refusal.Kind) ≡ Ok shape → IsPosedShape es shape
      by_tests false u f g e = absurd cc
      by_tests true true f g e = absurd cc
      by_tests true false f g e = let same : shape_by rule p.number q.number r.number s.number ≡ shape = cc in subst (λ (x : Shape). IsPosedShape es x) same (posed_unless rule p q r s hp hq hr hs f g)

  module _ (rises : Rises 0 es) where
    kind_found : (name : List ℕ) (p : Element) → find_named es name ≡ Some p → kind_at es p.number ≡ Some p.kind
    kind_found name p q = ap (option_map (λ (e : Element). e.kind)) (found_by_name 0 es name p rises q).0

    posed_found : (rule : Rule) (a b c d : List ℕ) (o u v w : Option Element) → find_named es a ≡ o → find_named es b ≡ u → find_named es c ≡ v → find_named es d ≡ w → (shape : Shape) → shape_found rule o u v w ≡ Ok shape → IsPosedShape es shape
    posed_found rule a b c d None u v w e f g h shape k = absurd cc
    posed_found rule a b c d (Some p) None v w e f g h shape k = absurd cc
    posed_found rule a b c d (Some p) (Some q) None w e f g h shape k = absurd cc
    posed_found rule a b c d (Some p) (Some q) (Some r) None e f g h shape k = absurd cc
    posed_found rule a b c d (Some p) (Some q) (Some r) (Some s) e f g h shape k = posed_made rule p q r s (kind_found a p e) (kind_found b q f) (kind_found c r g) (kind_found d s h) shape k

    pub shape_posed : (said : SaidStep) (result : Result Shape Refusal) → result ≡ shape_of es said → IfOk result (IsPosedShape es)
    shape_posed said (Err r) e = tt
    shape_posed said (Ok shape) e =
        posed_found said.rule said.a said.b said.c (fourth_said said.d said.c) (find_named es said.a) (find_named es said.b) (find_named es said.c) (find_named es (fourth_said said.d said.c)) refl refl refl refl shape (sym e)

-- ---- what is asked for is a rule's, for some numbers
made_by : (rule : Rule) (p q r s : Element) (shape : Shape) → shape_unless rule p q r s ≡ Ok shape → (a : ℕ) × (b : ℕ) × (c : ℕ) × (d : ℕ) × (shape_by rule a b c d ≡ shape)
made_by rule p q r s shape h = by_tests (fits rule p q r s) (repeats rule p.number q.number r.number s.number) h
  where
    by_tests : (t u : Bool) → (if t then (if u then Err refusal.Repeat else Ok (shape_by rule p.number q.number r.number s.number)) else Err refusal.Kind) ≡ Ok shape → (a : ℕ) × (b : ℕ) × (c : ℕ) × (d : ℕ) × (shape_by rule a b c d ≡ shape)
    by_tests false u e = absurd cc
    by_tests true true e = absurd cc
    by_tests true false e = (p.number, q.number, r.number, s.number, cc)

pub found_by : (rule : Rule) (o u v w : Option Element) (shape : Shape) → shape_found rule o u v w ≡ Ok shape → (a : ℕ) × (b : ℕ) × (c : ℕ) × (d : ℕ) × (shape_by rule a b c d ≡ shape)
found_by rule None u v w shape h = absurd cc
found_by rule (Some p) None v w shape h = absurd cc
found_by rule (Some p) (Some q) None w shape h = absurd cc
found_by rule (Some p) (Some q) (Some r) None shape h = absurd cc
found_by rule (Some p) (Some q) (Some r) (Some s) shape h = made_by rule p q r s shape h
