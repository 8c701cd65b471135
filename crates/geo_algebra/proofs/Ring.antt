-- Identities of whole numbers. `ring (a ∷ b ∷ []) (search reads depth 40 fits 5000) tt` proves an equation whose two sides are one
-- polynomial of a, b: `search` reads the sides, and `tt` says that their difference computes to nothing.
-- lemmas for other crates
use Rattle.std.proofs.Common.{◌≡◌, ℕ, suc, List, [], ◌∷◌, get_or, ℤ, pos, negsuc, ◌+ℤ◌, ◌-ℤ◌, ◌*ℤ◌, neg_ℤ, Bool, true, false, cond, ◌&&◌, T, eqb, leb, eqb→eq, refl, sym, ap, ap₂, ◌∙◌, arith, subst}
use Rattle.std.proofs.lemmas.Int.{ints}
use Rattle.geo_algebra.proofs.Integers.{mul_ℤ-add, add-mul_ℤ, mul_ℤ_assoc, mul_ℤ_comm}

-- a factor times the values at some places, which rise
pub record Part : Type 0 where
  pub factor : ℤ
  pub places : List ℕ

-- ---- what computes
abbrev pub same : List ℕ → List ℕ → Bool
same [] [] = true
same [] (j ∷ n) = false
same (i ∷ m) [] = false
same (i ∷ m) (j ∷ n) = eqb i j && same m n

abbrev pub put_place : ℕ → List ℕ → List ℕ
put_place i [] = i ∷ []
put_place i (j ∷ m) = cond (leb i j) (i ∷ j ∷ m) (j ∷ put_place i m)

abbrev pub join : List ℕ → List ℕ → List ℕ
join [] n = n
join (i ∷ m) n = put_place i (join m n)

abbrev pub put : List ℕ → ℤ → List Part → List Part
put m c [] = record { factor = c; places = m } ∷ []
put m c (p ∷ ps) = cond (same m p.places) (record { factor = c +ℤ p.factor; places = p.places } ∷ ps) (p ∷ put m c ps)

abbrev pub plus : List Part → List Part → List Part
plus [] q = q
plus (p ∷ ps) q = put p.places p.factor (plus ps q)

abbrev pub scale : List ℕ → ℤ → List Part → List Part
scale m c [] = []
scale m c (p ∷ ps) = record { factor = c *ℤ p.factor; places = join m p.places } ∷ scale m c ps

abbrev pub times : List Part → List Part → List Part
times [] q = []
times (p ∷ ps) q = plus (scale p.places p.factor q) (times ps q)

abbrev pub less : List Part → List Part → List Part
less p q = plus p (scale [] (negsuc 0) q)

abbrev pub is_zero : ℤ → Bool
is_zero (pos n) = eqb n 0
is_zero (negsuc n) = false

abbrev pub vanishes : List Part → Bool
vanishes [] = true
vanishes (p ∷ ps) = is_zero p.factor && vanishes ps

-- ---- what the parts mean
abbrev pub power : List ℤ → List ℕ → ℤ
power xs [] = pos 1
power xs (i ∷ m) = get_or xs i (pos 0) *ℤ power xs m

abbrev pub total : List ℤ → List Part → ℤ
total xs [] = pos 0
total xs (p ∷ ps) = p.factor *ℤ power xs p.places +ℤ total xs ps

is_true : (b : Bool) → T b → b ≡ true
is_true true t = refl
is_true false t = absurd t

both : (b c : Bool) → b && c ≡ true → (b ≡ true) × (c ≡ true)
both true true e = (refl, refl)
both true false e = absurd (cc)
both false c e = absurd (cc)

same-is : (m n : List ℕ) → same m n ≡ true → m ≡ n
same-is [] [] e = refl
same-is [] (j ∷ n) e = absurd (cc)
same-is (i ∷ m) [] e = absurd (cc)
same-is (i ∷ m) (j ∷ n) e = let h = both (eqb i j) (same m n) e in ap₂ (λ x xs. x ∷ xs) (eqb→eq i j (subst T (sym h.0) tt)) (same-is m n h.1)

swap_front : (a b c : ℤ) → a *ℤ (b *ℤ c) ≡ b *ℤ (a *ℤ c)
swap_front a b c = sym (mul_ℤ_assoc a b c) ∙ ap (λ x. x *ℤ c) (mul_ℤ_comm a b) ∙ mul_ℤ_assoc b a c

power-put : (xs : List ℤ) (i : ℕ) (m : List ℕ) → power xs (put_place i m) ≡ get_or xs i (pos 0) *ℤ power xs m
power-put xs i [] = refl
power-put xs i (j ∷ m) =
    elim (leb i j) as (λ b. power xs (cond b (i ∷ j ∷ m) (j ∷ put_place i m)) ≡ get_or xs i (pos 0) *ℤ power xs (j ∷ m))
    [ true ↦ refl | false ↦ ap (λ x. get_or xs j (pos 0) *ℤ x) (power-put xs i m) ∙ swap_front (get_or xs j (pos 0)) (get_or xs i (pos 0)) (power xs m) ]

power-join : (xs : List ℤ) (m n : List ℕ) → power xs (join m n) ≡ power xs m *ℤ power xs n
power-join xs [] n = omega (arith, ints)
power-join xs (i ∷ m) n = power-put xs i (join m n) ∙ ap (λ x. get_or xs i (pos 0) *ℤ x) (power-join xs m n) ∙ sym (mul_ℤ_assoc (get_or xs i (pos 0)) (power xs m) (power xs n))

-- a factor joins the part that has its places
merged : (xs : List ℤ) (m : List ℕ) (c : ℤ) (p : Part) (ps : List Part) → m ≡ p.places → total xs (record { factor = c +ℤ p.factor; places = p.places } ∷ ps) ≡ c *ℤ power xs m +ℤ total xs (p ∷ ps)
merged xs m c p ps e = rw e (omega (arith, ints, add-mul_ℤ c p.factor (power xs p.places)))

total-put : (xs : List ℤ) (m : List ℕ) (c : ℤ) (p : List Part) → total xs (put m c p) ≡ c *ℤ power xs m +ℤ total xs p
total-put xs m c [] = refl
total-put xs m c (p ∷ ps) =
    (elim (same m p.places) as (λ b. same m p.places ≡ b → total xs (cond b (record { factor = c +ℤ p.factor; places = p.places } ∷ ps) (p ∷ put m c ps)) ≡ c *ℤ power xs m +ℤ total xs (p ∷ ps))
    [ true ↦ λ e. merged xs m c p ps (same-is m p.places e) | false ↦ λ e. omega (arith, ints, total-put xs m c ps) ]) refl

pub total-plus : (xs : List ℤ) (p q : List Part) → total xs (plus p q) ≡ total xs p +ℤ total xs q
total-plus xs [] q = omega (arith, ints)
total-plus xs (p ∷ ps) q = omega (arith, ints, total-put xs p.places p.factor (plus ps q), total-plus xs ps q)

regroup : (c d m n : ℤ) → (c *ℤ d) *ℤ (m *ℤ n) ≡ (c *ℤ m) *ℤ (d *ℤ n)
regroup c d m n = mul_ℤ_assoc c d (m *ℤ n) ∙ ap (λ x. c *ℤ x) (swap_front d m n) ∙ sym (mul_ℤ_assoc c m (d *ℤ n))

total-scale : (xs : List ℤ) (m : List ℕ) (c : ℤ) (p : List Part) → total xs (scale m c p) ≡ (c *ℤ power xs m) *ℤ total xs p
total-scale xs m c [] = omega (arith, ints)
total-scale xs m c (p ∷ ps) =
    ap₂ (λ x y. x +ℤ y) (ap (λ x. (c *ℤ p.factor) *ℤ x) (power-join xs m p.places) ∙ regroup c p.factor (power xs m) (power xs p.places)) (total-scale xs m c ps)
    ∙ sym (mul_ℤ-add (c *ℤ power xs m) (p.factor *ℤ power xs p.places) (total xs ps))

pub total-times : (xs : List ℤ) (p q : List Part) → total xs (times p q) ≡ total xs p *ℤ total xs q
total-times xs [] q = omega (arith, ints)
total-times xs (p ∷ ps) q =
    total-plus xs (scale p.places p.factor q) (times ps q)
    ∙ ap₂ (λ x y. x +ℤ y) (total-scale xs p.places p.factor q) (total-times xs ps q)
    ∙ sym (add-mul_ℤ (p.factor *ℤ power xs p.places) (total xs ps) (total xs q))

pub negated : (xs : List ℤ) (p : List Part) → total xs (scale [] (negsuc 0) p) ≡ neg_ℤ (total xs p)
negated xs p = omega (arith, ints, total-scale xs [] (negsuc 0) p)

pub total-less : (xs : List ℤ) (p q : List Part) → total xs (less p q) ≡ total xs p -ℤ total xs q
total-less xs p q = omega (arith, ints, total-plus xs p (scale [] (negsuc 0) q), negated xs q)

zero_factor : (c : ℤ) → is_zero c ≡ true → c ≡ pos 0
zero_factor (pos n) e = ap pos (eqb→eq n 0 (subst T (sym e) tt))
zero_factor (negsuc n) e = absurd (cc)

total-vanishes : (xs : List ℤ) (p : List Part) → vanishes p ≡ true → total xs p ≡ pos 0
total-vanishes xs [] e = refl
total-vanishes xs (p ∷ ps) e =
    let h = both (is_zero p.factor) (vanishes ps) e in
    ap₂ (λ x y. x *ℤ power xs p.places +ℤ y) (zero_factor p.factor h.0) (total-vanishes xs ps h.1) ∙ omega (arith, ints)

-- ---- what `search` reads: sums, differences, products, the values, and 0, 1, 2 and -1. For another literal list `read_number (pos 7)` too
-- the place of a value in a list
pub record Place (xs : List ℤ) (z : ℤ) : Type 0 where
  pub place : ℕ
  pub is : get_or xs place (pos 0) ≡ z

abbrev pub place_here : (z : ℤ) (xs : List ℤ) → Place (z ∷ xs) z
place_here z xs = record { place = 0; is = refl }

abbrev pub place_later : (y z : ℤ) (xs : List ℤ) → Place xs z → Place (y ∷ xs) z
place_later y z xs p = record { place = suc p.place; is = p.is }

-- z as a polynomial of the values
pub record Read (xs : List ℤ) (z : ℤ) : Type 0 where
  pub parts : List Part
  pub means : total xs parts ≡ z

pub single : (z y : ℤ) → y ≡ z → pos 1 *ℤ (y *ℤ pos 1) +ℤ pos 0 ≡ z
single z y e = omega (arith, ints)

pub alone : (c : ℤ) → c *ℤ pos 1 +ℤ pos 0 ≡ c
alone c = omega (arith, ints)

abbrev pub read_place : (z : ℤ) (xs : List ℤ) → Place xs z → Read xs z
read_place z xs p = record { parts = record { factor = pos 1; places = p.place ∷ [] } ∷ []; means = single z (get_or xs p.place (pos 0)) p.is }

-- a literal: `pos n` with a variable n is no number, and stands among the values
abbrev pub read_number : (c : ℤ) (xs : List ℤ) → Read xs c
read_number c xs = record { parts = record { factor = c; places = [] } ∷ []; means = alone c }

abbrev pub read_zero : (xs : List ℤ) → Read xs (pos 0)
read_zero xs = record { parts = []; means = refl }

abbrev pub read_one : (xs : List ℤ) → Read xs (pos 1)
read_one xs = read_number (pos 1) xs

abbrev pub read_two : (xs : List ℤ) → Read xs (pos 2)
read_two xs = read_number (pos 2) xs

abbrev pub read_minus_one : (xs : List ℤ) → Read xs (negsuc 0)
read_minus_one xs = read_number (negsuc 0) xs

abbrev pub read_sum : (a b : ℤ) (xs : List ℤ) → Read xs a → Read xs b → Read xs (a +ℤ b)
read_sum a b xs p q = record { parts = plus p.parts q.parts; means = total-plus xs p.parts q.parts ∙ ap₂ (λ x y. x +ℤ y) p.means q.means }

abbrev pub read_difference : (a b : ℤ) (xs : List ℤ) → Read xs a → Read xs b → Read xs (a -ℤ b)
read_difference a b xs p q = record { parts = less p.parts q.parts; means = total-less xs p.parts q.parts ∙ ap₂ (λ x y. x -ℤ y) p.means q.means }

abbrev pub read_product : (a b : ℤ) (xs : List ℤ) → Read xs a → Read xs b → Read xs (a *ℤ b)
read_product a b xs p q = record { parts = times p.parts q.parts; means = total-times xs p.parts q.parts ∙ ap₂ (λ x y. x *ℤ y) p.means q.means }

abbrev pub read_negation : (a : ℤ) (xs : List ℤ) → Read xs a → Read xs (neg_ℤ a)
read_negation a xs p = record { parts = scale [] (negsuc 0) p.parts; means = negated xs p.parts ∙ ap neg_ℤ p.means }

pub ruleset reads = (read_difference, read_sum, read_product, read_negation, read_place, read_zero, read_one, read_two, read_minus_one, place_here, place_later)

-- ---- the two forms of use
apart_by : (xs : List ℤ) (p q : List Part) → T (vanishes (less p q)) → total xs p ≡ total xs q
apart_by xs p q t = omega (arith, ints, total-less xs p q, total-vanishes xs (less p q) (is_true (vanishes (less p q)) t))

-- l ≡ r, where both are the same polynomial of the values xs
pub ring : (xs : List ℤ) {l r : ℤ} (t : Read xs l × Read xs r) → T (vanishes (less t.0.parts t.1.parts)) → l ≡ r
ring xs t h = sym t.0.means ∙ apart_by xs t.0.parts t.1.parts h ∙ t.1.means

by_factor : (a b c p q : ℤ) → p ≡ q → a -ℤ b ≡ c *ℤ (p -ℤ q) → a ≡ b
by_factor a b c p q e f =
    let z : p -ℤ q ≡ pos 0 = omega (arith, ints) in
    let g : c *ℤ (p -ℤ q) ≡ c *ℤ pos 0 = ap (λ x. c *ℤ x) z in
    omega (arith, ints)

-- the same, where p ≡ q is known: l - r is c times p - q
pub ring_by : (xs : List ℤ) {l r : ℤ} (c : ℤ) {p q : ℤ} (h : p ≡ q) (t : Read xs (l -ℤ r) × Read xs (c *ℤ (p -ℤ q))) → T (vanishes (less t.0.parts t.1.parts)) → l ≡ r
ring_by xs {l} {r} c {p} {q} h t v = by_factor l r c p q h (ring xs t v)
