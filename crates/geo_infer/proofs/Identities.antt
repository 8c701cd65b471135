-- The identity of each rule: where the premises are 0, each part of the side condition times each part of the conclusion is 0.
use Rattle.std.proofs.Common.{◌≡◌, ◌∙◌, sym, ap, ℤ, pos, ◌+ℤ◌, ◌-ℤ◌, ◌*ℤ◌, [], ◌∷◌, List, arith}
use Rattle.std.proofs.lemmas.Int.{ints}
use Rattle.geo_algebra.proofs.Ring.{ring, reads}
use Rattle.geo_triple.specs.declared.Triple.{Triple}
use Rattle.geo_triple.specs.Triple.{cross_of, dot_of, determinant_of}
use Rattle.geo_triple.proofs.Triples.{dot-cross_first}
use Rattle.geo_triple.specs.Zero.{AreZero, coordinates}
use Rattle.geo_infer.specs.Products.{AreZeroProducts, AreZeroTimes}

three_zeros : (x u v w f g h : ℤ) → x ≡ u *ℤ f +ℤ v *ℤ g +ℤ w *ℤ h → u ≡ pos 0 → v ≡ pos 0 → w ≡ pos 0 → x ≡ pos 0
three_zeros x u v w f g h e p q r = e ∙ (λ i. p i *ℤ f +ℤ q i *ℤ g +ℤ r i *ℤ h) ∙ omega (arith, ints)

two_zeros : (x u v f g : ℤ) → x ≡ u *ℤ f -ℤ v *ℤ g → u ≡ pos 0 → v ≡ pos 0 → x ≡ pos 0
two_zeros x u v f g e p q = e ∙ (λ i. p i *ℤ f -ℤ q i *ℤ g) ∙ omega (arith, ints)

-- ---- three points of a line
span_a : (p q r l : Triple) → l.a *ℤ determinant_of p q r ≡ dot_of p l *ℤ (cross_of q r).a +ℤ dot_of q l *ℤ (cross_of r p).a +ℤ dot_of r l *ℤ (cross_of p q).a
unfolding determinant_of cross_of
span_a p q r l = ring (p.a ∷ p.b ∷ p.c ∷ q.a ∷ q.b ∷ q.c ∷ r.a ∷ r.b ∷ r.c ∷ l.a ∷ l.b ∷ l.c ∷ []) (search reads depth 60 fits 9000) tt

span_b : (p q r l : Triple) → l.b *ℤ determinant_of p q r ≡ dot_of p l *ℤ (cross_of q r).b +ℤ dot_of q l *ℤ (cross_of r p).b +ℤ dot_of r l *ℤ (cross_of p q).b
unfolding determinant_of cross_of
span_b p q r l = ring (p.a ∷ p.b ∷ p.c ∷ q.a ∷ q.b ∷ q.c ∷ r.a ∷ r.b ∷ r.c ∷ l.a ∷ l.b ∷ l.c ∷ []) (search reads depth 60 fits 9000) tt

span_c : (p q r l : Triple) → l.c *ℤ determinant_of p q r ≡ dot_of p l *ℤ (cross_of q r).c +ℤ dot_of q l *ℤ (cross_of r p).c +ℤ dot_of r l *ℤ (cross_of p q).c
unfolding determinant_of cross_of
span_c p q r l = ring (p.a ∷ p.b ∷ p.c ∷ q.a ∷ q.b ∷ q.c ∷ r.a ∷ r.b ∷ r.c ∷ l.a ∷ l.b ∷ l.c ∷ []) (search reads depth 60 fits 9000) tt

pub span : (p q r l : Triple) → dot_of p l ≡ pos 0 → dot_of q l ≡ pos 0 → dot_of r l ≡ pos 0 → AreZeroProducts (coordinates l) (determinant_of p q r ∷ [])
span p q r l f g h = (
  (three_zeros (l.a *ℤ determinant_of p q r) (dot_of p l) (dot_of q l) (dot_of r l) (cross_of q r).a (cross_of r p).a (cross_of p q).a (span_a p q r l) f g h, tt),
  ((three_zeros (l.b *ℤ determinant_of p q r) (dot_of p l) (dot_of q l) (dot_of r l) (cross_of q r).b (cross_of r p).b (cross_of p q).b (span_b p q r l) f g h, tt), ((three_zeros (l.c *ℤ determinant_of p q r) (dot_of p l) (dot_of q l) (dot_of r l) (cross_of q r).c (cross_of r p).c (cross_of p q).c (span_c p q r l) f g h, tt), tt)),
)

-- ---- two triples with two points in common
dot_of_cross : (p q r : Triple) → dot_of r (cross_of p q) ≡ determinant_of p q r
unfolding determinant_of cross_of
dot_of_cross p q r = ring (p.a ∷ p.b ∷ p.c ∷ q.a ∷ q.b ∷ q.c ∷ r.a ∷ r.b ∷ r.c ∷ []) (search reads depth 60 fits 9000) tt

pub extend : (p q r s : Triple) → determinant_of p q r ≡ pos 0 → determinant_of p q s ≡ pos 0 → AreZeroProducts (coordinates (cross_of p q)) (determinant_of p r s ∷ [])
extend p q r s f g = span p r s (cross_of p q) (dot-cross_first p q) (dot_of_cross p q r ∙ f) (dot_of_cross p q s ∙ g)

-- ---- a point collinear with two points of a line
lie_a : (p q r l : Triple) → (cross_of p q).a *ℤ dot_of r l ≡ determinant_of p q r *ℤ l.a +ℤ dot_of p l *ℤ (cross_of r q).a +ℤ dot_of q l *ℤ (cross_of p r).a
unfolding determinant_of cross_of
lie_a p q r l = ring (p.a ∷ p.b ∷ p.c ∷ q.a ∷ q.b ∷ q.c ∷ r.a ∷ r.b ∷ r.c ∷ l.a ∷ l.b ∷ l.c ∷ []) (search reads depth 60 fits 9000) tt

lie_b : (p q r l : Triple) → (cross_of p q).b *ℤ dot_of r l ≡ determinant_of p q r *ℤ l.b +ℤ dot_of p l *ℤ (cross_of r q).b +ℤ dot_of q l *ℤ (cross_of p r).b
unfolding determinant_of cross_of
lie_b p q r l = ring (p.a ∷ p.b ∷ p.c ∷ q.a ∷ q.b ∷ q.c ∷ r.a ∷ r.b ∷ r.c ∷ l.a ∷ l.b ∷ l.c ∷ []) (search reads depth 60 fits 9000) tt

lie_c : (p q r l : Triple) → (cross_of p q).c *ℤ dot_of r l ≡ determinant_of p q r *ℤ l.c +ℤ dot_of p l *ℤ (cross_of r q).c +ℤ dot_of q l *ℤ (cross_of p r).c
unfolding determinant_of cross_of
lie_c p q r l = ring (p.a ∷ p.b ∷ p.c ∷ q.a ∷ q.b ∷ q.c ∷ r.a ∷ r.b ∷ r.c ∷ l.a ∷ l.b ∷ l.c ∷ []) (search reads depth 60 fits 9000) tt

pub lie : (p q r l : Triple) → determinant_of p q r ≡ pos 0 → dot_of p l ≡ pos 0 → dot_of q l ≡ pos 0 → AreZeroProducts (coordinates (cross_of p q)) (dot_of r l ∷ [])
lie p q r l f g h = (
  (three_zeros ((cross_of p q).a *ℤ dot_of r l) (determinant_of p q r) (dot_of p l) (dot_of q l) l.a (cross_of r q).a (cross_of p r).a (lie_a p q r l) f g h, tt),
  ((three_zeros ((cross_of p q).b *ℤ dot_of r l) (determinant_of p q r) (dot_of p l) (dot_of q l) l.b (cross_of r q).b (cross_of p r).b (lie_b p q r l) f g h, tt), ((three_zeros ((cross_of p q).c *ℤ dot_of r l) (determinant_of p q r) (dot_of p l) (dot_of q l) l.c (cross_of r q).c (cross_of p r).c (lie_c p q r l) f g h, tt), tt)),
)

-- ---- the same point on the same line
move_a : (p q l : Triple) → p.a *ℤ dot_of q l ≡ dot_of p l *ℤ q.a +ℤ (cross_of p q).c *ℤ l.b -ℤ (cross_of p q).b *ℤ l.c
unfolding cross_of
move_a p q l = ring (p.a ∷ p.b ∷ p.c ∷ q.a ∷ q.b ∷ q.c ∷ l.a ∷ l.b ∷ l.c ∷ []) (search reads depth 60 fits 9000) tt

move_b : (p q l : Triple) → p.b *ℤ dot_of q l ≡ dot_of p l *ℤ q.b +ℤ (cross_of p q).a *ℤ l.c -ℤ (cross_of p q).c *ℤ l.a
unfolding cross_of
move_b p q l = ring (p.a ∷ p.b ∷ p.c ∷ q.a ∷ q.b ∷ q.c ∷ l.a ∷ l.b ∷ l.c ∷ []) (search reads depth 60 fits 9000) tt

move_c : (p q l : Triple) → p.c *ℤ dot_of q l ≡ dot_of p l *ℤ q.c +ℤ (cross_of p q).b *ℤ l.a -ℤ (cross_of p q).a *ℤ l.b
unfolding cross_of
move_c p q l = ring (p.a ∷ p.b ∷ p.c ∷ q.a ∷ q.b ∷ q.c ∷ l.a ∷ l.b ∷ l.c ∷ []) (search reads depth 60 fits 9000) tt

one_and_two : (x u v w f g h : ℤ) → x ≡ u *ℤ f +ℤ v *ℤ g -ℤ w *ℤ h → u ≡ pos 0 → v ≡ pos 0 → w ≡ pos 0 → x ≡ pos 0
one_and_two x u v w f g h e p q r = e ∙ (λ i. p i *ℤ f +ℤ q i *ℤ g -ℤ r i *ℤ h) ∙ omega (arith, ints)

pub move : (p q l : Triple) → AreZero (coordinates (cross_of p q)) → dot_of p l ≡ pos 0 → AreZeroProducts (coordinates p) (dot_of q l ∷ [])
move p q l same on = (
  (one_and_two (p.a *ℤ dot_of q l) (dot_of p l) (cross_of p q).c (cross_of p q).b q.a l.b l.c (move_a p q l) on same.1.1.0 same.1.0, tt),
  ((one_and_two (p.b *ℤ dot_of q l) (dot_of p l) (cross_of p q).a (cross_of p q).c q.b l.c l.a (move_b p q l) on same.0 same.1.1.0, tt), ((one_and_two (p.c *ℤ dot_of q l) (dot_of p l) (cross_of p q).b (cross_of p q).a q.c l.a l.b (move_c p q l) on same.1.0 same.0, tt), tt)),
)

-- ---- two points on two lines
-- where p is on both lines, their meet is p
meet_a : (p l m : Triple) → (cross_of (cross_of l m) p).a ≡ dot_of p l *ℤ m.a -ℤ dot_of p m *ℤ l.a
unfolding cross_of
meet_a p l m = ring (p.a ∷ p.b ∷ p.c ∷ l.a ∷ l.b ∷ l.c ∷ m.a ∷ m.b ∷ m.c ∷ []) (search reads depth 60 fits 9000) tt

meet_b : (p l m : Triple) → (cross_of (cross_of l m) p).b ≡ dot_of p l *ℤ m.b -ℤ dot_of p m *ℤ l.b
unfolding cross_of
meet_b p l m = ring (p.a ∷ p.b ∷ p.c ∷ l.a ∷ l.b ∷ l.c ∷ m.a ∷ m.b ∷ m.c ∷ []) (search reads depth 60 fits 9000) tt

meet_c : (p l m : Triple) → (cross_of (cross_of l m) p).c ≡ dot_of p l *ℤ m.c -ℤ dot_of p m *ℤ l.c
unfolding cross_of
meet_c p l m = ring (p.a ∷ p.b ∷ p.c ∷ l.a ∷ l.b ∷ l.c ∷ m.a ∷ m.b ∷ m.c ∷ []) (search reads depth 60 fits 9000) tt

meets : (p l m : Triple) → dot_of p l ≡ pos 0 → dot_of p m ≡ pos 0 → AreZero (coordinates (cross_of (cross_of l m) p))
meets p l m f g = (
  two_zeros (cross_of (cross_of l m) p).a (dot_of p l) (dot_of p m) m.a l.a (meet_a p l m) f g,
  (two_zeros (cross_of (cross_of l m) p).b (dot_of p l) (dot_of p m) m.b l.b (meet_b p l m) f g, (two_zeros (cross_of (cross_of l m) p).c (dot_of p l) (dot_of p m) m.c l.c (meet_c p l m) f g, tt)),
)

-- a coordinate of n times the cross product of p and q, by the cross products of n with p and with q
same_aa : (n p q : Triple) → n.a *ℤ (cross_of p q).a ≡ (cross_of n p).c *ℤ q.c +ℤ (cross_of n p).b *ℤ q.b +ℤ (cross_of n q).a *ℤ p.a
unfolding cross_of
same_aa n p q = ring (n.a ∷ n.b ∷ n.c ∷ p.a ∷ p.b ∷ p.c ∷ q.a ∷ q.b ∷ q.c ∷ []) (search reads depth 60 fits 9000) tt

same_bb : (n p q : Triple) → n.b *ℤ (cross_of p q).b ≡ (cross_of n p).a *ℤ q.a +ℤ (cross_of n p).c *ℤ q.c +ℤ (cross_of n q).b *ℤ p.b
unfolding cross_of
same_bb n p q = ring (n.a ∷ n.b ∷ n.c ∷ p.a ∷ p.b ∷ p.c ∷ q.a ∷ q.b ∷ q.c ∷ []) (search reads depth 60 fits 9000) tt

same_cc : (n p q : Triple) → n.c *ℤ (cross_of p q).c ≡ (cross_of n p).b *ℤ q.b +ℤ (cross_of n p).a *ℤ q.a +ℤ (cross_of n q).c *ℤ p.c
unfolding cross_of
same_cc n p q = ring (n.a ∷ n.b ∷ n.c ∷ p.a ∷ p.b ∷ p.c ∷ q.a ∷ q.b ∷ q.c ∷ []) (search reads depth 60 fits 9000) tt

same_ab : (n p q : Triple) → n.a *ℤ (cross_of p q).b ≡ (cross_of n q).b *ℤ p.a -ℤ (cross_of n p).b *ℤ q.a
unfolding cross_of
same_ab n p q = ring (n.a ∷ n.b ∷ n.c ∷ p.a ∷ p.b ∷ p.c ∷ q.a ∷ q.b ∷ q.c ∷ []) (search reads depth 60 fits 9000) tt

same_ac : (n p q : Triple) → n.a *ℤ (cross_of p q).c ≡ (cross_of n q).c *ℤ p.a -ℤ (cross_of n p).c *ℤ q.a
unfolding cross_of
same_ac n p q = ring (n.a ∷ n.b ∷ n.c ∷ p.a ∷ p.b ∷ p.c ∷ q.a ∷ q.b ∷ q.c ∷ []) (search reads depth 60 fits 9000) tt

same_ba : (n p q : Triple) → n.b *ℤ (cross_of p q).a ≡ (cross_of n q).a *ℤ p.b -ℤ (cross_of n p).a *ℤ q.b
unfolding cross_of
same_ba n p q = ring (n.a ∷ n.b ∷ n.c ∷ p.a ∷ p.b ∷ p.c ∷ q.a ∷ q.b ∷ q.c ∷ []) (search reads depth 60 fits 9000) tt

same_bc : (n p q : Triple) → n.b *ℤ (cross_of p q).c ≡ (cross_of n q).c *ℤ p.b -ℤ (cross_of n p).c *ℤ q.b
unfolding cross_of
same_bc n p q = ring (n.a ∷ n.b ∷ n.c ∷ p.a ∷ p.b ∷ p.c ∷ q.a ∷ q.b ∷ q.c ∷ []) (search reads depth 60 fits 9000) tt

same_ca : (n p q : Triple) → n.c *ℤ (cross_of p q).a ≡ (cross_of n q).a *ℤ p.c -ℤ (cross_of n p).a *ℤ q.c
unfolding cross_of
same_ca n p q = ring (n.a ∷ n.b ∷ n.c ∷ p.a ∷ p.b ∷ p.c ∷ q.a ∷ q.b ∷ q.c ∷ []) (search reads depth 60 fits 9000) tt

same_cb : (n p q : Triple) → n.c *ℤ (cross_of p q).b ≡ (cross_of n q).b *ℤ p.c -ℤ (cross_of n p).b *ℤ q.c
unfolding cross_of
same_cb n p q = ring (n.a ∷ n.b ∷ n.c ∷ p.a ∷ p.b ∷ p.c ∷ q.a ∷ q.b ∷ q.c ∷ []) (search reads depth 60 fits 9000) tt

both_are : (n p q : Triple) → AreZero (coordinates (cross_of n p)) → AreZero (coordinates (cross_of n q)) → AreZeroProducts (coordinates n) (coordinates (cross_of p q))
both_are n p q f g =
    let s = cross_of n p in
    let t = cross_of n q in
    let c = cross_of p q in (
      (three_zeros (n.a *ℤ c.a) s.c s.b t.a q.c q.b p.a (same_aa n p q) f.1.1.0 f.1.0 g.0, (two_zeros (n.a *ℤ c.b) t.b s.b p.a q.a (same_ab n p q) g.1.0 f.1.0, (two_zeros (n.a *ℤ c.c) t.c s.c p.a q.a (same_ac n p q) g.1.1.0 f.1.1.0, tt))),
      (
        (two_zeros (n.b *ℤ c.a) t.a s.a p.b q.b (same_ba n p q) g.0 f.0, (three_zeros (n.b *ℤ c.b) s.a s.c t.b q.a q.c p.b (same_bb n p q) f.0 f.1.1.0 g.1.0, (two_zeros (n.b *ℤ c.c) t.c s.c p.b q.b (same_bc n p q) g.1.1.0 f.1.1.0, tt))),
        ((two_zeros (n.c *ℤ c.a) t.a s.a p.c q.c (same_ca n p q) g.0 f.0, (two_zeros (n.c *ℤ c.b) t.b s.b p.c q.c (same_cb n p q) g.1.0 f.1.0, (three_zeros (n.c *ℤ c.c) s.b s.a t.c q.b q.a p.c (same_cc n p q) f.1.0 f.0 g.1.1.0, tt))), tt),
      ),
    )

pub unique : (p q l m : Triple) → dot_of p l ≡ pos 0 → dot_of p m ≡ pos 0 → dot_of q l ≡ pos 0 → dot_of q m ≡ pos 0 → AreZeroProducts (coordinates (cross_of l m)) (coordinates (cross_of p q))
unique p q l m f g h k = both_are (cross_of l m) p q (meets p l m f g) (meets q l m h k)
