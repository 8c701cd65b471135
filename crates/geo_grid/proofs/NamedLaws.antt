-- The elements that are named, by their places in a list.
use Rattle.std.proofs.Common.{◌≡◌, inl, inr, ℕ, zero, suc, ◌<◌, true, List, [], ◌∷◌, length, get_or, arith}
use Rattle.std.specs.Prelude.{All}
use Rattle.std.proofs.lemmas.Bool.{or_cases, or_left, or_right}
use Rattle.geo_sketch.specs.declared.elements.Element.{Element}
use Rattle.geo_sketch.specs.declared.statements.Statement.{Statement}
use Rattle.geo_sketch.specs.declared.statements.Statement.TheVariants as statement
use Rattle.geo_sketch.specs.Constructions.{IsConstruction}
use Rattle.geo_sketch.specs.Dependence.{depends_on}
use Rattle.geo_sketch.specs.Needs.{is_needed, stated, AtStated}
use Rattle.geo_sketch.proofs.TableLaws.{built}
use Rattle.geo_sketch.proofs.ValueLaws.{depends_on_self}

module _ (es : List Element) where
  -- a named element is needed
  pub named_needed : IsConstruction es → (named : List ℕ) (i d : ℕ) → i < length named → is_needed es named (get_or named i d) ≡ true
  named_needed c [] i d within = absurd (omega arith)
  named_needed c (a ∷ named) zero d within = or_left (depends_on es a a) (is_needed es named a) (depends_on_self es c.rising (built es c) a)
  named_needed c (a ∷ named) (suc i) d within = or_right (depends_on es a (get_or named i d)) (is_needed es named (get_or named i d)) (named_needed c named i d (omega arith))

  -- what is needed is what a named element depends on
  pub needed_by : (named : List ℕ) (n d : ℕ) → is_needed es named n ≡ true → (i : ℕ) × (i < length named) × (depends_on es (get_or named i d) n ≡ true)
  needed_by [] n d t = cc
  needed_by (a ∷ named) n d t =
      elim (or_cases (depends_on es a n) (is_needed es named n) t) [
        | inl u ↦ (0, omega arith, u)
        | inr u ↦ (let rest = needed_by named n d u in (suc rest.0, omega (arith, rest.1), rest.2))
      ]

-- ---- of a statement
pub from_list : (P : ℕ → Type 0) (s : Statement) → All P (stated s) → AtStated s P
from_list P (statement.Null n) h = h 0 0 (omega arith)
from_list P (statement.Same n m) h = (h 0 0 (omega arith), h 1 0 (omega arith))
from_list P (statement.On n m) h = (h 0 0 (omega arith), h 1 0 (omega arith))
from_list P (statement.Triple n m k) h = (h 0 0 (omega arith), h 1 0 (omega arith), h 2 0 (omega arith))

one_more : (P : ℕ → Type 0) (n : ℕ) (ns : List ℕ) → P n → All P ns → All P (n ∷ ns)
one_more P n ns h rest zero d within = h
one_more P n ns h rest (suc k) d within = rest k d (omega arith)

none : (P : ℕ → Type 0) → All P []
none P k d within = absurd (omega arith)

pub to_list : (P : ℕ → Type 0) (s : Statement) → AtStated s P → All P (stated s)
to_list P (statement.Null n) h = one_more P n [] h (none P)
to_list P (statement.Same n m) h = one_more P n (m ∷ []) h.0 (one_more P m [] h.1 (none P))
to_list P (statement.On n m) h = one_more P n (m ∷ []) h.0 (one_more P m [] h.1 (none P))
to_list P (statement.Triple n m k) h = one_more P n (m ∷ k ∷ []) h.0 (one_more P m (k ∷ []) h.1 (one_more P k [] h.2 (none P)))
