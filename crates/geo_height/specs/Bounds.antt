-- Magnitudes, what it means that heights bound numbers, and the sums that they bound.
use Rattle.std.specs.Prelude.{ℕ, ◌≤◌, ◌==◌, if◌then◌else◌, max, ℤ, unsigned_abs, List, [], ◌∷◌}
use Rattle.geo_triple.specs.declared.Triple.{Triple}
use Rattle.geo_triple.specs.Sums.{Sizes, of_sizes, sizes_of, largest_of, cross_sums, dot_sum, determinant_sum, blend_sums, cut_sums}
use Rattle.geo_sketch.specs.declared.elements.Def.{Def}
use Rattle.geo_sketch.specs.declared.elements.Def.TheVariants.{Free, Fixed, Cut, Blend, Cross}
use Rattle.geo_sketch.specs.declared.statements.Statement.{Statement}
use Rattle.geo_sketch.specs.declared.statements.Statement.TheVariants as statement
use Rattle.geo_sketch.specs.Assignments.{first_parameter, second_parameter}

-- the magnitude of a parameter in a list; 0 where none is given
abbrev pub magnitude_of : List (ℕ × ℕ) → ℕ → ℕ
magnitude_of [] p = 0
magnitude_of (entry ∷ entries) p = if entry.0 == p then entry.1 else magnitude_of entries p

-- each value of the assignment is in absolute value at most its magnitude
abbrev pub IsWithin : (ℕ → ℤ) → (ℕ → ℕ) → Type 0
IsWithin v m = (p : ℕ) → unsigned_abs (v p) ≤ m p

-- each number is in absolute value at most h
abbrev pub AreAtMost : ℕ → List ℤ → Type 0
AreAtMost h [] = Unit {0}
AreAtMost h (z ∷ zs) = (unsigned_abs z ≤ h) × AreAtMost h zs

-- ---- the terms of what is computed, added up in absolute value
-- for each coordinate of the element n with this definition at v, from the triples of others
abbrev pub sums_by : (ℕ → ℤ) → ℕ → Def → (ℕ → Triple) → Sizes
sums_by v n Free triples = of_sizes (unsigned_abs (v (first_parameter n))) (unsigned_abs (v (second_parameter n))) 1
sums_by v n (Fixed a b c) triples = of_sizes (unsigned_abs a) (unsigned_abs b) (unsigned_abs c)
sums_by v n (Cut k) triples = cut_sums (sizes_of (triples k)) (unsigned_abs (v (first_parameter n)))
sums_by v n (Blend k l) triples = blend_sums (sizes_of (triples k)) (sizes_of (triples l)) (unsigned_abs (v (first_parameter n)))
sums_by v n (Cross k l) triples = cross_sums (sizes_of (triples k)) (sizes_of (triples l))

-- for the parts of a statement, the largest of them
abbrev pub statement_sum : Statement → (ℕ → Triple) → ℕ
statement_sum (statement.Null n) triples = largest_of (sizes_of (triples n))
statement_sum (statement.Same n k) triples = largest_of (cross_sums (sizes_of (triples n)) (sizes_of (triples k)))
statement_sum (statement.On n k) triples = dot_sum (sizes_of (triples n)) (sizes_of (triples k))
statement_sum (statement.Triple n k l) triples = max (largest_of (cross_sums (sizes_of (triples k)) (sizes_of (triples l)))) (determinant_sum (sizes_of (triples n)) (sizes_of (triples k)) (sizes_of (triples l)))
