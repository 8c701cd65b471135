-- The triple of an element at an assignment of whole numbers to all parameters.
use Rattle.std.specs.Prelude.{ℕ, max, ℤ, pos, unsigned_abs, List}
use Rattle.geo_triple.specs.declared.Triple.{Triple}
use Rattle.geo_triple.specs.Sums.{blend_sums, cross_sums, cut_sums, largest_of, sizes_of}
use Rattle.geo_triple.specs.Triple.{cross_of, blend_of, cut_of, zero_triple}
use Rattle.geo_sketch.specs.declared.elements.Def.{Def}
use Rattle.geo_sketch.specs.declared.elements.Def.TheVariants.{Free, Fixed, Cut, Blend, Cross}
use Rattle.geo_sketch.specs.declared.elements.Element.{Element}
use Rattle.geo_sketch.specs.Constructions.{Algebra, computed}
use Rattle.geo_sketch.specs.Assignments.{first_parameter, second_parameter}

abbrev pub of_coordinates : ℤ → ℤ → ℤ → Triple
of_coordinates a b c = record { a = a; b = b; c = c }

abbrev pub triple_algebra : (ℕ → ℤ) → Algebra Triple
triple_algebra v = record {
  absent = λ n. zero_triple;
  free = λ n. of_coordinates (v (first_parameter n)) (v (second_parameter n)) (pos 1);
  fixed = λ n a b c. of_coordinates a b c;
  cut = λ n s. cut_of s (v (first_parameter n));
  blend = λ n s t. blend_of s t (v (first_parameter n));
  cross = λ n s t. cross_of s t;
}

-- ---- of one definition, from the values of its own parameters and the triples of others
abbrev pub triple_by : Def → ℤ → ℤ → (ℕ → Triple) → Triple
triple_by Free x y triples = of_coordinates x y (pos 1)
triple_by (Fixed a b c) x y triples = of_coordinates a b c
triple_by (Cut k) x y triples = cut_of (triples k) x
triple_by (Blend k m) x y triples = blend_of (triples k) (triples m) x
triple_by (Cross k m) x y triples = cross_of (triples k) (triples m)

-- the largest of the numbers from which it is made and of the sums on the way
abbrev pub size_by : Def → ℤ → (ℕ → Triple) → ℕ
size_by Free x triples = 0
size_by (Fixed a b c) x triples = 0
size_by (Cut k) x triples = max (largest_of (sizes_of (triples k))) (largest_of (cut_sums (sizes_of (triples k)) (unsigned_abs x)))
size_by (Blend k m) x triples = max (largest_of (sizes_of (triples m))) (largest_of (blend_sums (sizes_of (triples k)) (sizes_of (triples m)) (unsigned_abs x)))
size_by (Cross k m) x triples = max (max (largest_of (sizes_of (triples k))) (largest_of (sizes_of (triples m)))) (largest_of (cross_sums (sizes_of (triples k)) (sizes_of (triples m))))

-- ---- of an element
-- the triple of element n at v
abbrev pub triple_at : List Element → ℕ → (ℕ → ℤ) → Triple
triple_at es n v = computed (triple_algebra v) es n
