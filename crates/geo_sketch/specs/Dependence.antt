-- Which elements an element depends on: itself, and what the elements that its
-- definition names depend on.
use Rattle.std.specs.Prelude.{◌≡◌, ℕ, ◌==◌, ◌||◌, Bool, true, List}
use Rattle.geo_sketch.specs.declared.elements.Element.{Element}
use Rattle.geo_sketch.specs.Assignments.{first_parameter, second_parameter}
use Rattle.geo_sketch.specs.Constructions.{Algebra, computed}
use Rattle.geo_sketch.specs.Lookups.{def_at}

abbrev pub depends_algebra : ℕ → Algebra Bool
depends_algebra on = record {
  absent = λ n. n == on;
  free = λ n. n == on;
  fixed = λ n a b c. n == on;
  cut = λ n k. (n == on) || k;
  blend = λ n k m. (n == on) || (k || m);
  cross = λ n k m. (n == on) || (k || m);
}

-- element n is this one, or its definition names an element that depends on it
abbrev pub depends_on : List Element → ℕ → ℕ → Bool
depends_on es n on = computed (depends_algebra on) es n

-- two lists, with values of the parameters, agree on the definitions of all that
-- element n depends on and on the parameters of these
abbrev pub AgreeFor : {X : Type 0} → List Element → List Element → (ℕ → X) → (ℕ → X) → ℕ → Type 0
AgreeFor es fs v w n = (on : ℕ) → depends_on es n on ≡ true → (def_at es on ≡ def_at fs on) × (v (first_parameter on) ≡ w (first_parameter on)) × (v (second_parameter on) ≡ w (second_parameter on))
