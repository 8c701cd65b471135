-- The current values of an element's own parameters.
-- lemmas for other crates
use Rattle.std.proofs.Common.{◌≡◌, refl, ℕ, ◌==◌, true, false, List, arith}
use Rattle.std.proofs.lemmas.Bool.{eq-eqb, ne_eqb}
use Rattle.geo_sketch.specs.declared.elements.Setting.{Setting}
use Rattle.geo_sketch.specs.Assignments.{element_of_parameter, first_parameter, second_parameter, first_value, second_value, setting_of, current}

pub of_first_parameter : (n : ℕ) → element_of_parameter (first_parameter n) ≡ n
of_first_parameter n = omega arith

pub of_second_parameter : (n : ℕ) → element_of_parameter (second_parameter n) ≡ n
of_second_parameter n = omega arith

pub current_first : (ss : List Setting) (n : ℕ) → current ss (first_parameter n) ≡ first_value (setting_of ss n)
current_first ss n =
    let first : (first_parameter n == first_parameter n) ≡ true = eq-eqb (first_parameter n) (first_parameter n) refl in
    rw (of_first_parameter n, first) refl

pub current_second : (ss : List Setting) (n : ℕ) → current ss (second_parameter n) ≡ second_value (setting_of ss n)
current_second ss n =
    let second : (second_parameter n == first_parameter n) ≡ false = ne_eqb (second_parameter n) (first_parameter n) (λ q. absurd (omega (arith, q))) in
    rw (of_second_parameter n, second) refl
