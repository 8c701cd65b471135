-- Parameters, assignments of whole numbers to them, and the current one of a sketch.
use Rattle.std.specs.Prelude.{ℕ, ◌+◌, ◌*◌, ◌/◌, ◌==◌, if◌then◌else◌, ℤ, pos, unsigned_abs, List, [], ◌∷◌, slice_index_or}
use Rattle.geo_sketch.specs.declared.elements.Def.{Def}
use Rattle.geo_sketch.specs.declared.elements.Def.TheVariants.{Free, Fixed, Cut, Blend, Cross}
use Rattle.geo_sketch.specs.declared.elements.Setting.{Setting}
use Rattle.geo_sketch.specs.declared.elements.Setting.TheVariants as setting
use Rattle.geo_sketch.specs.declared.parameters.OwnParameters.{OwnParameters}
use Rattle.geo_sketch.specs.declared.parameters.OwnParameters.TheVariants as parameters

-- ---- the parameters of element n, as far as it has them, and the element of a parameter
abbrev pub first_parameter : ℕ → ℕ
first_parameter n = 2 * n

abbrev pub second_parameter : ℕ → ℕ
second_parameter n = 2 * n + 1

abbrev pub element_of_parameter : ℕ → ℕ
element_of_parameter p = p / 2

-- the parameters of element n with this definition
abbrev pub own_parameters : ℕ → Def → List ℕ
own_parameters n Free = first_parameter n ∷ second_parameter n ∷ []
own_parameters n (Fixed a b c) = []
own_parameters n (Cut k) = first_parameter n ∷ []
own_parameters n (Blend k m) = first_parameter n ∷ []
own_parameters n (Cross k m) = []

-- in a list
abbrev pub parameters_in : OwnParameters → List ℕ
parameters_in parameters.None = []
parameters_in (parameters.One p) = p ∷ []
parameters_in (parameters.Two p q) = p ∷ q ∷ []

-- ---- assignments
-- a finite map from parameters to whole numbers; a parameter without an entry is 0
abbrev pub assignment_of : List (ℕ × ℤ) → ℕ → ℤ
assignment_of [] p = pos 0
assignment_of (entry ∷ entries) p = if entry.0 == p then entry.1 else assignment_of entries p

-- the setting of element n
abbrev pub setting_of : List Setting → ℕ → Setting
setting_of ss n = slice_index_or ss n setting.None

-- the value of an element's first parameter, and of its second; 0 where it has none
abbrev pub first_value : Setting → ℤ
first_value setting.None = pos 0
first_value (setting.One t) = t
first_value (setting.Two x y) = x

abbrev pub second_value : Setting → ℤ
second_value setting.None = pos 0
second_value (setting.One t) = pos 0
second_value (setting.Two x y) = y

-- the current value of a parameter
abbrev pub current : List Setting → ℕ → ℤ
current ss p = if p == first_parameter (element_of_parameter p) then first_value (setting_of ss (element_of_parameter p)) else second_value (setting_of ss (element_of_parameter p))

-- the absolute value of each parameter, as its magnitude
abbrev pub magnitudes : (ℕ → ℤ) → ℕ → ℕ
magnitudes v p = unsigned_abs (v p)
