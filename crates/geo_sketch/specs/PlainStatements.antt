-- Statements that hold by construction.
use Rattle.std.specs.Prelude.{◌≡◌, ℕ, ◌==◌, ◌&&◌, ◌||◌, Bool, true, false, Option, None, Some, List}
use Rattle.geo_sketch.specs.declared.elements.Def.{Def}
use Rattle.geo_sketch.specs.declared.elements.Def.TheVariants.{Free, Fixed, Cut, Blend, Cross}
use Rattle.geo_sketch.specs.declared.elements.Element.{Element}
use Rattle.geo_sketch.specs.declared.statements.Statement.{Statement}
use Rattle.geo_sketch.specs.declared.statements.Statement.TheVariants as statement
use Rattle.geo_sketch.specs.Lookups.{def_at}

-- it is a Cut or a Cross that names element n
abbrev pub passes_through : Option Def → ℕ → Bool
passes_through None n = false
passes_through (Some Free) n = false
passes_through (Some (Fixed a b c)) n = false
passes_through (Some (Cut k)) n = k == n
passes_through (Some (Blend k m)) n = false
passes_through (Some (Cross k m)) n = (k == n) || (m == n)

-- it is a Blend of elements n and m
abbrev pub blends : Option Def → ℕ → ℕ → Bool
blends None n m = false
blends (Some Free) n m = false
blends (Some (Fixed a b c)) n m = false
blends (Some (Cut k)) n m = false
blends (Some (Blend k l)) n m = ((k == n) && (l == m)) || ((k == m) && (l == n))
blends (Some (Cross k l)) n m = false

-- an On whose one element is named in the other's Cut or Cross, or a Triple of a
-- Blend and its two arguments
abbrev pub is_plain : List Element → Statement → Bool
is_plain es (statement.Null n) = false
is_plain es (statement.Same n m) = false
is_plain es (statement.On n m) = passes_through (def_at es n) m || passes_through (def_at es m) n
is_plain es (statement.Triple n m k) = blends (def_at es n) m k || (blends (def_at es m) n k || blends (def_at es k) n m)

abbrev pub IsPlain : List Element → Statement → Type 0
IsPlain es s = is_plain es s ≡ true
