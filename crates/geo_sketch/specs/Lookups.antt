-- Lists of elements by rising number, and looking up in them by number and by name.
use Rattle.std.specs.Prelude.{◌≡◌, ℕ, ◌+◌, ◌≤◌, ◌==◌, if◌then◌else◌, Option, None, Some, option_map, List, [], ◌∷◌}
use Rattle.std.specs.Str.{bytes_eq}
use Rattle.geo_sketch.specs.declared.elements.Kind.{Kind}
use Rattle.geo_sketch.specs.declared.elements.Def.{Def}
use Rattle.geo_sketch.specs.declared.elements.Element.{Element}

-- numbers rise strictly, from low on
abbrev pub Rises : ℕ → List Element → Type 0
Rises low [] = Unit {0}
Rises low (e ∷ es) = (low ≤ e.number) × Rises (e.number + 1) es

-- ---- by number
-- the live element with number n
abbrev pub numbered : List Element → ℕ → Option Element
numbered [] n = None
numbered (e ∷ es) n = if e.number == n then Some e else numbered es n

abbrev pub IsLive : List Element → ℕ → Type 0
IsLive es n = (e : Element) × (numbered es n ≡ Some e)

abbrev pub kind_at : List Element → ℕ → Option Kind
kind_at es n = option_map (λ e. e.kind) (numbered es n)

abbrev pub def_at : List Element → ℕ → Option Def
def_at es n = option_map (λ e. e.def) (numbered es n)

-- ---- by name
-- the element with this name
abbrev pub find_named : List Element → List ℕ → Option Element
find_named [] name = None
find_named (e ∷ es) name = if bytes_eq e.name name then Some e else find_named es name

-- its number
abbrev pub number_named : List Element → List ℕ → Option ℕ
number_named es name = option_map (λ e. e.number) (find_named es name)
