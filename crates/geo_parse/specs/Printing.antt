-- The canonical spelling of a command.
use Rattle.std.specs.Prelude.{◌≤◌, ℕ, ℤ, List, [], map, unsigned_abs}
use Rattle.std.specs.List.{AllByRecursion, join_with_byte}
use Rattle.std.specs.Fmt.{signed_decimal}
use Rattle.geo_parse.specs.declared.commands.Command.{Command}
use Rattle.geo_parse.specs.Grammar.{Part, text, name, number, nothing, parts}
use Rattle.geo_sketch.specs.declared.limits.TheConstants.{COORDINATE_LIMIT}

-- a word without leading zeros
abbrev pub written : Part → List ℕ
written (text t) = t
written (name n) = n
written (number z) = signed_decimal z
written nothing = []

-- each word as it is written, with one space between two
abbrev pub canonical : Command → List ℕ
canonical c = join_with_byte 32 (map written (parts c))

-- a number from -1000 to 1000
abbrev pub IsSmall : ℤ → Type 0
IsSmall z = unsigned_abs z ≤ COORDINATE_LIMIT

-- a number is small, and there is a word to write
abbrev pub CanStand : Part → Type 0
CanStand (text t) = Unit {0}
CanStand (name n) = Unit {0}
CanStand (number z) = IsSmall z
CanStand nothing = ⊥

-- a command that can be written: its numbers are from -1000 to 1000, and where it drags it sets a value
abbrev pub IsWritable : Command → Type 0
IsWritable c = AllByRecursion CanStand (parts c)
