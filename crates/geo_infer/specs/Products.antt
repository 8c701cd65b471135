-- Products of the parts of two statements.
use Rattle.std.specs.Prelude.{◌≡◌, ℕ, ℤ, pos, ◌*ℤ◌, List, [], ◌∷◌}
use Rattle.std.specs.List.{AllByRecursion}
use Rattle.geo_sketch.specs.declared.elements.Element.{Element}
use Rattle.geo_sketch.specs.declared.statements.Statement.{Statement}
use Rattle.geo_sketch.specs.Statements.{parts_at}
use Rattle.geo_triple.specs.Zero.{AreZero}

-- d times each of the numbers is 0
abbrev pub AreZeroTimes : ℤ → List ℤ → Type 0
AreZeroTimes d [] = Unit {0}
AreZeroTimes d (c ∷ cs) = (d *ℤ c ≡ pos 0) × AreZeroTimes d cs

-- each number of the first list times each of the second is 0
abbrev pub AreZeroProducts : List ℤ → List ℤ → Type 0
AreZeroProducts [] cs = Unit {0}
AreZeroProducts (d ∷ ds) cs = AreZeroTimes d cs × AreZeroProducts ds cs

-- all parts of all these statements are 0
abbrev pub AreAllZero : List Element → List Statement → (ℕ → ℤ) → Type 0
AreAllZero es ss v = AllByRecursion (λ s. AreZero (parts_at es s v)) ss
