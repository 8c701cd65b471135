-- What is computed along a construction, one element after another: one
-- recursion, for triples, heights, degrees and dependence alike.
use Rattle.std.specs.Prelude.{◌≡◌, ℕ, ℤ, ◌<◌, ◌==◌, if◌then◌else◌, Option, None, Some, List, [], ◌∷◌, reverse}
use Rattle.geo_sketch.specs.declared.elements.Def.{Def}
use Rattle.geo_sketch.specs.declared.elements.Def.TheVariants.{Free, Fixed, Cut, Blend, Cross}
use Rattle.geo_sketch.specs.declared.elements.Element.{Element}
use Rattle.geo_sketch.specs.Lookups.{numbered, def_at, IsLive, Rises}

-- what is computed by each definition; each case is told the element's number,
-- and absent is for a number that no element has
pub record Algebra (X : Type 0) : Type 0 where
  pub absent : ℕ → X
  pub free : ℕ → X
  pub fixed : ℕ → ℤ → ℤ → ℤ → X
  pub cut : ℕ → X → X
  pub blend : ℕ → X → X → X
  pub cross : ℕ → X → X → X

-- for the element n with this definition, from what is computed for earlier ones
abbrev pub by_def : {X : Type 0} → Algebra X → ℕ → Def → (ℕ → X) → X
by_def A n Free earlier = A.free n
by_def A n (Fixed a b c) earlier = A.fixed n a b c
by_def A n (Cut k) earlier = A.cut n (earlier k)
by_def A n (Blend k m) earlier = A.blend n (earlier k) (earlier m)
by_def A n (Cross k m) earlier = A.cross n (earlier k) (earlier m)

-- along a list with the newest element first
abbrev pub along : {X : Type 0} → Algebra X → List Element → ℕ → X
along A [] n = A.absent n
along A (e ∷ older) n = if e.number == n then by_def A n e.def (along A older) else along A older n

-- for the element n of a list by rising number
abbrev pub computed : {X : Type 0} → Algebra X → List Element → ℕ → X
computed A es n = along A (reverse es) n

-- ---- the textbook equation, which is a law
-- for element n, by its definition where it has one
abbrev pub by_found : {X : Type 0} → Algebra X → ℕ → Option Def → (ℕ → X) → X
by_found A n None earlier = A.absent n
by_found A n (Some d) earlier = by_def A n d earlier

-- what is computed for each number is what its definition makes of what is
-- computed for the numbers that it names: a law where numbers rise and each
-- definition names smaller ones
abbrev pub IsStepwise : {X : Type 0} → Algebra X → List Element → Type 0
IsStepwise A es = (n : ℕ) → computed A es n ≡ by_found A n (def_at es n) (computed A es)

-- ---- the numbers that a definition names
-- P holds of each of them
abbrev pub AtNamed : Def → (ℕ → Type 0) → Type 0
AtNamed Free P = Unit {0}
AtNamed (Fixed a b c) P = Unit {0}
AtNamed (Cut k) P = P k
AtNamed (Blend k m) P = P k × P m
AtNamed (Cross k m) P = P k × P m

-- numbers rise, and each definition names earlier elements of the list
pub record IsConstruction (es : List Element) : Type 0 where
  pub rising : Rises 0 es
  pub named : (n : ℕ) (e : Element) → numbered es n ≡ Some e → AtNamed e.def (λ k. (k < n) × IsLive es k)
