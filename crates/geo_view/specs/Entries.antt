-- What a view holds: entries by rising number, and how changes are made of them.
use Rattle.std.specs.Prelude.{ℕ, ◌≤◌, ◌==◌, ◌^◌, suc, nat_lt, not, if◌then◌else◌, unsigned_abs, List, [], ◌∷◌, map, All}
use Rattle.std.specs.List.{filter}
use Rattle.geo_triple.specs.declared.Triple.{Triple}
use Rattle.geo_sketch.specs.Sketches.{other}
use Rattle.geo_eval.specs.declared.here.Here.{Here}
use Rattle.geo_eval.specs.declared.here.Here.TheVariants.{At, NullHere, Far}
use Rattle.geo_view.specs.declared.shown.Change.{Change}
use Rattle.geo_view.specs.declared.shown.Change.TheVariants.{Put, Gone, Dual}
use Rattle.geo_eval.specs.declared.here.Shown.{Shown}
use Rattle.geo_sketch.specs.declared.limits.TheConstants.{HEIGHT_LIMIT}

-- the entries with one more in the place of its number, or in place of the one that has it
abbrev pub put : Shown → List Shown → List Shown
put s [] = s ∷ []
put s (e ∷ es) = if nat_lt e.number s.number then e ∷ put s es else (if e.number == s.number then s ∷ es else s ∷ e ∷ es)

-- how many entries stand before the place of number n
abbrev pub place_in : ℕ → List Shown → ℕ
place_in n [] = 0
place_in n (e ∷ es) = if nat_lt e.number n then suc (place_in n es) else 0

-- those but the one with number n
abbrev pub without : ℕ → List Shown → List Shown
without n es = filter (λ e. not (e.number == n)) es

-- the entry with the other kind
abbrev pub exchanged : Shown → Shown
exchanged e = record { number = e.number; name = e.name; kind = other e.kind; here = e.here }

-- the entries after a change
abbrev pub changed : Change → List Shown → List Shown
changed (Put s) es = put s es
changed (Gone n) es = without n es
changed Dual es = map exchanged es

-- the entries after some changes, made in their order
abbrev pub seen : List Change → List Shown → List Shown
seen [] es = es
seen (c ∷ cs) es = seen cs (changed c es)

-- ---- how large coordinates are
-- each coordinate lies from -2^41 to 2^41
abbrev pub IsNear : Triple → Type 0
IsNear t = (unsigned_abs t.a ≤ HEIGHT_LIMIT) × (unsigned_abs t.b ≤ HEIGHT_LIMIT) × (unsigned_abs t.c ≤ HEIGHT_LIMIT)

abbrev pub IsNearHere : Here → Type 0
IsNearHere (At t) = IsNear t
IsNearHere NullHere = Unit {0}
IsNearHere Far = Unit {0}

abbrev pub IsNearEntry : Shown → Type 0
IsNearEntry e = IsNearHere e.here

abbrev pub IsNearChange : Change → Type 0
IsNearChange (Put s) = IsNearEntry s
IsNearChange (Gone n) = Unit {0}
IsNearChange Dual = Unit {0}

-- so it is in every entry, and in every change
abbrev pub AreNear : List Shown → Type 0
AreNear es = All IsNearEntry es

abbrev pub AreNearChanges : List Change → Type 0
AreNearChanges cs = All IsNearChange cs
