-- What the writers of words ensure of one another.
use Rattle.std.specs.Prelude.{◌≡◌, ℕ, List, [], ◌∷◌, length, take}
use Rattle.geo_parse.specs.Grammar.{Part, text, name, number, nothing}

-- the names among the words of a command
abbrev pub names_of : List Part → List (List ℕ)
names_of [] = []
names_of (text t ∷ ps) = names_of ps
names_of (name n ∷ ps) = n ∷ names_of ps
names_of (number z ∷ ps) = names_of ps
names_of (nothing ∷ ps) = names_of ps

-- bytes, and then maybe more
abbrev pub Extends : List ℕ → List ℕ → Type 0
Extends old new = take (length old) new ≡ old
