-- The lines of a few texts, computed.
use Rattle.std.proofs.Common.{◌≡◌, [], ◌∷◌, ◌++◌, refl, codes}
use Rattle.geo_io.specs.Lines.{lines_of}

-- no bytes, no line
none : lines_of [] ≡ []
none = refl

-- a line feed alone ends an empty line, and nothing follows the last one
ended : lines_of (codes "a\n\nbc\n") ≡ codes "a" ∷ [] ∷ codes "bc" ∷ []
ended = refl

-- what follows the last line feed is a line
unended : lines_of (codes "a\nb") ≡ codes "a" ∷ codes "b" ∷ []
unended = refl

-- one carriage return directly before a line feed goes, and no other does
carriage_returns : lines_of (codes "a\r\r\n\rb\r\nc\r") ≡ (codes "a" ++ 13 ∷ []) ∷ (13 ∷ codes "b") ∷ (codes "c" ++ 13 ∷ []) ∷ []
carriage_returns = refl
