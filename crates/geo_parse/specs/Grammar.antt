-- The grammar: which lines spell which command.
use Rattle.std.specs.Prelude.{◌≡◌, ◌≤◌, ℕ, ℤ, Bool, true, false, ◌&&◌, ◌||◌, ◌==◌, nat_le, List, [], ◌∷◌, length, Some, codes}
use Rattle.std.specs.List.{list_all}
use Rattle.geo_sketch.specs.Names.{is_name}
use Rattle.geo_sketch.specs.declared.elements.Kind.TheVariants.{Point, Line}
use Rattle.geo_sketch.specs.declared.elements.Spec.TheVariants.{Free, Fixed, Cut, Blend, Cross}
use Rattle.geo_sketch.specs.declared.elements.Setting.TheVariants as to
use Rattle.geo_sketch.specs.declared.statements.Said.{Said}
use Rattle.geo_sketch.specs.declared.statements.Said.TheVariants.{Null, Same, On, Collinear, Concurrent}
use Rattle.geo_parse.specs.declared.commands.Command.{Command}
use Rattle.geo_parse.specs.declared.commands.Command.TheVariants.{Add, Drag, Drop, Claim, Dual, Undo, Redo, Screen, Conjectures, Ledger, Certify, Svg, Show, Close}
use Rattle.geo_parse.specs.Words.{words}
use Rattle.geo_parse.specs.Numbers.{number_of}
use Rattle.geo_parse.specs.declared.limits.TheConstants.{LINE_LIMIT}

-- what a word of a command has to be: this text, this name, this number; or what no word can be
pub data Part : Type 0 where
  text : List ℕ → Part
  name : List ℕ → Part
  number : ℤ → Part
  nothing : Part

-- the words of a statement
abbrev pub statement_parts : Said → List Part
statement_parts (Null e) = text (codes "null") ∷ name e ∷ []
statement_parts (Same e f) = text (codes "same") ∷ name e ∷ name f ∷ []
statement_parts (On p l) = text (codes "on") ∷ name p ∷ name l ∷ []
statement_parts (Collinear p q r) = text (codes "collinear") ∷ name p ∷ name q ∷ name r ∷ []
statement_parts (Concurrent l m n) = text (codes "concurrent") ∷ name l ∷ name m ∷ name n ∷ []

-- the words of a command; a drag that sets no value has none
abbrev pub parts : Command → List Part
parts (Add n Point (Free x y)) = text (codes "point") ∷ name n ∷ number x ∷ number y ∷ []
parts (Add n Line (Free u v)) = text (codes "line") ∷ name n ∷ number u ∷ number v ∷ []
parts (Add n Point (Fixed a b c)) = text (codes "fixpoint") ∷ name n ∷ number a ∷ number b ∷ number c ∷ []
parts (Add n Line (Fixed a b c)) = text (codes "fixline") ∷ name n ∷ number a ∷ number b ∷ number c ∷ []
parts (Add n Point (Cut l t)) = text (codes "on") ∷ name n ∷ name l ∷ number t ∷ []
parts (Add n Line (Cut p t)) = text (codes "through") ∷ name n ∷ name p ∷ number t ∷ []
parts (Add n Point (Blend p q t)) = text (codes "along") ∷ name n ∷ name p ∷ name q ∷ number t ∷ []
parts (Add n Line (Blend l m t)) = text (codes "pencil") ∷ name n ∷ name l ∷ name m ∷ number t ∷ []
parts (Add n Line (Cross p q)) = text (codes "join") ∷ name n ∷ name p ∷ name q ∷ []
parts (Add n Point (Cross l m)) = text (codes "meet") ∷ name n ∷ name l ∷ name m ∷ []
parts (Drag e to.None) = nothing ∷ []
parts (Drag e (to.One x)) = text (codes "drag") ∷ name e ∷ number x ∷ []
parts (Drag e (to.Two x y)) = text (codes "drag") ∷ name e ∷ number x ∷ number y ∷ []
parts (Drop e) = text (codes "drop") ∷ name e ∷ []
parts (Claim s) = text (codes "claim") ∷ statement_parts s
parts (Certify s) = text (codes "certify") ∷ statement_parts s
parts Dual = text (codes "dual") ∷ []
parts Undo = text (codes "undo") ∷ []
parts Redo = text (codes "redo") ∷ []
parts Screen = text (codes "screen") ∷ []
parts Conjectures = text (codes "conjectures") ∷ []
parts Ledger = text (codes "ledger") ∷ []
parts Svg = text (codes "svg") ∷ []
parts (Show k) = text (codes "show") ∷ number k ∷ []
parts (Close k) = text (codes "close") ∷ number k ∷ []

-- a word is what it has to be
abbrev pub Fills : Part → List ℕ → Type 0
Fills (text t) w = w ≡ t
Fills (name n) w = (w ≡ n) × (is_name w ≡ true)
Fills (number z) w = number_of w ≡ Some z
Fills nothing w = ⊥

-- each word is what it has to be, and there are no more and no fewer
abbrev pub FillAll : List Part → List (List ℕ) → Type 0
FillAll [] [] = Unit {0}
FillAll [] (w ∷ ws) = ⊥
FillAll (p ∷ ps) [] = ⊥
FillAll (p ∷ ps) (w ∷ ws) = Fills p w × FillAll ps ws

-- a tab, or a byte from the space to `~`
abbrev pub is_plain : ℕ → Bool
is_plain b = (b == 9) || (nat_le 32 b && nat_le b 126)

-- at most 200 bytes, all of them plain
pub record IsLine (line : List ℕ) : Type 0 where
  pub short : length line ≤ LINE_LIMIT
  pub plain : list_all is_plain line ≡ true

-- the line is a spelling of the command
pub record IsSpelling (line : List ℕ) (c : Command) : Type 0 where
  pub fits : IsLine line
  pub filled : FillAll (parts c) (words line)

-- there is no word, or the first one begins with `#`
abbrev pub is_silent : List (List ℕ) → Bool
is_silent [] = true
is_silent ([] ∷ ws) = false
is_silent ((b ∷ bs) ∷ ws) = b == 35

-- a blank line, or a comment
pub record IsQuiet (line : List ℕ) : Type 0 where
  pub fits : IsLine line
  pub silent : is_silent (words line) ≡ true
