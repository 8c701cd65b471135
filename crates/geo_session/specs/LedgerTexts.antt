-- The texts of conjectures and of a ledger: statements by the names of their elements, and verdicts.
use Rattle.std.specs.Prelude.{ℕ, ◌/◌, ◌%◌, ◌==◌, if◌then◌else◌, ◌++◌, ℤ, Option, None, Some, List, [], ◌∷◌, flat_map, codes}
use Rattle.std.specs.Fmt.{signed_decimal}
use Rattle.geo_sketch.specs.declared.elements.Def.{Def}
use Rattle.geo_sketch.specs.declared.elements.Def.TheVariants.{Free, Fixed, Cut, Blend, Cross}
use Rattle.geo_sketch.specs.declared.elements.Element.{Element}
use Rattle.geo_sketch.specs.declared.elements.Kind.{Kind}
use Rattle.geo_sketch.specs.declared.elements.Kind.TheVariants.{Point, Line}
use Rattle.geo_sketch.specs.declared.statements.Statement.{Statement}
use Rattle.geo_sketch.specs.declared.statements.Statement.TheVariants as statement
use Rattle.geo_sketch.specs.declared.verdicts.Past.TheVariants.{Size, Height}
use Rattle.geo_sketch.specs.declared.verdicts.Verdict.{Verdict}
use Rattle.geo_sketch.specs.declared.verdicts.Verdict.TheVariants.{Proved, False, Unsettled}
use Rattle.geo_sketch.specs.Lookups.{kind_at, numbered}
use Rattle.geo_sketch.specs.Sketches.{Drawing}
use Rattle.geo_guess.specs.Conjectures.{conjectures_of}

-- ---- statements
abbrev pub name_in : Option Element → List ℕ
name_in None = []
name_in (Some e) = e.name

-- the name of element n
abbrev pub name_at : List Element → ℕ → List ℕ
name_at es n = name_in (numbered es n)

-- a word for elements that are now points, and one for lines
abbrev pub word_for : Option Kind → List ℕ → List ℕ → List ℕ
word_for None of_points of_lines = []
word_for (Some Point) of_points of_lines = of_points
word_for (Some Line) of_points of_lines = of_lines

-- two names, with a space between
abbrev pub two_names : List ℕ → List ℕ → List ℕ
two_names first second = first ++ (codes " " ++ second)

-- the names by rising number, but the point before its line
abbrev pub statement_text : List Element → Statement → List ℕ
statement_text es (statement.Null n) = codes "null " ++ name_at es n
statement_text es (statement.Same n m) = codes "same " ++ two_names (name_at es n) (name_at es m)
statement_text es (statement.On n m) = codes "on " ++ word_for (kind_at es n) (two_names (name_at es n) (name_at es m)) (two_names (name_at es m) (name_at es n))
statement_text es (statement.Triple n m k) = word_for (kind_at es n) (codes "collinear ") (codes "concurrent ") ++ (name_at es n ++ (codes " " ++ two_names (name_at es m) (name_at es k)))

-- a line for each conjecture
abbrev pub conjecture_line : List Element → Statement → List ℕ
conjecture_line es s = statement_text es s ++ codes "\n"

abbrev pub conjectures_text : Drawing → List ℕ
conjectures_text drawing = flat_map (conjecture_line drawing.elements) (conjectures_of drawing.elements)

-- ---- verdicts
-- what a value of an element's first parameter is called, and one of its second: the
-- coordinates of a point are x and y, those of a line u and v, and a ratio is t
abbrev pub first_letter : Def → Kind → List ℕ
first_letter Free Point = codes ".x="
first_letter Free Line = codes ".u="
first_letter (Fixed a b c) kind = codes ".t="
first_letter (Cut k) kind = codes ".t="
first_letter (Blend k m) kind = codes ".t="
first_letter (Cross k m) kind = codes ".t="

abbrev pub second_letter : Kind → List ℕ
second_letter Point = codes ".y="
second_letter Line = codes ".v="

-- the parameter of an element that has this remainder by 2
abbrev pub parameter_text : Option Element → ℕ → List ℕ
parameter_text None r = []
parameter_text (Some e) r = e.name ++ (if r == 0 then first_letter e.def e.kind else second_letter e.kind)

-- a space, a parameter and its value
abbrev pub value_text : List Element → ℕ × ℤ → List ℕ
value_text es v = codes " " ++ (parameter_text (numbered es (v.0 / 2)) (v.0 % 2) ++ signed_decimal v.1)

-- the values at which a statement fails; nothing where it has no axes
abbrev pub values_text : List Element → List (ℕ × ℤ) → List ℕ
values_text es [] = []
values_text es (v ∷ vs) = codes " at" ++ flat_map (value_text es) (v ∷ vs)

abbrev pub verdict_word : Verdict → List ℕ
verdict_word Proved = codes "proved "
verdict_word (False values) = codes "false "
verdict_word (Unsettled Size) = codes "unsettled grid "
verdict_word (Unsettled Height) = codes "unsettled height "

abbrev pub verdict_values : List Element → Verdict → List ℕ
verdict_values es Proved = []
verdict_values es (False values) = values_text es values
verdict_values es (Unsettled past) = []

abbrev pub ledger_line : List Element → Statement → Verdict → List ℕ
ledger_line es s r = verdict_word r ++ (statement_text es s ++ (verdict_values es r ++ codes "\n"))

-- ---- steps
abbrev pub inferred_line : List Element → Statement → List ℕ
inferred_line es s = codes "inferred " ++ (statement_text es s ++ codes "\n")
