-- The text of a picture. One unit is 50 pixels, and the second coordinate points upwards.
use Rattle.std.specs.Prelude.{ℕ, suc, ◌==◌, nat_lt, if◌then◌else◌, ℤ, pos, negsuc, neg_ℤ, ◌-ℤ◌, ◌*ℤ◌, unsigned_abs, List, [], ◌++◌, map, flat_map, codes}
use Rattle.std.specs.Fmt.{signed_decimal}
use Rattle.std.specs.Int.{int_div_euclid}
use Rattle.geo_triple.specs.declared.Triple.{Triple}
use Rattle.geo_sketch.specs.declared.elements.Kind.{Kind}
use Rattle.geo_sketch.specs.declared.elements.Kind.TheVariants.{Point, Line}
use Rattle.geo_eval.specs.declared.here.Here.{Here}
use Rattle.geo_eval.specs.declared.here.Here.TheVariants.{At, NullHere, Far}
use Rattle.geo_eval.specs.declared.here.Shown.{Shown}
use Rattle.geo_view.specs.declared.shown.ViewKind.{ViewKind}
use Rattle.geo_view.specs.declared.shown.ViewKind.TheVariants.{Table, Plane, DualPlane}
use Rattle.geo_view.specs.Entries.{exchanged}

-- ---- a table
abbrev pub kind_word : Kind → List ℕ
kind_word Point = codes "point"
kind_word Line = codes "line"

-- the three coordinates with one space between, or a word
abbrev pub here_text : Here → List ℕ
here_text (At t) = signed_decimal t.a ++ (codes " " ++ (signed_decimal t.b ++ (codes " " ++ signed_decimal t.c)))
here_text NullHere = codes "null"
here_text Far = codes "far"

abbrev pub table_line : Shown → List ℕ
table_line e = e.name ++ (codes " " ++ (kind_word e.kind ++ (codes " " ++ (here_text e.here ++ codes "\n"))))

-- a line for each entry
abbrev pub table_text : List Shown → List ℕ
table_text es = flat_map table_line es

-- ---- a plane
-- the greatest whole number that is at most p / q, for q other than 0
abbrev pub floor_of : ℤ → ℤ → ℤ
floor_of p (pos q) = int_div_euclid p (pos q)
floor_of p (negsuc q) = int_div_euclid (neg_ℤ p) (pos (suc q))

-- how many pixels p / q units are, from the left to the right
abbrev pub across : ℤ → ℤ → ℤ
across p q = floor_of (pos 50 *ℤ p) q

-- and upwards, where pixels are counted downwards
abbrev pub upwards : ℤ → ℤ → ℤ
upwards p q = neg_ℤ (across p q)

-- an attribute of an element of a picture
abbrev pub attribute : List ℕ → List ℕ → List ℕ
attribute key value = codes " " ++ (key ++ (codes "=\"" ++ (value ++ codes "\"")))

unfoldable pub name_text : List ℕ → List ℕ
name_text name = attribute (codes "id") name

unfoldable pub number_text : List ℕ → ℤ → List ℕ
number_text key z = attribute key (signed_decimal z)

abbrev pub circle_text : List ℕ → ℤ → ℤ → List ℕ
circle_text name x y = codes "<circle" ++ (name_text name ++ (number_text (codes "cx") x ++ (number_text (codes "cy") y ++ codes " r=\"4\"/>\n")))

-- an end of a line
unfoldable pub end_text : List ℕ → ℤ → List ℕ → ℤ → List ℕ
end_text x_key x y_key y = number_text x_key x ++ number_text y_key y

unfoldable pub stroke_text : List ℕ
stroke_text = codes " stroke=\"black\"/>\n"

abbrev pub segment_text : List ℕ → ℤ → ℤ → ℤ → ℤ → List ℕ
segment_text name x1 y1 x2 y2 = codes "<line" ++ (name_text name ++ (end_text (codes "x1") x1 (codes "y1") y1 ++ (end_text (codes "x2") x2 (codes "y2") y2 ++ stroke_text)))

-- a point at infinity has no line
abbrev pub point_text : List ℕ → Triple → List ℕ
point_text name t = if unsigned_abs t.c == 0 then [] else circle_text name (across t.a t.c) (upwards t.b t.c)

-- a line that is at most as steep as the diagonals goes from the left edge, 10 units away,
-- to the right one
abbrev pub flat_text : List ℕ → Triple → List ℕ
flat_text name t = segment_text name (neg_ℤ (pos 500)) (upwards (pos 10 *ℤ t.a -ℤ t.c) t.b) (pos 500) (upwards (neg_ℤ (pos 10) *ℤ t.a -ℤ t.c) t.b)

-- a steeper one from the lower edge to the upper one
abbrev pub steep_text : List ℕ → Triple → List ℕ
steep_text name t = segment_text name (across (pos 10 *ℤ t.b -ℤ t.c) t.a) (pos 500) (across (neg_ℤ (pos 10) *ℤ t.b -ℤ t.c) t.a) (neg_ℤ (pos 500))

-- the line at infinity has none
abbrev pub line_text : List ℕ → Triple → List ℕ
line_text name t = if nat_lt (unsigned_abs t.b) (unsigned_abs t.a) then steep_text name t else (if unsigned_abs t.b == 0 then [] else flat_text name t)

abbrev pub at_text : Kind → List ℕ → Triple → List ℕ
at_text Point name t = point_text name t
at_text Line name t = line_text name t

-- what is null or far has no line
abbrev pub drawn_text : Kind → List ℕ → Here → List ℕ
drawn_text kind name (At t) = at_text kind name t
drawn_text kind name NullHere = []
drawn_text kind name Far = []

abbrev pub entry_text : Shown → List ℕ
entry_text e = drawn_text e.kind e.name e.here

unfoldable pub head_text : List ℕ
head_text = codes "<svg xmlns=\"http://www.w3.org/2000/svg\" viewBox=\"-500 -500 1000 1000\">\n"

unfoldable pub foot_text : List ℕ
foot_text = codes "</svg>\n"

-- a line for each entry that is drawn
abbrev pub plane_text : List Shown → List ℕ
plane_text es = head_text ++ (flat_map entry_text es ++ foot_text)

-- ---- by the kind of a view
-- the dual plane shows each point as a line and each line as a point, by the same coordinates
abbrev pub picture_text : ViewKind → List Shown → List ℕ
picture_text Table es = table_text es
picture_text Plane es = plane_text es
picture_text DualPlane es = plane_text (map exchanged es)
