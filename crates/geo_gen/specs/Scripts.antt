-- The script of a seed: Desargues' figure, a thousand changes of it, and what it comes to.
use Rattle.std.specs.Prelude.{ℕ, zero, suc, ◌+◌, ◌==◌, nat_lt, if◌then◌else◌, ◌++◌, ℤ, List, [], ◌∷◌, codes}
use Rattle.std.specs.Fmt.{signed_decimal}
use Rattle.rand_pcg.specs.Lcg.{Lcg}
use Rattle.geo_gen.specs.Draws.{Draw, centred, generator_of, pick}

-- some text, and the generator behind the draws that it took
pub record Drawn : Type 0 where
  pub text : List ℕ
  pub rest : Lcg

-- the line that drags the element of this letter to x and y
unfoldable pub coordinates_line : ℕ → ℤ → ℤ → List ℕ
coordinates_line name x y = codes "drag " ++ ((name ∷ []) ++ (codes " " ++ (signed_decimal x ++ (codes " " ++ (signed_decimal y ++ codes "\n")))))

-- and the one that sets its ratio to t
unfoldable pub ratio_line : ℕ → ℤ → List ℕ
ratio_line name t = codes "drag " ++ ((name ∷ []) ++ (codes " " ++ (signed_decimal t ++ codes "\n")))

-- A, B or C is dragged to x and y, drawn in this order
unfoldable pub point_drag : Lcg → Drawn
point_drag g =
    let name = pick 3 g in
    let x = pick 2001 name.rest in
    let y = pick 2001 x.rest in
    record { text = coordinates_line (65 + name.number) (centred x.number) (centred y.number); rest = y.rest }

-- the ratio of D, E or F is set to t
unfoldable pub ratio_drag : Lcg → Drawn
ratio_drag g =
    let name = pick 3 g in
    let t = pick 2001 name.rest in
    record { text = ratio_line (68 + name.number) (centred t.number); rest = t.rest }

-- by a draw below 8: five parts in eight drag a point, one a ratio, one undoes and one does again
abbrev pub change_by : Draw → Drawn
change_by w =
    if nat_lt w.number 5 then point_drag w.rest else
    if w.number == 5 then ratio_drag w.rest else
    if w.number == 6 then record { text = codes "undo\n"; rest = w.rest } else
    record { text = codes "redo\n"; rest = w.rest }

abbrev pub change : Lcg → Drawn
change g = change_by (pick 8 g)

-- so many lines, one after the other
unfoldable pub changes : ℕ → Lcg → List ℕ
changes zero g = []
changes (suc count) g = (change g).text ++ changes count (change g).rest

-- Desargues with a fixed centre, seventeen lines
unfoldable pub figure : List ℕ
figure = codes "fixpoint O 0 0 1\npoint A 1 0\npoint B 0 1\npoint C -1 -1\nalong D O A 1\nalong E O B 2\nalong F O C 3\njoin ab A B\njoin de D E\nmeet X ab de\njoin bc B C\njoin ef E F\nmeet Y bc ef\njoin ca C A\njoin fd F D\nmeet Z ca fd\nclaim collinear X Y Z\n"

-- 1,019 lines
abbrev pub script_of : ℕ → List ℕ
script_of seed = figure ++ (changes 1000 (generator_of seed) ++ codes "screen\nledger\n")
