-- The definitions, computed on a small construction: the points (0, 0) and (4, 2), the
-- line through them, and a point on it.
use Rattle.std.proofs.Common.{◌≡◌, refl, ℕ, ℤ, pos, negsuc, true, false, List, [], ◌∷◌}
use Rattle.geo_triple.specs.Sums.{cross_sums, dot_sum, of_sizes}
use Rattle.geo_triple.specs.Triple.{cross_of, cut_of}
use Rattle.geo_sketch.specs.declared.elements.Kind.TheVariants.{Point, Line}
use Rattle.geo_sketch.specs.declared.elements.Def.TheVariants.{Fixed, Cut, Cross}
use Rattle.geo_sketch.specs.declared.elements.Element.{Element}
use Rattle.geo_sketch.specs.declared.statements.Statement.TheVariants.{On, Triple}
use Rattle.geo_sketch.specs.Triples.{triple_at, of_coordinates}
use Rattle.geo_sketch.specs.Statements.{parts_at}
use Rattle.geo_sketch.specs.Assignments.{assignment_of}
use Rattle.geo_sketch.specs.Heights.{heights_at, statement_height}
use Rattle.geo_sketch.specs.PlainHeights.{plain_height_of, threes}
use Rattle.geo_sketch.specs.Dependence.{depends_on}
use Rattle.geo_sketch.specs.PlainStatements.{is_plain}

abbrev sketched : List Element
sketched =
    record { number = 0; name = 65 ∷ []; kind = Point; def = Fixed (pos 0) (pos 0) (pos 1) }
    ∷ record { number = 1; name = 66 ∷ []; kind = Point; def = Fixed (pos 4) (pos 2) (pos 1) }
    ∷ record { number = 2; name = 108 ∷ []; kind = Line; def = Cross 0 1 }
    ∷ record { number = 3; name = 80 ∷ []; kind = Point; def = Cut 2 }
    ∷ []

-- its parameter is 2
abbrev at_two : ℕ → ℤ
at_two = assignment_of ((6, pos 2) ∷ [])

line : triple_at sketched 2 at_two ≡ of_coordinates (negsuc 1) (pos 4) (pos 0)
unfolding cross_of
line = refl

point : triple_at sketched 3 at_two ≡ of_coordinates (negsuc 7) (negsuc 3) (negsuc 3)
unfolding cross_of cut_of
point = refl

on_line : parts_at sketched (On 2 3) at_two ≡ pos 0 ∷ []
unfolding cross_of cut_of
on_line = refl

line_plain_height : plain_height_of sketched 2 threes ≡ 8
line_plain_height = refl

point_plain_height : plain_height_of sketched 3 threes ≡ 32
point_plain_height = refl

line_heights : heights_at sketched 2 threes ≡ of_sizes 3 5 6
unfolding cross_sums
line_heights = refl

point_heights : heights_at sketched 3 threes ≡ of_sizes 15 15 5
unfolding cross_sums
point_heights = refl

on_height : statement_height sketched (On 2 3) threes ≡ 150
unfolding cross_sums dot_sum
on_height = refl

point_depends : depends_on sketched 3 0 ≡ true
point_depends = refl

line_depends : depends_on sketched 2 3 ≡ false
line_depends = refl

line_plain : is_plain sketched (On 2 3) ≡ true
line_plain = refl

triple_not_plain : is_plain sketched (Triple 0 1 3) ≡ false
triple_not_plain = refl
