-- Lists of three free points, the lines from the first to the other two, the point where
-- these meet, and a point on the first line.
use Rattle.std.proofs.Common.{◌≡◌, refl, ℕ, pos, true, false, None, List, [], ◌∷◌, map, take}
use Rattle.geo_sketch.specs.declared.elements.Kind.{Kind}
use Rattle.geo_sketch.specs.declared.elements.Kind.TheVariants.{Point, Line}
use Rattle.geo_sketch.specs.declared.elements.Def.{Def}
use Rattle.geo_sketch.specs.declared.elements.Def.TheVariants.{Free, Fixed, Cut, Cross}
use Rattle.geo_sketch.specs.declared.elements.Element.{Element}
use Rattle.geo_sketch.specs.declared.statements.Statement.TheVariants.{Null, On, Same, Triple}
use Rattle.geo_sketch.specs.Needs.{needed_list}
use Rattle.geo_sketch.specs.Posing.{is_posed}
use Rattle.geo_sketch.specs.Rebuilding.{is_sound, listed, rebuilt}

abbrev list : List (ℕ × Kind × Def)
list = (0, Point, Free) ∷ (1, Point, Free) ∷ (2, Point, Free) ∷ (3, Line, Cross 0 1) ∷ (4, Line, Cross 0 2) ∷ (5, Point, Cross 3 4) ∷ (6, Point, Cut 3) ∷ []

abbrev elements : List Element
elements = map listed list

-- ---- what is needed
meeting_point : needed_list elements (Same 0 5) ≡ take 6 list
meeting_point = refl

three_points : needed_list elements (Triple 0 1 2) ≡ take 3 list
three_points = refl

point_on_line : needed_list elements (On 3 6) ≡ (0, Point, Free) ∷ (1, Point, Free) ∷ (3, Line, Cross 0 1) ∷ (6, Point, Cut 3) ∷ []
point_on_line = refl

-- ---- which lists make a sketch
whole : is_sound elements ≡ true
whole = refl

passed_over : is_sound (map listed (needed_list elements (On 3 6))) ≡ true
passed_over = refl

not_there : rebuilt ((0, Point, Free) ∷ (3, Line, Cross 0 1) ∷ []) ≡ None
not_there = refl

later : rebuilt ((0, Line, Cross 1 2) ∷ (1, Point, Free) ∷ (2, Point, Free) ∷ []) ≡ None
later = refl

falling : rebuilt ((1, Point, Free) ∷ (0, Point, Free) ∷ []) ≡ None
falling = refl

of_another_kind : rebuilt ((0, Point, Free) ∷ (1, Point, Cut 0) ∷ []) ≡ None
of_another_kind = refl

zero_triple : rebuilt ((0, Point, Fixed (pos 0) (pos 0) (pos 0)) ∷ []) ≡ None
zero_triple = refl

past_the_coordinates : rebuilt ((0, Point, Fixed (pos 1001) (pos 0) (pos 1)) ∷ []) ≡ None
past_the_coordinates = refl

past_the_numbers : rebuilt ((1000, Point, Free) ∷ []) ≡ None
past_the_numbers = refl

-- ---- which statements are posed
meeting_point_posed : is_posed elements (Same 0 5) ≡ true
meeting_point_posed = refl

falling_unposed : is_posed elements (Same 5 0) ≡ false
falling_unposed = refl

repeated_unposed : is_posed elements (Triple 0 1 1) ≡ false
repeated_unposed = refl

line_first : is_posed elements (On 3 6) ≡ true
line_first = refl

two_points_unposed : is_posed elements (On 0 5) ≡ false
two_points_unposed = refl

mixed_unposed : is_posed elements (Triple 0 1 3) ≡ false
mixed_unposed = refl

absent_unposed : is_posed elements (Null 7) ≡ false
absent_unposed = refl
