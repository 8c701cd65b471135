-- The definitions on worked figures: each line computes.
use Rattle.std.proofs.Common.{◌≡◌, refl, ℕ, suc, List, [], ◌∷◌, pos, negsuc}
use Rattle.geo_sketch.specs.declared.elements.Def.{Def}
use Rattle.geo_sketch.specs.declared.elements.Def.TheVariants.{Free, Fixed, Blend, Cross}
use Rattle.geo_sketch.specs.declared.elements.Element.{Element}
use Rattle.geo_sketch.specs.declared.elements.Kind.TheVariants.{Point}
use Rattle.geo_sketch.specs.declared.statements.Statement.TheVariants.{Same, Triple}
use Rattle.geo_degree.specs.declared.grids.Block.{Block}
use Rattle.geo_degree.specs.declared.grids.Block.TheVariants.{One, Pair}
use Rattle.geo_degree.specs.Blocks.{blocks_of, points_of, points_of_all, rank}
use Rattle.geo_degree.specs.Grids.{grid_point, grid_size}

-- elements with rising numbers; no definition here looks at names and kinds
abbrev elements_from : ℕ → List Def → List Element
elements_from n [] = []
elements_from n (d ∷ ds) = record { number = n; name = 65 ∷ []; kind = Point; def = d } ∷ elements_from (suc n) ds

size_of : List Block → ℕ
size_of bs = grid_size (points_of_all bs)

-- ---- points
a_triangle : points_of (Pair 2) ≡ (pos 0 ∷ pos 0 ∷ []) ∷ (pos 0 ∷ pos 1 ∷ []) ∷ (pos 0 ∷ negsuc 0 ∷ []) ∷ (pos 1 ∷ pos 0 ∷ []) ∷ (pos 1 ∷ pos 1 ∷ []) ∷ (negsuc 0 ∷ pos 0 ∷ []) ∷ []
a_triangle = refl

-- where three free points are first found not to be collinear
a_point : grid_point (points_of_all (Pair 1 ∷ Pair 1 ∷ Pair 1 ∷ [])) 5 ≡ pos 0 ∷ pos 0 ∷ pos 0 ∷ pos 1 ∷ pos 1 ∷ pos 0 ∷ []
a_point = refl

-- and three meets, each of the joins of two pairs of free points
a_rank : rank (Pair 1 ∷ Pair 1 ∷ Pair 1 ∷ Pair 1 ∷ Pair 1 ∷ Pair 1 ∷ Pair 1 ∷ Pair 1 ∷ Pair 1 ∷ Pair 1 ∷ Pair 1 ∷ Pair 1 ∷ []) (0 ∷ 0 ∷ 0 ∷ 1 ∷ 0 ∷ 0 ∷ 1 ∷ 0 ∷ 0 ∷ 0 ∷ 0 ∷ 1 ∷ 0 ∷ 1 ∷ 1 ∷ 0 ∷ 0 ∷ 0 ∷ 1 ∷ 0 ∷ 0 ∷ 1 ∷ 1 ∷ 0 ∷ []) ≡ 73328
a_rank = refl

-- ---- two lines through a point meet in it
two_lines : blocks_of (elements_from 0 (Free ∷ Free ∷ Free ∷ Cross 0 1 ∷ Cross 0 2 ∷ Cross 3 4 ∷ [])) (Same 0 5) ≡ Pair 3 ∷ Pair 1 ∷ Pair 1 ∷ []
two_lines = refl

two_lines_size : size_of (Pair 3 ∷ Pair 1 ∷ Pair 1 ∷ []) ≡ 90
unfolding size_of
two_lines_size = refl

-- ---- Desargues' figure with a fixed centre
abbrev desargues : List Element
desargues = elements_from 0 (Fixed (pos 0) (pos 0) (pos 1) ∷ Free ∷ Free ∷ Free ∷ Blend 0 1 ∷ Blend 0 2 ∷ Blend 0 3 ∷ Cross 1 2 ∷ Cross 4 5 ∷ Cross 7 8 ∷ Cross 2 3 ∷ Cross 5 6 ∷ Cross 10 11 ∷ Cross 3 1 ∷ Cross 6 4 ∷ Cross 13 14 ∷ [])

of_desargues : blocks_of desargues (Triple 9 12 15) ≡ Pair 4 ∷ Pair 4 ∷ Pair 4 ∷ One 2 ∷ One 2 ∷ One 2 ∷ []
of_desargues = refl

desargues_size : size_of (Pair 4 ∷ Pair 4 ∷ Pair 4 ∷ One 2 ∷ One 2 ∷ One 2 ∷ []) ≡ 91125
unfolding size_of
desargues_size = refl

-- ---- Pappus' figure, whose first two points are defined so
abbrev pappus : Def → List Element
pappus d = elements_from 0 (d ∷ d ∷ Blend 0 1 ∷ Free ∷ Free ∷ Blend 3 4 ∷ Cross 0 4 ∷ Cross 1 3 ∷ Cross 6 7 ∷ Cross 0 5 ∷ Cross 2 3 ∷ Cross 9 10 ∷ Cross 1 5 ∷ Cross 2 4 ∷ Cross 12 13 ∷ [])

of_pappus : blocks_of (pappus Free) (Triple 8 11 14) ≡ Pair 4 ∷ Pair 4 ∷ One 2 ∷ Pair 4 ∷ Pair 4 ∷ One 2 ∷ []
of_pappus = refl

pappus_size : size_of (Pair 4 ∷ Pair 4 ∷ One 2 ∷ Pair 4 ∷ Pair 4 ∷ One 2 ∷ []) ≡ 455625
unfolding size_of
pappus_size = refl

of_pappus_fixed : blocks_of (pappus (Fixed (pos 0) (pos 1) (pos 1))) (Triple 8 11 14) ≡ One 2 ∷ Pair 4 ∷ Pair 4 ∷ One 2 ∷ []
of_pappus_fixed = refl

pappus_fixed_size : size_of (One 2 ∷ Pair 4 ∷ Pair 4 ∷ One 2 ∷ []) ≡ 2025
unfolding size_of
pappus_fixed_size = refl
