-- One step of a plan: what it makes of the triples before it and of the values of the axes.
use Rattle.std.specs.Prelude.{ℕ, ◌<◌, max, ℤ, pos, unsigned_abs, List, slice_index_or}
use Rattle.geo_triple.specs.declared.Triple.{Triple}
use Rattle.geo_triple.specs.Sums.{blend_sums, cross_sums, cut_sums, largest_of, sizes_of}
use Rattle.geo_triple.specs.Triple.{blend_of, cross_of, cut_of, zero_triple}
use Rattle.geo_sketch.specs.Triples.{of_coordinates}
use Rattle.geo_grid.specs.declared.posing.node.Node.{Node}
use Rattle.geo_grid.specs.declared.posing.node.Node.TheVariants.{Free, Fixed, Cut, Blend, Cross}

-- the value of the axis at a place, and 0 past the last one
abbrev pub axis_value : List ℤ → ℕ → ℤ
axis_value values place = slice_index_or values place (pos 0)

abbrev pub triple_there : List Triple → ℕ → Triple
triple_there triples place = slice_index_or triples place zero_triple

-- the largest coordinate of the triple there, as an absolute value
abbrev pub size_there : List Triple → ℕ → ℕ
size_there triples place = largest_of (sizes_of (triple_there triples place))

abbrev pub node_triple : Node → List Triple → List ℤ → Triple
node_triple (Free x y) triples values = of_coordinates (axis_value values x) (axis_value values y) (pos 1)
node_triple (Fixed a b c) triples values = of_coordinates a b c
node_triple (Cut k by) triples values = cut_of (triple_there triples k) (axis_value values by)
node_triple (Blend k m by) triples values = blend_of (triple_there triples k) (triple_there triples m) (axis_value values by)
node_triple (Cross k m) triples values = cross_of (triple_there triples k) (triple_there triples m)

-- the largest of the numbers from which it is made and of the sums on the way
abbrev pub node_size : Node → List Triple → List ℤ → ℕ
node_size (Free x y) triples values = 0
node_size (Fixed a b c) triples values = 0
node_size (Cut k by) triples values =
    max (size_there triples k) (largest_of (cut_sums (sizes_of (triple_there triples k)) (unsigned_abs (axis_value values by))))
node_size (Blend k m by) triples values =
    max (size_there triples m) (largest_of (blend_sums (sizes_of (triple_there triples k)) (sizes_of (triple_there triples m)) (unsigned_abs (axis_value values by))))
node_size (Cross k m) triples values =
    max (max (size_there triples k) (size_there triples m)) (largest_of (cross_sums (sizes_of (triple_there triples k)) (sizes_of (triple_there triples m))))

-- it is made from the first so many triples
abbrev pub IsInside : Node → ℕ → Type 0
IsInside (Free x y) count = Unit {0}
IsInside (Fixed a b c) count = Unit {0}
IsInside (Cut k by) count = k < count
IsInside (Blend k m by) count = (k < count) × (m < count)
IsInside (Cross k m) count = (k < count) × (m < count)
