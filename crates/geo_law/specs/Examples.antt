-- What the small quantities of src/examples.rt mean.
use Rattle.std.specs.Prelude.{ℕ, zero, suc, List, [], ◌∷◌, ℤ, pos, ◌+ℤ◌, ◌*ℤ◌, slice_index_or}
use Rattle.geo_law.specs.declared.examples.Bilinear.{Bilinear}

-- a + b x + c y + d x y, where x and y are the two entries
abbrev pub bilinear_value : Bilinear → List ℤ → ℤ
bilinear_value q xs =
    let x = slice_index_or xs 0 (pos 0) in
    let y = slice_index_or xs 1 (pos 0) in
    q.constant +ℤ q.first *ℤ x +ℤ q.second *ℤ y +ℤ q.both *ℤ x *ℤ y

abbrev pub bilinear_coefficients : Bilinear → List ℤ → ℕ → List ℤ
bilinear_coefficients q xs zero =
    let y = slice_index_or xs 1 (pos 0) in
    (q.constant +ℤ q.second *ℤ y) ∷ (q.first +ℤ q.both *ℤ y) ∷ []
bilinear_coefficients q xs (suc place) =
    let x = slice_index_or xs 0 (pos 0) in
    (q.constant +ℤ q.first *ℤ x) ∷ (q.second +ℤ q.both *ℤ x) ∷ []

abbrev pub bilinear_table : Bilinear → List (List ℤ)
bilinear_table q = (q.constant ∷ q.second ∷ []) ∷ (q.first ∷ q.both ∷ []) ∷ []

-- value number i of xs, and value number j of ys
abbrev pub point : List ℤ → List ℤ → ℕ → ℕ → List ℤ
point xs ys i j = slice_index_or xs i (pos 0) ∷ slice_index_or ys j (pos 0) ∷ []

-- a multiple of the first entry
abbrev pub multiple_value : ℤ → List ℤ → ℤ
multiple_value a xs = a *ℤ slice_index_or xs 0 (pos 0)
