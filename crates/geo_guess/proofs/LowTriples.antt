-- The triples at the sample positions are small enough for what is computed from them.
use Rattle.std.proofs.Common.{ℕ, ◌≤◌, ◌^◌, max, unsigned_abs, arith, le_trans}
use Rattle.std.proofs.lemmas.Grind.{common_steps}
use Rattle.std.proofs.lemmas.Int.{ints}
use Rattle.geo_triple.specs.declared.Triple.{Triple}
use Rattle.geo_triple.specs.Sums.{sizes_of, largest_of, cross_sums, dot_sum, determinant_sum, blend_sums, cut_sums}
use Rattle.geo_triple.specs.Triple.{zero_triple}
use Rattle.geo_triple.proofs.Sums.{largest_bound, largest-grows, fit_refl, blend_sums-grows, cross_sums-plain, dot_sum-plain, determinant_sum-plain, blend_sums-plain, cut_sums-plain}
use Rattle.geo_sketch.specs.PlainHeights.{threes}
use Rattle.geo_sketch.specs.declared.limits.TheConstants.{HEIGHT_LIMIT}
use Rattle.geo_sketch.specs.Samples.{sample_value}
use Rattle.geo_sketch.specs.Sketches.{Drawing, IsDrawn}
use Rattle.geo_sketch.specs.Triples.{triple_at}
use Rattle.geo_sketch.proofs.PlainHeightLaws.{low}
use Rattle.geo_sketch.proofs.SketchLaws.{constructed}
use Rattle.geo_height.proofs.HeightLaws.{fits, plain_below}
use Rattle.geo_guess.specs.Samples.{IsLow}

pub zero_low : IsLow zero_triple
zero_low = largest_bound (sizes_of zero_triple) HEIGHT_LIMIT (omega arith) (omega arith) (omega arith)

pub cross_within : (s t : Triple) → IsLow s → IsLow t → largest_of (cross_sums (sizes_of s) (sizes_of t)) ≤ 2 ^ 126
cross_within s t h g = omega (arith, cross_sums-plain (sizes_of s) (sizes_of t) HEIGHT_LIMIT HEIGHT_LIMIT h g)

pub dot_within : (s t : Triple) → IsLow s → IsLow t → dot_sum (sizes_of s) (sizes_of t) ≤ 2 ^ 126
dot_within s t h g = omega (arith, dot_sum-plain (sizes_of s) (sizes_of t) HEIGHT_LIMIT HEIGHT_LIMIT h g)

pub determinant_within : (s t u : Triple) → IsLow s → IsLow t → IsLow u → determinant_sum (sizes_of s) (sizes_of t) (sizes_of u) ≤ 2 ^ 126
determinant_within s t u h g f = omega (arith, determinant_sum-plain (sizes_of s) (sizes_of t) (sizes_of u) HEIGHT_LIMIT HEIGHT_LIMIT HEIGHT_LIMIT h g f)

pub cut_within : (t : Triple) (m : ℕ) → IsLow t → m ≤ 3 → largest_of (cut_sums (sizes_of t) m) ≤ 2 ^ 126
cut_within t m h small = omega (arith, cut_sums-plain (sizes_of t) HEIGHT_LIMIT m h, small)

pub blend_within : (s t : Triple) (m : ℕ) → IsLow s → IsLow t → m ≤ 3 → largest_of (blend_sums (sizes_of s) (sizes_of t) m) ≤ 2 ^ 126
blend_within s t m h g small =
    let more : m ≤ max 1 3 = omega (arith, small) in
    let grown = largest-grows _ _ (blend_sums-grows (sizes_of s) (sizes_of s) (sizes_of t) (sizes_of t) m (max 1 3) (fit_refl _) (fit_refl _) more) in
    omega (arith, grown, blend_sums-plain (sizes_of s) (sizes_of t) HEIGHT_LIMIT HEIGHT_LIMIT 3 h g)

-- sample values lie from -3 to 3
pub small : (s p : ℕ) → unsigned_abs (sample_value s p) ≤ 3
small s p = grind (arith, ints, common_steps)

pub sample_low : (drawing : Drawing) (drawn : IsDrawn drawing) (position n : ℕ) → IsLow (triple_at drawing.elements n (sample_value position))
sample_low drawing drawn position n =
    let es = drawing.elements in
    le_trans (largest-grows _ _ (fits es (constructed drawing drawn) (sample_value position) threes (small position) n))
    (le_trans (plain_below drawing drawn threes n) (low es drawing.settings drawing.claims drawn n))
