use Rattle.std.proofs.Common.{ap, ◌∙◌, le_trans, rules}
use Rattle.std.specs.Int.{w128}
use Rattle.std.proofs.lemmas.Int.{to_z-of_z}
use Rattle.geo_triple.specs.Triple.{determinant_of, dot_of}
use Rattle.geo_triple.specs.Sums.{FitIn, sizes_of, cross_sums, determinant_sum}
use Rattle.geo_triple.proofs.Sums.{fit_refl, dot_sum-grows, largest-grows, cross-fits}
use Rattle.geo_triple.proofs.narrow.NarrowWidth.det.Goals as goal

pub dot-requires-clause-sum : goal.dot-requires-clause-sum
unfolding determinant_sum
dot-requires-clause-sum c =
    let s = c.args.s.now in
    let t = c.args.t.now in
    let u = c.args.u.now in
    let small : FitIn (sizes_of c.cross.result) (cross_sums (sizes_of t) (sizes_of u)) =
    rw c.cross.ensures (cross-fits t u (sizes_of t) (sizes_of u) (fit_refl _) (fit_refl _))
    in
    le_trans (dot_sum-grows (sizes_of s) (sizes_of s) _ _ (fit_refl _) small) c.requires.sum

pub dot-requires-clause-second : goal.dot-requires-clause-second
dot-requires-clause-second c =
    let t = c.args.t.now in
    let u = c.args.u.now in
    let small : FitIn (sizes_of c.cross.result) (cross_sums (sizes_of t) (sizes_of u)) =
    rw c.cross.ensures (cross-fits t u (sizes_of t) (sizes_of u) (fit_refl _) (fit_refl _))
    in
    le_trans (largest-grows _ _ small) c.requires.minors

pub returns : goal.returns
unfolding determinant_of
returns c =
    to_z-of_z w128 c.dot.result (search rules) ∙ c.dot.ensures ∙ ap (dot_of c.args.s.now) c.cross.ensures
