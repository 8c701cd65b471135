use Rattle.std.proofs.Common.{[], ◌∷◌}
use Rattle.geo_law.proofs.ExampleUses.{triangle, triangle_points}
use Rattle.geo_law.proofs.examples.zero_at_six_points.Goals as goal

pub returns : goal.returns
returns c =
    let f = c.args.form.now in
    λ xs ys dx dy lx ly z. c.zero_on_triangles.ensures (xs ∷ ys ∷ []) (triangle f xs ys dx dy lx ly) (triangle_points f xs ys dx dy lx z)
