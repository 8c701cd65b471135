use Rattle.std.proofs.Common.{[], ◌∷◌}
use Rattle.geo_law.proofs.ExampleUses.{rectangle, rectangle_points}
use Rattle.geo_law.proofs.examples.zero_at_corners.Goals as goal

pub returns : goal.returns
returns c =
    let f = c.args.form.now in
    λ xs ys dx dy lx ly z. c.zero_on_grid.ensures (xs ∷ ys ∷ []) (rectangle f xs ys dx dy lx ly) (rectangle_points f xs ys dx dy lx ly z)
