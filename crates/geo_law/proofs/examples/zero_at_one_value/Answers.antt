use Rattle.std.proofs.Common.{[], ◌∷◌, pos}
use Rattle.geo_law.proofs.ExampleUses.{one_other, one_other_point}
use Rattle.geo_law.proofs.examples.zero_at_one_value.Goals as goal

pub returns : goal.returns
returns c =
    let a = c.args.multiple.now.number in
    λ r n z. c.zero_on_grid.ensures ((pos 0 ∷ r ∷ []) ∷ []) (one_other a r n) (one_other_point a r z)
