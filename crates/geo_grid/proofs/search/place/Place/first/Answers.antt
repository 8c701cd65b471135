use Rattle.std.proofs.Common.{◌∙◌, ap, length}
use Rattle.geo_grid.proofs.Changes.{first_point}
use Rattle.geo_grid.proofs.Wheeling.{one_wheel_each}
use Rattle.geo_grid.proofs.search.place.Place.first.Goals as goal

pub invariant_of-result : goal.invariant_of-result
invariant_of-result c =
    let count = length c.wheels-count.result.now in
    rw (c.in_ok-digits.ensures, c.in_ok-values.ensures) (first_point c.args.grid.now count (ap (λ ws. length ws) c.wheels-count.ensures ∙ one_wheel_each c.args.grid.now))
