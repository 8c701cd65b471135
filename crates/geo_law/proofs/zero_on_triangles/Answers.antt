use Rattle.geo_law.proofs.GridLaws.{zero_by_triangles}
use Rattle.geo_law.proofs.zero_on_triangles.Goals as goal

pub returns : goal.returns
returns g c =
    let q = c.args.quantity.now in
    λ grid enough.
    zero_by_triangles (g.Q.Quantity.variables q) (g.Q.PairQuantity.pairs q) (g.Q.Quantity.value q) (g.Q.Quantity.coefficients q) (g.Q.PairQuantity.table q) (g.met.Q.Quantity.agrees q) (g.met.Q.PairQuantity.pairs_agree q) grid enough (g.met.Q.PairQuantity.pairs_apart q)
