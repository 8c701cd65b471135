use Rattle.std.proofs.Common.{map, arith}
use Rattle.geo_degree.specs.Grids.{axis_values}
use Rattle.geo_degree.proofs.ZeroLaws.{are_zero, has_enough, zero_on_points}
use Rattle.geo_settle.proofs.PartLaws.{one_more_part}
use Rattle.geo_settle.proofs.parts.zero_everywhere.Goals as goal

pub loop-number-preserved : goal.loop-number-preserved
loop-number-preserved g c =
    let q = g.F.Form.question c.args.form.now in
    let form = g.met.F.Form.is_form c.args.form.now in
    let k = c.loop-number.number in
    one_more_part q k c.loop-number.invariant (c.zero_on_triangles.ensures (map axis_values q.axes) (has_enough q form k) (zero_on_points q form k c.requires))

pub returns : goal.returns
returns g c =
    let q = g.F.Form.question c.args.form.now in
    λ xs l. are_zero (q.parts_at xs) (λ k m. c.loop-number.invariant k xs (omega (arith, c.parts-count.ensures xs l)) l)
