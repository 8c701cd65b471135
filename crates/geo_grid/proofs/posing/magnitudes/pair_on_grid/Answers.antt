use Rattle.std.proofs.Common.{◌∙◌, ℕ, ap, get_or, map, sym, arith}
use Rattle.std.proofs.lemmas.List.{get_or-map, length-map}
use Rattle.geo_degree.specs.Grids.{axis, axis_magnitude}
use Rattle.geo_grid.proofs.PairLaws.{pairs_are}
use Rattle.geo_grid.proofs.posing.magnitudes.pair_on_grid.Goals as goal

pub returns-clause-pairs : goal.returns-clause-pairs
returns-clause-pairs c =
    let old = c.loop-i.invariant in
    let axes = c.args.axes.now in
    pairs_are axes (map axis_magnitude axes) c.loop-i.pairs (length-map axes axis_magnitude) (omega (arith, old.room, c.requires))
    (λ k less. old.each k (omega (arith, less, c.loop-i-test.false)) ∙ ap (λ (m : ℕ). ((get_or axes k (axis 0 0)).param, m)) (sym (get_or-map axis_magnitude axes k (axis 0 0) 0 less)))
