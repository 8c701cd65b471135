use Rattle.std.proofs.Common.{◌∙◌, ◌++◌, ◌+◌, sym, ap, drop, append_assoc}
use Rattle.geo_check.specs.Entries.{entry_shown}
use Rattle.geo_check.specs.Grids.{magnitudes_in, own_magnitudes}
use Rattle.geo_check.proofs.grids.list_magnitudes.Goals as goal

pub loop-k-preserved : goal.loop-k-preserved
loop-k-preserved c =
    let before = c.loop-k.magnitudes.items in
    let rest = magnitudes_in (drop (c.loop-k.k + 1) c.args.grid.now) in
    ap (λ ms. ms ++ rest) c.in_ok-add_magnitudes.ensures ∙ append_assoc before (own_magnitudes (entry_shown c.in-Some.entry)) rest ∙ ap (λ gs. before ++ magnitudes_in gs) (sym c.in-Some.ensures.entry) ∙ c.loop-k.invariant
