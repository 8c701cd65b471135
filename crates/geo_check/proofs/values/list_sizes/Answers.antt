use Rattle.std.proofs.Common.{rules, ◌≡◌, ◌∙◌, ◌++◌, ◌∷◌, [], ◌+◌, sym, ap, drop}
use Rattle.std.specs.Prelude.{unsigned_abs}
use Rattle.geo_check.specs.Grids.{sizes_of_values}
use Rattle.geo_check.proofs.ValueLaws.{sizes_here}
use Rattle.geo_check.proofs.values.list_sizes.Goals as goal

pub loop-k-preserved : goal.loop-k-preserved
loop-k-preserved c =
    let vs = c.args.values.now in
    let k = c.loop-k.k in
    let pushed : c.push.new.self.items ≡ c.loop-k.sizes.items ++ (c.in-Some.p, unsigned_abs c.in-Some.value) ∷ [] = search rules in
    ap (λ xs. xs ++ sizes_of_values (drop (k + 1) vs)) pushed ∙ sizes_here c.loop-k.sizes.items vs k (c.in-Some.p, c.in-Some.value) (sym c.get.ensures ∙ c.in-Some.is) ∙ c.loop-k.invariant
