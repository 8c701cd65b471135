use Rattle.std.proofs.Common.{ℕ, refl, subst, slice_index_or, arith}
use Rattle.std.specs.Fork.{ChangesAt}
use Rattle.geo_settle.proofs.threads.in_threads.Goals as goal

pub returns-else-list-lt2 : goal.returns-else-list-lt2
returns-else-list-lt2 g c i d below =
    (refl, subst (λ (n : ℕ). ChangesAt g.F.Fn c.args.f.now n (slice_index_or c.args.list.now i d) (slice_index_or c.from_place.new.list i d)) (omega arith) (c.from_place.ensures.each i d below))
