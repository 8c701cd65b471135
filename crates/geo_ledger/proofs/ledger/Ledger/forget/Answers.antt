use Rattle.std.proofs.Common.{rules, not}
use Rattle.indexmap.proofs.CallerLemmas.{filter-RetainsPairs}
use Rattle.geo_sketch.specs.Drops.{speaks_of}
use Rattle.geo_ledger.proofs.ledger.Ledger.forget.Goals as goal

pub returns : goal.returns
returns c =
    rw (← c.self.view_is) (filter-RetainsPairs _ (λ e. not (speaks_of e.0 c.args.n)) _ (λ k v b w g call. search rules) _ _ c.retain.ensures.filtered)
