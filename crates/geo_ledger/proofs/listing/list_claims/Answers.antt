use Rattle.std.specs.Prelude.{All, filter, not}
use Rattle.std.proofs.lemmas.List.Elements.{All-filter}
use Rattle.geo_sketch.specs.Claims.{is_claimed}
use Rattle.geo_sketch.specs.Sketches.{IsPosed}
use Rattle.geo_ledger.proofs.EntryLists.{posed_all}
use Rattle.geo_ledger.proofs.listing.list_claims.Goals as goal

pub list_all-requires-clause-posed : goal.list_all-requires-clause-posed
list_all-requires-clause-posed g c =
    let es = c.args.sketch.now.elements in
    rw (c.deref.ensures.value, c.in_ok-further.ensures, c.claims.ensures.claims)
    (λ κs within. All-filter (λ s. not (is_claimed c.list.result.now s)) (IsPosed es) c.args.sketch.now.claims (posed_all es c.args.sketch.now.claims c.claims.ensures.drawn.posed))
