use Rattle.std.proofs.Common.{sym, subst, ℕ, List, ◌∷◌}
use Rattle.std.specs.Fork.{AcceptsAt, ChangesAt}
use Rattle.geo_settle.specs.Places.{ChangesFrom, HoldsFrom}
use Rattle.geo_settle.proofs.Places.{changes_all, holds_at_first, holds_at_rest}
use Rattle.geo_settle.proofs.threads.+places.Goals as goal

pub from_place-first_and_rest-requires-clause-first : goal.from_place-first_and_rest-requires-clause-first
from_place-first_and_rest-requires-clause-first g t c κs within =
    let P : ℕ → g.row.T.Denot → Type 0 = AcceptsAt g.F.Fn c.args.f.now in
    holds_at_first P c.args.place c.in-Some.first.now c.in-Some.rest.now (subst (HoldsFrom P c.args.place) c.in-Some.ensures.cases.0 c.requires)

pub from_place-first_and_rest-requires-clause-rest : goal.from_place-first_and_rest-requires-clause-rest
from_place-first_and_rest-requires-clause-rest g t c κs within =
    let P : ℕ → g.row.T.Denot → Type 0 = AcceptsAt g.F.Fn c.args.f.now in
    holds_at_rest P c.args.place c.in-Some.first.now c.in-Some.rest.now (subst (HoldsFrom P c.args.place) c.in-Some.ensures.cases.0 c.requires)

pub from_place-returns : goal.from_place-returns
from_place-returns g t c =
    let R : ℕ → g.row.T.Denot → g.row.T.Denot → Type 0 = ChangesAt g.F.Fn c.args.f.now in
    let ys : List g.row.T.Denot = c.first_and_rest.new.first ∷ c.first_and_rest.new.rest in
    subst (λ xs. ChangesFrom R c.args.place xs ys) (sym c.in-Some.ensures.cases.0)
    (changes_all R c.args.place c.in-Some.first.now c.first_and_rest.new.first c.in-Some.rest.now c.first_and_rest.new.rest c.first_and_rest.ensures.first c.first_and_rest.ensures.rest)
