use Rattle.std.proofs.Common.{ap, ◌∙◌, Bool}
use Rattle.std.specs.Prelude.{◌&&◌, filter}
use Rattle.rayon.proofs.ListFacts.{IfOk-then}
use Rattle.rayon.proofs.ToStd.{answers-by_ref, filter_by_mask-filter}
use Rattle.geo_sketch.specs.declared.statements.Statement.{Statement}
use Rattle.geo_sketch.specs.Drops.{speaks_of}
use Rattle.geo_guess.specs.Conjectures.{is_conjecture}
use Rattle.geo_guess.proofs.scan.conjectures_naming.Goals as goal

pub returns : goal.returns
returns g c =
    let p : Statement → Bool = λ s. speaks_of s c.args.n && is_conjecture c.args.sketch.now.elements s in
    IfOk-then c.collect.result _ _ c.collect.ensures (λ v h.
    let chain = rw (c.filter.ensures.base, c.filter.ensures.f) at h.1 in
    h.2 ∙ chain.4 ∙ filter_by_mask-filter p chain.0 chain.1 (answers-by_ref p chain.0 chain.1 chain.3) ∙ ap (filter p) (chain.2 ∙ c.into_par_iter.ensures))
