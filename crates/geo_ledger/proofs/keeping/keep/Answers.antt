use Rattle.std.proofs.Common.{◌≡◌, ◌∙◌, ◌++◌, ◌∷◌, [], sym, ap, refl, is_some, Some}
use Rattle.std.proofs.lemmas.List.Elements.{All-push, All-same}
use Rattle.indexmap.proofs.CallerLemmas.{insert_entry-new}
use Rattle.geo_sketch.specs.declared.verdicts.Verdict.{Verdict}
use Rattle.geo_ledger.specs.Ledgers.{IsKept}
use Rattle.geo_ledger.proofs.Lookups.{kept_value, last_value, none_found, same}
use Rattle.geo_sketch.proofs.PosingLaws.{decides_posed}
use Rattle.geo_ledger.proofs.keeping.keep.Goals as goal

pub returns-in-Some-clause-there : goal.returns-in-Some-clause-there
returns-in-Some-clause-there g c =
    c.in-Some.ensures.value ∙ kept_value c.args.sketch.now c.args.kept.now.entries c.args.s.now _ c.requires.kept refl (sym (ap is_some c.in-Some.is) ∙ c.get_index_of.ensures.found)

pub returns-in-Ok-clause-kept : goal.returns-in-Ok-clause-kept
returns-in-Ok-clause-kept g c =
    let more : c.insert.new.self.entries ≡ c.args.kept.now.entries ++ (c.args.s.now, c.in_ok-verdict.verdict) ∷ [] = c.in-Ok.ensures.entries ∙ insert_entry-new same c.args.kept.now c.args.s.now c.in_ok-verdict.verdict (none_found _ (sym (ap is_some c.in_default.is) ∙ c.get_index_of.ensures.found)) in
    All-same (IsKept c.args.sketch.now.elements) _ _ more (All-push (IsKept c.args.sketch.now.elements) c.args.kept.now.entries (c.args.s.now, c.in_ok-verdict.verdict) c.requires.kept ((decides_posed c.args.sketch.now.elements c.args.s.now).1 c.requires.posed, c.in_ok-verdict.ensures))

pub returns-in-Ok-clause-there : goal.returns-in-Ok-clause-there
returns-in-Ok-clause-there g c =
    let more : c.insert.new.self.entries ≡ c.args.kept.now.entries ++ (c.args.s.now, c.in_ok-verdict.verdict) ∷ [] = c.in-Ok.ensures.entries ∙ insert_entry-new same c.args.kept.now c.args.s.now c.in_ok-verdict.verdict (none_found _ (sym (ap is_some c.in_default.is) ∙ c.get_index_of.ensures.found)) in
    last_value c.args.kept.now.entries c.insert.new.self.entries c.args.s.now c.in_ok-verdict.verdict c.len-place.result more c.len-place.ensures.len ∙ ap (λ (v : Verdict). Some v) c.in_ok-verdict.ensures

pub returns-clause-kept : goal.returns-clause-kept
returns-clause-kept g c = All-same (IsKept c.args.sketch.now.elements) _ _ c.in-Err.ensures.err c.requires.kept
