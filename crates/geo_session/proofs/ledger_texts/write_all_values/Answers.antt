use Rattle.std.proofs.Common.{rules, ◌≡◌, ◌∙◌, sym, ap, ℕ, ℤ, Some, ◌++◌, ◌<◌, length, get_or}
use Rattle.std.specs.Prelude.{slice_get}
use Rattle.std.proofs.lemmas.Option.{get_or_from_slice_get}
use Rattle.geo_session.specs.LedgerTexts.{value_text}
use Rattle.geo_session.proofs.LedgerLaws.{texts_more}
use Rattle.geo_session.proofs.ledger_texts.write_all_values.Goals as goal

pub loop-k-preserved : goal.loop-k-preserved
loop-k-preserved c =
    let within : c.loop-k.k < length c.args.values.now = search rules in
    let value : ℕ × ℤ = (c.in-Some.parameter, c.in-Some.value) in
    let found : slice_get c.args.values.now c.loop-k.k ≡ Some value = search rules in
    let item : get_or c.args.values.now c.loop-k.k value ≡ value = get_or_from_slice_get c.args.values.now c.loop-k.k value value found in
    let more : c.write_value.new.out.items ≡ c.loop-k.out.items ++ value_text c.args.elements.now value = search rules in
    texts_more (value_text c.args.elements.now) c.args.values.now c.loop-k.k value c.args.out.now.items c.loop-k.out.items c.write_value.new.out.items within c.loop-k.invariant
    (more ∙ ap (λ (v : ℕ × ℤ). c.loop-k.out.items ++ value_text c.args.elements.now v) (sym item))
