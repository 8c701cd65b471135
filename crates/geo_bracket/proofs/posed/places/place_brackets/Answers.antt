use Rattle.std.proofs.Common.{◌+◌, sym, subst, get_or, take}
use Rattle.std.specs.List.{AllZip}
use Rattle.std.proofs.lemmas.List.{get_or_default}
use Rattle.std.proofs.lemmas.List.Elements.{all_zip_more}
use Rattle.geo_bracket.specs.Posing.{IsPlacedBracket}
use Rattle.geo_bracket.proofs.FactorLaws.{no_bracket}
use Rattle.geo_bracket.proofs.posed.places.place_brackets.Goals as goal

pub place_bracket-requires : goal.place_bracket-requires
place_bracket-requires c = c.requires c.loop-bracket.bracket-index no_bracket c.loop-bracket-test.true

pub loop-bracket-preserved : goal.loop-bracket-preserved
loop-bracket-preserved c =
    let r = IsPlacedBracket c.args.plan.now in
    let bs = c.args.brackets.now in
    let i = c.loop-bracket.bracket-index in
    let x = get_or bs i no_bracket in
    subst (AllZip r (take (i + 1) bs)) (sym c.in-Ok.ensures.items) (all_zip_more r bs c.loop-bracket.placed.items i x c.place_bracket.result c.loop-bracket-test.true (get_or_default bs i no_bracket x c.loop-bracket-test.true) c.loop-bracket.invariant c.place_bracket.ensures)
