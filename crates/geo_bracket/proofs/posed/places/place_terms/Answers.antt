use Rattle.std.proofs.Common.{rules, ◌∙◌, ◌+◌, sym, subst, take, FitsSigned}
use Rattle.std.specs.Int.{w64}
use Rattle.std.proofs.lemmas.Int.{to_z-of_z}
use Rattle.std.specs.Prelude.{Contains}
use Rattle.std.specs.List.{AllZip}
use Rattle.std.proofs.lemmas.List.Elements.{all_zip_more}
use Rattle.geo_bracket.specs.Posing.{IsPlacedTerm}
use Rattle.geo_bracket.proofs.FactorLaws.{each_at}
use Rattle.geo_bracket.proofs.posed.places.place_terms.Goals as goal

pub place_brackets-requires : goal.place_brackets-requires
place_brackets-requires c = rw c.brackets.ensures (each_at (Contains c.args.plan.now.named) c.args.terms.now c.loop-term.term-index c.term-item.result c.loop-term-test.true c.term-item.is c.requires)

pub loop-term-preserved : goal.loop-term-preserved
loop-term-preserved c =
    let r = IsPlacedTerm c.args.plan.now in
    let ts = c.args.terms.now in
    let i = c.loop-term.term-index in
    let fits : FitsSigned w64 c.number.result = search rules in
    let zip = rw c.brackets.ensures at c.in_ok-brackets.ensures in
    let one : IsPlacedTerm c.args.plan.now c.term-item.result c.new.result = rw c.new.ensures (to_z-of_z w64 c.number.result fits ∙ c.number.ensures, zip) in
    subst (AllZip r (take (i + 1) ts)) (sym c.in-Ok.ensures.items) (all_zip_more r ts c.loop-term.placed.items i c.term-item.result c.new.result c.loop-term-test.true c.term-item.is c.loop-term.invariant one)
