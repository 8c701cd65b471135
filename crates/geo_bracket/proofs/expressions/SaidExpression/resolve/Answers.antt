use Rattle.std.proofs.Common.{rules, ◌≡◌, ◌∙◌, sym, Some}
use Rattle.std.specs.Prelude.{Ok}
use Rattle.geo_bracket.specs.Resolving.{judged, numbers_of}
use Rattle.geo_bracket.proofs.ResolveLemmas.{live_made, posed_made, small_made}
use Rattle.geo_bracket.proofs.expressions.SaidExpression.resolve.Goals as goal

pub new-requires : goal.new-requires
new-requires c =
    let found : numbers_of c.args.sketch.now.elements c.args.self.now ≡ Some c.in-Ok-Some.terms.items = search rules in
    small_made c.args.sketch.now.elements c.args.self.now c.in-Ok-Some.terms.items c.terms.ensures.small found

pub judge-requires-clause-live : goal.judge-requires-clause-live
judge-requires-clause-live c =
    let found : numbers_of c.args.sketch.now.elements c.args.self.now ≡ Some c.new.result = search rules in
    live_made c.args.sketch.now.elements c.elements-elements.ensures.drawn.rising c.args.self.now c.new.result found

pub returns-in-Ok-clause-posed : goal.returns-in-Ok-clause-posed
returns-in-Ok-clause-posed c =
    let found : numbers_of c.args.sketch.now.elements c.args.self.now ≡ Some c.new.result = search rules in
    let fine : judged c.args.sketch.now.elements c.new.result ≡ Ok c.in-Ok.expression = search rules in
    posed_made c.args.sketch.now.elements c.new.result c.in-Ok.expression (live_made c.args.sketch.now.elements c.elements-elements.ensures.drawn.rising c.args.self.now c.new.result found) fine
