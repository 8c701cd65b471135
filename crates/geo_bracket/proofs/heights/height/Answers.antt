use Rattle.std.proofs.Common.{◌≡◌, ◌∙◌, ap, refl, ◌+◌, arith}
use Rattle.geo_sketch.specs.Lookups.{IsLive}
use Rattle.geo_height.specs.Bounds.{magnitude_of}
use Rattle.geo_height.specs.Capped.{within_limit}
use Rattle.geo_bracket.specs.Expressions.{bracket_height}
use Rattle.geo_bracket.specs.Terms.{height_of_term}
use Rattle.geo_bracket.proofs.FactorLaws.{each_at, sum_end, sum_step}
use Rattle.geo_bracket.proofs.heights.height.Goals as goal

pub loop-term-init : goal.loop-term-init
loop-term-init c = (0, refl, omega arith)

pub height_of_term-requires : goal.height_of_term-requires
height_of_term-requires c = each_at (IsLive c.args.sketch.now.elements) c.args.terms.now c.loop-term.term-index c.term-item.result c.loop-term-test.true c.term-item.is c.requires

pub loop-term-preserved : goal.loop-term-preserved
loop-term-preserved c =
    let h = bracket_height c.args.sketch.now.elements (magnitude_of c.args.magnitudes.now) in
    let x = c.term-item.result in
    let old = c.loop-term.invariant in
    (old.0 + height_of_term h x, c.plus-sum.ensures old.0 (height_of_term h x) old.1 c.height_of_term.ensures, sum_step h c.args.terms.now c.loop-term.term-index x old.0 _ c.loop-term-test.true c.term-item.is old.2)

pub returns : goal.returns
returns c =
    let h = bracket_height c.args.sketch.now.elements (magnitude_of c.args.magnitudes.now) in
    let old = c.loop-term.invariant in
    old.1 ∙ ap within_limit (sum_end h c.args.terms.now c.loop-term.term-index old.0 _ c.loop-term-test.false old.2)
