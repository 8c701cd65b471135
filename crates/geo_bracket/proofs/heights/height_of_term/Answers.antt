use Rattle.std.proofs.Common.{rules, ◌≡◌, ◌∙◌, ap, refl, ◌*◌, ◌≤◌, max, get_or, mul-le-mul, unsigned_abs, FitsSigned, arith}
use Rattle.std.specs.Int.{w64}
use Rattle.std.proofs.lemmas.Int.{to_z-of_z}
use Rattle.geo_sketch.proofs.SketchLaws.{constructed}
use Rattle.geo_height.specs.Bounds.{magnitude_of}
use Rattle.geo_height.specs.Capped.{within_limit}
use Rattle.geo_bracket.specs.Expressions.{bracket_height}
use Rattle.geo_bracket.proofs.FactorLaws.{no_bracket, product_end, product_step}
use Rattle.geo_bracket.proofs.HeightLaws.{bracket_positive}
use Rattle.geo_bracket.proofs.heights.height_of_term.Goals as goal

pub loop-bracket-init : goal.loop-bracket-init
loop-bracket-init c =
    let fits : FitsSigned w64 c.number.result = search rules in
    let value = simp (to_z-of_z w64 c.number.result fits) at c.size_of-product.ensures in
    let kept = rw c.number.ensures at value in
    (max 1 (unsigned_abs c.args.term.now.number), kept, omega arith, refl)

pub of_statement-height-requires : goal.of_statement-height-requires
of_statement-height-requires c =
    let within = rw c.brackets-bracket-items.ensures at c.loop-bracket-test.true in
    rw (c.statement_of.ensures, c.brackets-bracket-items.ensures) (c.requires c.loop-bracket.bracket-index no_bracket within)

pub loop-bracket-preserved : goal.loop-bracket-preserved
loop-bracket-preserved c =
    let es = c.args.sketch.now.elements in
    let m = magnitude_of c.args.magnitudes.now in
    let h = bracket_height c.args.sketch.now.elements (magnitude_of c.args.magnitudes.now) in
    let bs = c.args.term.now.brackets in
    let i = c.loop-bracket.bracket-index in
    let b = get_or bs i no_bracket in
    let old = c.loop-bracket.invariant in
    let within = rw c.brackets-bracket-items.ensures at c.loop-bracket-test.true in
    let value = rw (c.statement_of.ensures, c.brackets-bracket-items.ensures) at c.of_statement-height.ensures in
    let one = bracket_positive es (constructed c.args.sketch.now c.elements-drawn.ensures.drawn) m b (c.requires i no_bracket within) in
    (old.0 * h b, c.times-product.ensures old.0 (h b) old.1 value old.2 one, mul-le-mul old.2 one, product_step h bs i no_bracket old.0 _ within old.3)

pub returns : goal.returns
returns c =
    let h = bracket_height c.args.sketch.now.elements (magnitude_of c.args.magnitudes.now) in
    let old = c.loop-bracket.invariant in
    let past = rw c.brackets-bracket-items.ensures at c.loop-bracket-test.false in
    old.1 ∙ ap within_limit (product_end h c.args.term.now.brackets c.loop-bracket.bracket-index old.0 _ past old.3)
