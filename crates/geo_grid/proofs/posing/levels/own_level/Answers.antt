use Rattle.std.proofs.Common.{◌∙◌, ◌≤◌, ◌+◌, ◌-◌, sym, arith}
use Rattle.geo_degree.specs.Grids.{axis}
use Rattle.geo_grid.specs.Orders.{own_level}
use Rattle.geo_grid.proofs.Levels.{own_below, own_step, own_within}
use Rattle.geo_grid.proofs.posing.levels.own_level.Goals as goal

pub loop-i-init : goal.loop-i-init
loop-i-init c = own_within c.args.n c.args.axes.now

pub loop-i-preserved : goal.loop-i-preserved
loop-i-preserved c =
    let below : own_level c.args.axes.now c.args.n ≤ c.loop-i.i - 1 + 1 = omega (arith, c.loop-i.invariant, c.loop-i-test.true) in
    own_step c.args.n c.args.axes.now (c.loop-i.i - 1) (axis 0 0) below (λ e. c.if-element_of_parameter-n.false (c.element_of_parameter.ensures ∙ e))

pub returns-then-element_of_parameter-n : goal.returns-then-element_of_parameter-n
returns-then-element_of_parameter-n c =
    let above = own_below c.args.n c.args.axes.now (c.loop-i.i - 1) (axis 0 0) (omega (arith, c.loop-i-test.true, c.loop-i.auto.i)) (sym c.element_of_parameter.ensures ∙ c.if-element_of_parameter-n.true) in
    omega (arith, above, c.loop-i.invariant, c.loop-i-test.true)
