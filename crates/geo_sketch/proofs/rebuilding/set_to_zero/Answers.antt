use Rattle.std.proofs.Common.{◌≡◌, ◌++◌, ◌-◌, ◌∷◌, [], take, replicate, length, rules}
use Rattle.geo_sketch.specs.declared.elements.Setting.TheVariants.{None}
use Rattle.geo_sketch.proofs.RebuildLaws.{settings_next}
use Rattle.geo_sketch.proofs.rebuilding.set_to_zero.Goals as goal

pub loop-element-preserved : goal.loop-element-preserved
loop-element-preserved c =
    let x = c.element-item.result in
    let before = c.loop-element.settings.items in
    let resized : c.resize.new.self.items ≡ take x.number before ++ replicate (x.number - length before) None = search rules in
    let pushed : c.push.new.self.items ≡ c.resize.new.self.items ++ c.zero_setting.result ∷ [] = search rules in
    let next = settings_next c.args.elements.now c.loop-element.element-index x c.requires c.loop-element-test.true c.element-item.is in
    cc (c.zero_setting.ensures, c.loop-element.invariant)
