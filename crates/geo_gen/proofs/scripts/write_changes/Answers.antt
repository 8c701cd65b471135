use Rattle.std.proofs.Common.{rules, ◌≡◌, ◌∙◌, sym, ap, ◌+◌, ◌-◌, ◌++◌}
use Rattle.rand_pcg.specs.Lcg.{Lcg}
use Rattle.geo_gen.specs.Scripts.{change, changes}
use Rattle.geo_gen.proofs.Lines.{changes_more, no_changes}
use Rattle.geo_gen.proofs.scripts.write_changes.Goals as goal

pub loop-preserved : goal.loop-preserved
loop-preserved c =
    let rest : c.write_change.new.words ≡ (change c.loop.words).rest = search rules in
    let text : c.write_change.new.out.items ≡ c.loop.out.items ++ (change c.loop.words).text = search rules in
    ap (λ (g : Lcg). c.write_change.new.out.items ++ changes (1000 - (c.loop.counter + 1)) g) rest
    ∙ changes_more 1000 c.loop.counter c.loop.words c.loop.out.items c.write_change.new.out.items c.loop-test.true text
    ∙ c.loop.invariant

pub returns : goal.returns
returns c = sym (no_changes 1000 c.loop.counter c.loop.words c.loop.out.items c.loop-test.false) ∙ c.loop.invariant
