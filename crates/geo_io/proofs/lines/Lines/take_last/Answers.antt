use Rattle.std.proofs.Common.{rules, arith, ◌≡◌, ◌+◌, ◌++◌, ◌<◌, [], take, length}
use Rattle.std.proofs.lemmas.Grind.{common_steps}
use Rattle.geo_io.proofs.HeldLines.{last_given}
use Rattle.geo_io.proofs.lines.Lines.take_last.Goals as goal

pub returns-clause-line : goal.returns-clause-line
returns-clause-line c =
    let limit : c.args.self.now.limit ≡ c.self.inside.limit = search rules in
    let held : c.args.self.now.held ≡ c.self.inside.begun.items ++ c.self.inside.buffer = search rules in
    let some : 0 < length (c.self.inside.begun.items ++ c.self.inside.buffer) = grind (arith, common_steps) in
    let joined : c.in_ok-line.line.items ≡ take (c.self.inside.limit + 1) (c.self.inside.begun.items ++ c.self.inside.buffer) = search rules in
    let cleared : c.clear.new.self.items ≡ [] = search rules in
    let passed : c.pass.new.self ≡ [] = grind (arith, common_steps) in
    last_given c.self.inside.limit c.args.self.now.limit c.args.self.now.held c.self.inside.begun.items c.self.inside.buffer c.in_ok-line.line.items c.truncate.new.self.items c.clear.new.self.items c.pass.new.self limit held c.requires.no_line some joined c.truncate.ensures.items cleared passed
