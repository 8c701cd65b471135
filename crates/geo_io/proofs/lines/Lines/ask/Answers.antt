use Rattle.std.proofs.Common.{rules, ◌≡◌, ◌++◌}
use Rattle.geo_io.proofs.HeldLines.{begun_kept}
use Rattle.geo_io.proofs.lines.Lines.ask.Goals as goal

pub invariant_of-self : goal.invariant_of-self
invariant_of-self g c =
    let held : c.args.self.now.held ≡ c.self.inside.begun.items ++ c.self.inside.buffer = search rules in
    begun_kept _ _ _ _ held c.requires.no_line (search rules)

pub invariant_of-self-then-self-gt-INPUT_LIMIT : goal.invariant_of-self-then-self-gt-INPUT_LIMIT
invariant_of-self-then-self-gt-INPUT_LIMIT g c =
    let held : c.args.self.now.held ≡ c.self.inside.begun.items ++ c.self.inside.buffer = search rules in
    begun_kept _ _ _ _ held c.requires.no_line (search rules)

pub invariant_of-self-2 : goal.invariant_of-self-2
invariant_of-self-2 g c =
    let held : c.args.self.now.held ≡ c.self.inside.begun.items ++ c.self.inside.buffer = search rules in
    begun_kept _ _ _ _ held c.requires.no_line (search rules)
