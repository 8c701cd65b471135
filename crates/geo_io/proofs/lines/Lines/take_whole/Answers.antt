use Rattle.std.proofs.Common.{rules, ◌≡◌, ◌+◌, ◌++◌, [], min, take, drop, length, Some, None}
use Rattle.std.specs.List.{position}
use Rattle.geo_io.specs.Lines.{without_carriage_return}
use Rattle.geo_io.proofs.LineFeeds.{is_line_feed}
use Rattle.geo_io.proofs.HeldLines.{no_whole_line, a_whole_line, line_given}
use Rattle.geo_io.proofs.lines.Lines.take_whole.Goals as goal

pub returns-in_default-clause-none : goal.returns-in_default-clause-none
returns-in_default-clause-none c =
    let held : c.args.self.now.held ≡ c.self.inside.begun.items ++ c.self.inside.buffer = search rules in
    let nowhere : position is_line_feed c.self.inside.buffer ≡ None = search rules in
    no_whole_line c.args.self.now.held c.self.inside.begun.items c.self.inside.buffer held c.self.invariant.0 nowhere

pub returns-clause-none : goal.returns-clause-none
returns-clause-none c =
    let held : c.args.self.now.held ≡ c.self.inside.begun.items ++ c.self.inside.buffer = search rules in
    let found : position is_line_feed c.self.inside.buffer ≡ Some c.in-Some.end = search rules in
    a_whole_line c.args.self.now.held c.self.inside.begun.items c.self.inside.buffer c.in-Some.end held found

pub returns-clause-line : goal.returns-clause-line
returns-clause-line c = λ rest.
    let limit : c.args.self.now.limit ≡ c.self.inside.limit = search rules in
    let held : c.args.self.now.held ≡ c.self.inside.begun.items ++ c.self.inside.buffer = search rules in
    let found : position is_line_feed c.self.inside.buffer ≡ Some c.in-Some.end = search rules in
    let joined : c.in_ok-line.line.items ≡ take (c.self.inside.limit + 1) (c.self.inside.begun.items ++ take c.in-Some.end c.self.inside.buffer) = search rules in
    let line : c.truncate.new.self.items ≡ take (min (length (without_carriage_return c.in_ok-line.line.items)) c.self.inside.limit) c.in_ok-line.line.items = search rules in
    let cleared : c.clear.new.self.items ≡ [] = search rules in
    let passed : c.pass.new.self ≡ drop (c.in-Some.end + 1) c.self.inside.buffer = search rules in
    line_given c.self.inside.limit c.args.self.now.limit c.args.self.now.held c.self.inside.begun.items c.self.inside.buffer c.in_ok-line.line.items c.truncate.new.self.items c.clear.new.self.items c.pass.new.self rest c.in-Some.end limit held c.self.invariant.0 found joined line cleared passed
