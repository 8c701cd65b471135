use Rattle.std.proofs.Common.{◌≡◌, drop}
use Rattle.geo_tool.specs.Tools.{tool_named}
use Rattle.geo_tool.proofs.tools.find_tool.Given as goal

abbrev pub invariant-loop-tool : goal.invariant-loop-tool
invariant-loop-tool l = tool_named (drop l.tool-index l.tools) l.name ≡ tool_named l.tools l.name
