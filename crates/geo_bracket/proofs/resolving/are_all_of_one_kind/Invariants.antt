use Rattle.std.proofs.Common.{◌≡◌, drop}
use Rattle.std.specs.List.{list_all}
use Rattle.geo_bracket.specs.Resolving.{is_of_one_kind}
use Rattle.geo_bracket.proofs.resolving.are_all_of_one_kind.Given as goal

abbrev pub invariant-loop-bracket : goal.invariant-loop-bracket
invariant-loop-bracket l = list_all (is_of_one_kind l.elements) (drop l.bracket-index l.brackets) ≡ list_all (is_of_one_kind l.elements) l.brackets
