use Rattle.std.proofs.Common.{◌≡◌, ◌≤◌, ◌+◌, ◌*◌, drop}
use Rattle.geo_bracket.specs.Expressions.{bracket_degree}
use Rattle.geo_bracket.specs.Terms.{degree_of_product}
use Rattle.geo_bracket.proofs.degrees.degree_of_term.Given as goal

abbrev pub invariant-loop-bracket : goal.invariant-loop-bracket
invariant-loop-bracket l = record {
  sum : l.sum + degree_of_product (bracket_degree l.degrees l.p) (drop l.bracket-index l.brackets) ≡ degree_of_product (bracket_degree l.degrees l.p) l.brackets;
  low : l.sum ≤ 75 * l.bracket-index;
}
