use Rattle.std.proofs.Common.{◌≡◌, max, drop}
use Rattle.geo_bracket.specs.Expressions.{expression_degree}
use Rattle.geo_bracket.proofs.degrees.degree.Given as goal

abbrev pub invariant-loop-term : goal.invariant-loop-term
invariant-loop-term l = max l.largest (expression_degree l.degrees (drop l.term-index l.terms) l.p) ≡ expression_degree l.degrees l.terms l.p
