use Rattle.std.proofs.Common.{◌≡◌, ◌≤◌, ◌+◌, ◌+ℤ◌, drop, unsigned_abs}
use Rattle.geo_bracket.specs.Posing.{bracket_size, bracket_there}
use Rattle.geo_bracket.specs.Terms.{height_of_sum, sum_of}
use Rattle.geo_bracket.proofs.posed.values.value_at.Given as goal

abbrev pub invariant-loop-term : goal.invariant-loop-term
invariant-loop-term g l = record {
  value : l.sum +ℤ sum_of (bracket_there l.triples) (drop l.term-index l.terms) ≡ sum_of (bracket_there l.triples) l.terms;
  low : unsigned_abs l.sum + height_of_sum (bracket_size l.triples) (drop l.term-index l.terms) ≤ g.W.Width.limit;
}
