use Rattle.std.proofs.Common.{◌≡◌, ◌≤◌, ◌*◌, ◌*ℤ◌, drop, unsigned_abs}
use Rattle.geo_bracket.specs.Posing.{bracket_size, bracket_there}
use Rattle.geo_bracket.specs.Terms.{height_of_product, product_of}
use Rattle.geo_bracket.proofs.posed.values.value_of_term.Given as goal

abbrev pub invariant-loop-bracket : goal.invariant-loop-bracket
invariant-loop-bracket g l = record {
  value : l.product *ℤ product_of (bracket_there l.triples) (drop l.bracket-index l.term.brackets) ≡ l.term.number *ℤ product_of (bracket_there l.triples) l.term.brackets;
  low : unsigned_abs l.product * height_of_product (bracket_size l.triples) (drop l.bracket-index l.term.brackets) ≤ g.W.Width.limit;
}
