use Rattle.std.proofs.Common.{◌∙◌, sym, arith}
use Rattle.geo_sketch.proofs.NumberLaws.{number_found}
use Rattle.geo_guess.proofs.SampleLaws.{low_there, made_here, nothing_here}
use Rattle.geo_guess.proofs.samples.triples_in.Goals as goal

pub triples_of-requires-clause-low : goal.triples_of-requires-clause-low
triples_of-requires-clause-low c = low_there c.requires.0 c.args.samples.now c.requires.1.rest_drawn c.requires.2

pub triples_of-requires-clause-number : goal.triples_of-requires-clause-number
triples_of-requires-clause-number c =
    let found = rw c.elements.ensures.elements at (sym c.find_by_number.ensures ∙ c.in-Some.is) in
    let drawn = c.requires.1.drawn in
    omega (arith, drawn.given c.args.n c.in-Some.element found, drawn.numbers_room, number_found c.args.sketch.now.elements c.args.n c.in-Some.element found)

pub returns-in-Some : goal.returns-in-Some
returns-in-Some c =
    let found = rw c.elements.ensures.elements at (sym c.find_by_number.ensures ∙ c.in-Some.is) in
    made_here c.args.sketch.now c.requires.0 c.args.n c.requires.1 c.args.samples.now c.in-Some.element c.triples_of.result c.requires.2 found c.triples_of.ensures

pub returns-in-None : goal.returns-in-None
returns-in-None c =
    let none = rw c.elements.ensures.elements at (sym c.find_by_number.ensures ∙ c.in-None.is) in
    λ position within. nothing_here c.args.sketch.now c.requires.0 c.args.n c.requires.1 none c.no_triples.result c.no_triples.ensures position
