-- What is kept of a sketch: its conjectures, and the triples of its elements at the sample positions.
use Rattle.std.specs.Prelude.{◌≡◌, List}
use Rattle.geo_triple.specs.declared.Triple.{Triple}
use Rattle.geo_sketch.specs.declared.statements.Statement.{Statement}
use Rattle.geo_sketch.specs.Sketches.{Drawing}
use Rattle.geo_guess.specs.Conjectures.{conjectures_of}
use Rattle.geo_guess.specs.Samples.{AreSamples}

-- the statements in their order, and by number eight triples
pub record Noticed : Type 0 where
  pub list : List Statement
  pub samples : List (List Triple)

-- they are those of this sketch
pub record IsGuessesOf (noticed : Noticed) (drawing : Drawing) : Type 0 where
  pub list : noticed.list ≡ conjectures_of drawing.elements
  pub samples : AreSamples drawing.elements noticed.samples
