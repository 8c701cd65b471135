-- The premises behind the first two.
use Rattle.std.specs.Prelude.{List, [], ◌∷◌}
use Rattle.geo_sketch.specs.declared.statements.Statement.{Statement}
use Rattle.geo_infer.specs.declared.premises.More.{More}
use Rattle.geo_infer.specs.declared.premises.More.TheVariants.{Nothing, One, Two}

abbrev pub behind : More → List Statement
behind Nothing = []
behind (One s) = s ∷ []
behind (Two s t) = s ∷ t ∷ []
