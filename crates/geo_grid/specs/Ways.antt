-- Facts that forms and structs rest on: what can be proved in one way alone, and marks that differ.
use Rattle.std.proofs.Common.{◌≡◌, ◌∙◌, sym, inl, inr, ℕ, zero, suc, ℤ, pos, List, [], ◌∷◌}
use Rattle.std.specs.Prelude.{◌⊎◌}
use Rattle.std.proofs.Props.{props}
use Rattle.geo_law.specs.Tables.{IsTriangle}
use Rattle.geo_grid.specs.declared.posing.condition.Condition.{Condition}
use Rattle.geo_grid.specs.declared.posing.condition.Condition.TheVariants as condition
use Rattle.geo_grid.specs.declared.search.form.Scratch.{Scratch}
use Rattle.geo_grid.specs.Codes.{SpeaksOf}
use Rattle.geo_grid.specs.Plans.{Planned}
use Rattle.geo_grid.specs.Works.{IsFresh, IsOnGridFrom, StandsFor}

pub triangle_one_way : (side : ℕ) (table : List (List ℤ)) → IsProp (IsTriangle side table)
triangle_one_way side [] = hlevel props
triangle_one_way zero (row ∷ rows) = hlevel props
triangle_one_way (suc side) (row ∷ rows) = let rest = triangle_one_way side rows in hlevel (props, rest)

pub speaks_one_way : (condition : Condition) (count : ℕ) → IsProp (SpeaksOf condition count)
speaks_one_way (condition.Null n) count = hlevel props
speaks_one_way (condition.Same n m) count = hlevel props
speaks_one_way (condition.On n m) count = hlevel props
speaks_one_way (condition.Triple n m k) count = hlevel props

-- no work is both fresh and in use
pub not_both : (p : Planned) (work : Scratch) (xs : List ℤ) → IsFresh p work → StandsFor p work xs → ⊥
not_both p work xs fresh stands = by_mark stands.marked
  where
    by_mark : (work.numbers.items ≡ pos 1 ∷ []) ⊎ ((work.numbers.items ≡ pos 2 ∷ []) × IsOnGridFrom 0 p.axes xs) → ⊥
    by_mark (inl used) = let mark : pos 0 ∷ [] ≡ pos 1 ∷ [] = sym fresh.marked ∙ used in cc
    by_mark (inr (short, on_grid)) = let mark : pos 0 ∷ [] ≡ pos 2 ∷ [] = sym fresh.marked ∙ short in cc
