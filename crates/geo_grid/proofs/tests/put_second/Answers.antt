use Rattle.std.proofs.Common.{◌≡◌, List, [], ◌∷◌, ℤ, FitsSigned, ap₂, arith, get_or, length, pos, rules, set, slice_index_or}
use Rattle.std.specs.Int.{w128}
use Rattle.std.proofs.lemmas.Int.{to_z-of_z}
use Rattle.geo_grid.specs.Products.{factor_at, numbers_at}
use Rattle.geo_grid.proofs.tests.put_second.Goals as goal

third_put : (numbers xs : List ℤ) → length numbers ≡ 3 → get_or numbers 0 (pos 0) ≡ pos 1 → get_or numbers 1 (pos 0) ≡ factor_at xs → set numbers 2 (get_or xs 2 (pos 0)) ≡ numbers_at xs
third_put [] xs l mark factor = absurd (omega arith)
third_put (a ∷ []) xs l mark factor = absurd (omega arith)
third_put (a ∷ b ∷ []) xs l mark factor = absurd (omega arith)
third_put (a ∷ b ∷ c ∷ []) xs l mark factor = ap₂ (λ m f. m ∷ f ∷ get_or xs 2 (pos 0) ∷ []) mark factor
third_put (a ∷ b ∷ c ∷ d ∷ ns) xs l mark factor = absurd (omega arith)

pub returns-clause-numbers : goal.returns-clause-numbers
returns-clause-numbers g c =
    let same : c.from.result ≡ slice_index_or c.args.values.now 2 (pos 0) = search rules in
    let fits : FitsSigned w128 c.from.result = search rules in
    rw (to_z-of_z w128 c.from.result fits, same) (third_put c.args.numbers.now c.args.values.now c.requires.numbers c.requires.mark c.requires.factor)
