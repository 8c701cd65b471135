-- Whether numbers are all 0 is computed.
-- lemmas for other crates
use Rattle.std.proofs.Common.{refl, List, [], ◌∷◌, ℤ, pos}
use Rattle.std.specs.Bool.{Decides}
use Rattle.std.proofs.lemmas.Bool.{and_from, and_parts}
use Rattle.std.proofs.lemmas.Bool.Decides.{Decides-int_eq}
use Rattle.geo_triple.specs.Zero.{are_zero, AreZero}

pub decides_zero : (zs : List ℤ) → Decides (are_zero zs) (AreZero zs)
decides_zero [] = (λ t. tt, λ h. refl)
decides_zero (z ∷ zs) =
    let here = Decides-int_eq z (pos 0) in
    let rest = decides_zero zs in
    (λ t. (here.0 (and_parts _ _ t).0, rest.0 (and_parts _ _ t).1), λ h. and_from _ _ (here.1 h.0) (rest.1 h.1))
