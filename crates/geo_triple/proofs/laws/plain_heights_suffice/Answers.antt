use Rattle.std.proofs.Common.{le_refl}
use Rattle.geo_triple.specs.Triple.{size_of}
use Rattle.geo_triple.proofs.Sizes.{one-size, cross-plain, dot-plain, minors-plain, determinant-plain, blend-plain, cut-plain}
use Rattle.geo_triple.proofs.laws.plain_heights_suffice.Goals as goal

pub returns : goal.returns
returns c =
    record {
      cross = λ s t. cross-plain s t (size_of s) (size_of t) (le_refl _) (le_refl _);
      dot = λ s t. dot-plain s t (size_of s) (size_of t) (le_refl _) (le_refl _);
      minors = λ s t u. minors-plain t u (size_of t) (size_of u) (le_refl _) (le_refl _) (size_of s) (one-size s);
      determinant = λ s t u. determinant-plain t u (size_of t) (size_of u) (le_refl _) (le_refl _) s (size_of s) (le_refl _);
      blend = λ s t m. blend-plain s t (size_of s) (size_of t) (le_refl _) (le_refl _) m m (le_refl _);
      cut = λ s m. cut-plain s (size_of s) m (le_refl _);
    }
