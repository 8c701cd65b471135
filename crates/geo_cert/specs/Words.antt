-- The words of a certificate: for kinds, for definitions and for claims.
use Rattle.std.specs.Prelude.{ℕ, List, if◌then◌else◌, Option, Some, None, codes}
use Rattle.std.specs.Str.{bytes_eq}
use Rattle.geo_sketch.specs.declared.elements.Kind.{Kind}
use Rattle.geo_sketch.specs.declared.elements.Kind.TheVariants.{Point, Line}
use Rattle.geo_cert.specs.declared.words.DefWord.{DefWord}
use Rattle.geo_cert.specs.declared.words.DefWord.TheVariants as def
use Rattle.geo_cert.specs.declared.words.ClaimWord.{ClaimWord}
use Rattle.geo_cert.specs.declared.words.ClaimWord.TheVariants as claim

abbrev pub text_of_kind : Kind → List ℕ
text_of_kind Point = codes "point"
text_of_kind Line = codes "line"

abbrev pub text_of_def : DefWord → List ℕ
text_of_def def.Free = codes "free"
text_of_def def.Fixed = codes "fixed"
text_of_def def.Cut = codes "cut"
text_of_def def.Blend = codes "blend"
text_of_def def.Cross = codes "cross"

abbrev pub text_of_claim : ClaimWord → List ℕ
text_of_claim claim.Null = codes "null"
text_of_claim claim.Same = codes "same"
text_of_claim claim.On = codes "on"
text_of_claim claim.Triple = codes "triple"

-- the kind whose text the bytes are
unfoldable pub kind_word_of : List ℕ → Option Kind
kind_word_of w = if bytes_eq w (codes "point") then Some Point else (if bytes_eq w (codes "line") then Some Line else None)

unfoldable pub def_word_of : List ℕ → Option DefWord
def_word_of w =
    if bytes_eq w (codes "free") then Some def.Free else (if bytes_eq w (codes "fixed") then Some def.Fixed else (if bytes_eq w (codes "cut") then Some def.Cut
    else (if bytes_eq w (codes "blend") then Some def.Blend else (if bytes_eq w (codes "cross") then Some def.Cross else None))))

unfoldable pub claim_word_of : List ℕ → Option ClaimWord
claim_word_of w =
    if bytes_eq w (codes "null") then Some claim.Null else (if bytes_eq w (codes "same") then Some claim.Same
    else (if bytes_eq w (codes "on") then Some claim.On else (if bytes_eq w (codes "triple") then Some claim.Triple else None)))
