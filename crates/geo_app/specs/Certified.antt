-- What is answered to a printed certificate.
use Rattle.std.specs.Prelude.{◌≡◌, ◌++◌, false, List, [], ◌∷◌, codes}
use Rattle.std.specs.List.{AllByRecursion}
use Rattle.geo_cert.specs.declared.certificates.Certificate.{Certificate}
use Rattle.geo_cert.specs.Written.{line_of}
use Rattle.geo_checker.specs.Answers.{answered, has_invalid, text_of, verdict_text}
use Rattle.geo_session.specs.Printed.{Piece, Text, LedgerLine, InferredLine, CertificateLine, ZeroLine, bytes_of}

-- a certificate is printed as one line and its end, and to that line is answered that it is valid, with the verdict that
-- it is printed for
abbrev pub IsAnsweredAlike : Piece → Type 0
IsAnsweredAlike (Text bytes) = Unit {0}
IsAnsweredAlike (LedgerLine es s r) = Unit {0}
IsAnsweredAlike (InferredLine es s) = Unit {0}
IsAnsweredAlike (CertificateLine es s r c) =
    (bytes_of (CertificateLine es s r c) ≡ line_of c ++ codes "\n") × (text_of (answered (line_of c ∷ [])) ≡ verdict_text r) × (has_invalid (answered (line_of c ∷ [])) ≡ false)
IsAnsweredAlike (ZeroLine es ts r) = Unit {0}

-- so is every certificate among what is printed
abbrev pub AreAnsweredAlike : List Piece → Type 0
AreAnsweredAlike pieces = AllByRecursion IsAnsweredAlike pieces
