-- What the answer to a line says of it.
use Rattle.std.specs.Prelude.{◌≡◌, ◌⊎◌, ℕ, None, Some, List}
use Rattle.std.specs.List.{AllByRecursion}
use Rattle.geo_cert.specs.declared.certificates.Certificate.{Certificate}
use Rattle.geo_cert.specs.Lines.{HasNone, HasOther, ReadsAs}
use Rattle.geo_check.specs.Faults.{first_fault}
use Rattle.geo_check.specs.Truth.{IsTrueCertificate}
use Rattle.geo_checker.specs.Answers.{Answer, Answered, valid, invalid}

-- this is the number of the first rule that the line breaks: it is no text of a value, or of no certificate, or of one that
-- is refused
abbrev pub IsFirstBroken : List ℕ → ℕ → Type 0
IsFirstBroken line n = ((n ≡ 1) × HasNone line) ⊎ (((n ≡ 2) × HasOther line) ⊎ ((c : Certificate) × ReadsAs line c × (first_fault c ≡ Some n)))

-- the line is a certificate that is not refused, and what this says of its claim is true; or
-- it breaks this rule first
abbrev pub IsRight : List ℕ → Answer → Type 0
IsRight line (valid c) = ReadsAs line c × (first_fault c ≡ None) × IsTrueCertificate c
IsRight line (invalid n) = IsFirstBroken line n

abbrev pub AreRight : List Answered → Type 0
AreRight all = AllByRecursion (λ a. IsRight a.line a.answer) all
