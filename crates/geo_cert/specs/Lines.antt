-- Which certificate a line is, and why it is none.
use Rattle.std.specs.Prelude.{◌≡◌, ℕ, ◌<◌, ◌≤◌, ◌⊎◌, List, length, Option, Some, None, Result, Ok, Err}
use Rattle.std.specs.Str.{IsUtf8}
use Rattle.serde_json.specs.Data.{Data}
use Rattle.serde_json.specs.Read.{read}
use Rattle.geo_cert.specs.declared.certificates.CertStop.{CertStop}
use Rattle.geo_cert.specs.declared.certificates.CertStop.TheVariants.{Bad, NoMemory}
use Rattle.geo_cert.specs.declared.certificates.Certificate.{Certificate}
use Rattle.geo_cert.specs.Shapes.{IsDataOf}
use Rattle.geo_cert.specs.declared.limits.TheConstants.{CERTIFICATE_LIMIT}

-- the line is text of at most this many bytes that reads as this value
abbrev pub HasData : List ℕ → Data → Type 0
HasData line d = (length line ≤ CERTIFICATE_LIMIT) × IsUtf8 line × (read line ≡ Some d)

-- it is longer, or no text, or reads as no value
abbrev pub HasNone : List ℕ → Type 0
HasNone line = (CERTIFICATE_LIMIT < length line) ⊎ (IsUtf8 line → read line ≡ None)

-- it reads as a value that is this certificate in one of the versions
abbrev pub ReadsAs : List ℕ → Certificate → Type 0
ReadsAs line c = (d : Data) × HasData line d × IsDataOf d c

-- it reads as a value that is no certificate
abbrev pub HasOther : List ℕ → Type 0
HasOther line = (d : Data) × HasData line d × ((c : Certificate) → IsDataOf d c → ⊥)

-- ---- what reading answers: the certificate, or the first number that applies
abbrev pub Reads : List ℕ → Result Certificate CertStop → Type 0
Reads line (Ok c) = ReadsAs line c
Reads line (Err (Bad n)) = ((n ≡ 1) × HasNone line) ⊎ ((n ≡ 2) × HasOther line)
Reads line (Err NoMemory) = Unit {0}

-- ---- of a value that was read
abbrev pub IsAnswer : Data → Result Certificate CertStop → Type 0
IsAnswer d (Ok c) = IsDataOf d c
IsAnswer d (Err (Bad n)) = (n ≡ 2) × ((c : Certificate) → IsDataOf d c → ⊥)
IsAnswer d (Err NoMemory) = Unit {0}
