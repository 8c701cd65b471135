-- What a line reads as, as a function of its bytes.
use Rattle.std.specs.Prelude.{ℕ, ◌&&◌, nat_le, if◌then◌else◌, Option, None, Some, Result, Ok, Err, List, length}
use Rattle.std.specs.Str.{is_utf8}
use Rattle.serde_json.specs.Data.{Data}
use Rattle.serde_json.specs.Read.{read}
use Rattle.geo_cert.specs.declared.certificates.Certificate.{Certificate}
use Rattle.geo_cert.specs.Objects.{certificate_of}
use Rattle.geo_cert.specs.declared.limits.TheConstants.{CERTIFICATE_LIMIT}

-- the value of a line that is not too long and is the text of one
unfoldable pub data_of : List ℕ → Option Data
data_of line = if nat_le (length line) CERTIFICATE_LIMIT && is_utf8 line then read line else None

abbrev pub certificate_or_two : Option Certificate → Result Certificate ℕ
certificate_or_two None = Err 2
certificate_or_two (Some c) = Ok c

-- the certificate that the value is, or the first number that applies
abbrev pub certificate_in_value : Option Data → Result Certificate ℕ
certificate_in_value None = Err 1
certificate_in_value (Some d) = certificate_or_two (certificate_of d)

unfoldable pub reading_of : List ℕ → Result Certificate ℕ
reading_of line = certificate_in_value (data_of line)
