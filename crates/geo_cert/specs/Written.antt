-- The text of a certificate.
use Rattle.std.specs.Prelude.{ℕ, List}
use Rattle.serde_json.specs.Written.{compact_text}
use Rattle.geo_cert.specs.declared.certificates.Certificate.{Certificate}
use Rattle.geo_cert.specs.Shapes.{certificate_data}

-- certificates are written in this version
abbrev pub written_version : ℕ
written_version = 2

-- the one line of a certificate, without its end: no space, and keys in rising order
abbrev pub line_of : Certificate → List ℕ
line_of c = compact_text (certificate_data written_version c)
