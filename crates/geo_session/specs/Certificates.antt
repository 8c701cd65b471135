-- What a printed certificate says.
use Rattle.std.specs.Prelude.{ℕ, ◌++◌, List, map, codes}
use Rattle.geo_sketch.specs.declared.elements.Element.{Element}
use Rattle.geo_sketch.specs.declared.statements.Statement.{Statement}
use Rattle.geo_sketch.specs.declared.verdicts.Verdict.TheVariants as verdict
use Rattle.geo_sketch.specs.Rebuilding.{listed}
use Rattle.geo_cert.specs.declared.certificates.Certificate.{Certificate}
use Rattle.geo_cert.specs.declared.certificates.Finding.{Finding}
use Rattle.geo_cert.specs.declared.certificates.Finding.TheVariants.{Proved, False}
use Rattle.geo_cert.specs.Written.{line_of}
use Rattle.geo_session.specs.Truth.{IsTrue}

abbrev pub certificate_line : Certificate → List ℕ
certificate_line c = line_of c ++ codes "\n"

-- of these elements: proved, and the statement holds; or false at the values
abbrev pub IsTrueFinding : List Element → Statement → Finding → Type 0
IsTrueFinding es s (Proved degrees grid) = IsTrue es s verdict.Proved
IsTrueFinding es s (False values) = IsTrue es s (verdict.False values)

-- what it says of its claim is so in the sketch of its own elements alone
abbrev pub IsTrueAlone : Certificate → Type 0
IsTrueAlone c = IsTrueFinding (map listed c.elements) c.claim c.finding
