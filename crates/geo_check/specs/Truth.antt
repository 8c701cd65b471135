-- What a certificate says that the checker does not refuse: it is true.
use Rattle.std.specs.Prelude.{◌≡◌, List, Some, Result, Ok, Err}
use Rattle.geo_sketch.specs.declared.elements.Element.{Element}
use Rattle.geo_sketch.specs.declared.statements.Statement.{Statement}
use Rattle.geo_sketch.specs.Assignments.{assignment_of}
use Rattle.geo_sketch.specs.Rebuilding.{at_zero, rebuilt}
use Rattle.geo_sketch.specs.Sketches.{IsDrawn, IsPosed}
use Rattle.geo_sketch.specs.Statements.{parts_at, Holds}
use Rattle.geo_triple.specs.Zero.{AreZero}
use Rattle.geo_cert.specs.declared.certificates.CertStop.{CertStop}
use Rattle.geo_cert.specs.declared.certificates.Certificate.{Certificate}
use Rattle.geo_cert.specs.declared.certificates.Finding.{Finding}
use Rattle.geo_cert.specs.declared.certificates.Finding.TheVariants as finding
use Rattle.geo_check.specs.declared.checking.Checked.{Checked}
use Rattle.geo_check.specs.Faults.{elements_in}

-- the statement holds; or a part of it is not 0 at the values
abbrev pub IsTrueFinding : List Element → Statement → Finding → Type 0
IsTrueFinding es s (finding.Proved degrees grid) = Holds es s
IsTrueFinding es s (finding.False values) = ¬ AreZero (parts_at es s (assignment_of values))

-- its elements make a sketch, its claim is a statement about that, and what it says of it is true
pub record IsTrueCertificate (c : Certificate) : Type 0 where
  pub rebuilt_is : rebuilt c.elements ≡ Some (at_zero (elements_in c))
  pub drawn : IsDrawn (at_zero (elements_in c))
  pub posed : IsPosed (elements_in c) c.claim
  pub finding_is : IsTrueFinding (elements_in c) c.claim c.finding

abbrev pub IsTrueAnswer : Certificate → Result Checked CertStop → Type 0
IsTrueAnswer c (Ok checked) = IsTrueCertificate c
IsTrueAnswer c (Err stop) = Unit {0}
