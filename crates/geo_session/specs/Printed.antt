-- What is printed, piece by piece.
use Rattle.std.specs.Prelude.{ℕ, List, Option, None, Some, flat_map, map}
use Rattle.std.specs.List.{AllByRecursion}
use Rattle.geo_sketch.specs.declared.elements.Element.{Element}
use Rattle.geo_sketch.specs.declared.statements.Statement.{Statement}
use Rattle.geo_sketch.specs.declared.verdicts.Verdict.{Verdict}
use Rattle.geo_sketch.specs.Sketches.{Drawing}
use Rattle.geo_sketch.specs.Statements.{Holds}
use Rattle.geo_degree.specs.VerdictFunction.{verdict_of}
use Rattle.geo_degree.specs.Verdicts.{question_of}
use Rattle.geo_cert.specs.declared.certificates.Certificate.{Certificate}
use Rattle.geo_cert.specs.Making.{certificate_by}
use Rattle.geo_bracket.specs.Expressions.{Terms}
use Rattle.geo_ledger.specs.Ledgers.{ledger_of}
use Rattle.geo_session.specs.Certificates.{IsTrueAlone, certificate_line}
use Rattle.geo_session.specs.LedgerTexts.{inferred_line, ledger_line}
use Rattle.geo_session.specs.Truth.{IsTrue}
use Rattle.geo_session.specs.Zeros.{IsTrueOfZero, zero_line}

-- some text; the line of a ledger: a statement about some elements, with its verdict; the
-- line of a step: a statement that was inferred; the line of a certificate of a statement
-- about some elements, with its verdict; or the line of an expression, with its verdict
pub data Piece : Type 0 where
  Text : List ℕ → Piece
  LedgerLine : List Element → Statement → Verdict → Piece
  InferredLine : List Element → Statement → Piece
  CertificateLine : List Element → Statement → Verdict → Certificate → Piece
  ZeroLine : List Element → Terms → Verdict → Piece

-- its bytes
abbrev pub bytes_of : Piece → List ℕ
bytes_of (Text bytes) = bytes
bytes_of (LedgerLine es s r) = ledger_line es s r
bytes_of (InferredLine es s) = inferred_line es s
bytes_of (CertificateLine es s r c) = certificate_line c
bytes_of (ZeroLine es ts r) = zero_line es r

-- those of all pieces, one after the other
abbrev pub text_of : List Piece → List ℕ
text_of pieces = flat_map bytes_of pieces

-- where it prints a verdict, that is true, and what it says was inferred holds; what a certificate
-- says is true of those elements, and of its own alone
abbrev pub IsTruePiece : Piece → Type 0
IsTruePiece (Text bytes) = Unit {0}
IsTruePiece (LedgerLine es s r) = IsTrue es s r
IsTruePiece (InferredLine es s) = Holds es s
IsTruePiece (CertificateLine es s r c) = IsTrue es s r × IsTrueAlone c
IsTruePiece (ZeroLine es ts r) = IsTrueOfZero es ts r

-- every verdict and every certificate that is printed is true, and every inferred statement
-- holds
abbrev pub AreTrue : List Piece → Type 0
AreTrue pieces = AllByRecursion IsTruePiece pieces

-- the ledger of a sketch, line by line
abbrev pub ledger_lines : Drawing → List Piece
ledger_lines drawing = map (λ e. LedgerLine drawing.elements e.statement e.verdict) (ledger_of drawing)

-- the certificate, or the line of the ledger where there is none
abbrev pub piece_by : List Element → Statement → Verdict → Option Certificate → Piece
piece_by es s r None = LedgerLine es s r
piece_by es s r (Some c) = CertificateLine es s r c

-- of a statement with its verdict
abbrev pub certified_piece : List Element → Statement → Piece
certified_piece es s = piece_by es s (verdict_of (question_of es s)) (certificate_by es s (verdict_of (question_of es s)))
