-- What is answered to the lines of an input, each of which may be a certificate.
use Rattle.std.specs.Prelude.{◌≡◌, ℕ, ◌++◌, ◌==◌, ◌||◌, not, nat_lt, if◌then◌else◌, Bool, true, false, Option, None, Some, Result, Ok, Err, List, [], ◌∷◌, length, flat_map, codes}
use Rattle.std.specs.List.{list_all, list_any}
use Rattle.std.specs.Fmt.{decimal}
use Rattle.geo_sketch.specs.declared.verdicts.Verdict.{Verdict}
use Rattle.geo_sketch.specs.declared.verdicts.Verdict.TheVariants as verdict
use Rattle.geo_cert.specs.declared.certificates.CertStop.{CertStop}
use Rattle.geo_cert.specs.declared.certificates.CertStop.TheVariants.{Bad, NoMemory}
use Rattle.geo_cert.specs.declared.certificates.Certificate.{Certificate}
use Rattle.geo_check.specs.declared.checking.Checked.{Checked}
use Rattle.geo_check.specs.declared.checking.Checked.TheVariants.{Proved, False}
use Rattle.geo_check.specs.Faults.{checked_of, first_fault}
use Rattle.geo_checker.specs.Reading.{reading_of}
use Rattle.geo_cert.specs.declared.limits.TheConstants.{CERTIFICATE_LIMIT}

-- a certificate that is not refused, or the number of the first rule that is broken
pub data Answer : Type 0 where
  valid : Certificate → Answer
  invalid : ℕ → Answer

abbrev pub answer_by_fault : Certificate → Option ℕ → Answer
answer_by_fault c None = valid c
answer_by_fault c (Some n) = invalid n

abbrev pub answer_by_reading : Result Certificate ℕ → Answer
answer_by_reading (Err n) = invalid n
answer_by_reading (Ok c) = answer_by_fault c (first_fault c)

unfoldable pub answer_of : List ℕ → Answer
answer_of line = answer_by_reading (reading_of line)

-- a line was checked: this is the answer to it, as far as memory was there
abbrev pub IsCheckedAs : Answer → Result Checked CertStop → Type 0
IsCheckedAs answer (Ok checked) = (c : Certificate) × (answer ≡ valid c) × (checked ≡ checked_of c.finding)
IsCheckedAs answer (Err (Bad n)) = answer ≡ invalid n
IsCheckedAs answer (Err NoMemory) = Unit {0}

-- ---- which lines are answered: a line of spaces and tabs is not, unless it is too long
abbrev pub is_blank : ℕ → Bool
is_blank b = (b == 32) || (b == 9)

unfoldable pub has_answer : List ℕ → Bool
has_answer line = nat_lt CERTIFICATE_LIMIT (length line) || not (list_all is_blank line)

-- a line, and the answer to it
pub record Answered : Type 0 where
  pub line : List ℕ
  pub answer : Answer

unfoldable pub answers_to : List ℕ → List Answered
answers_to line = if has_answer line then record { line = line; answer = answer_of line } ∷ [] else []

-- the lines that are answered, one after the other, with their answers
abbrev pub answered : List (List ℕ) → List Answered
answered lines = flat_map answers_to lines

-- ---- their text
abbrev pub checked_text : Checked → List ℕ
checked_text Proved = codes "valid proved\n"
checked_text False = codes "valid false\n"

abbrev pub answer_text : Answer → List ℕ
answer_text (valid c) = checked_text (checked_of c.finding)
answer_text (invalid n) = codes "invalid " ++ (decimal n ++ codes "\n")

abbrev pub text_of : List Answered → List ℕ
text_of all = flat_map (λ a. answer_text a.answer) all

-- ---- whether one of them is invalid
abbrev pub is_invalid : Answer → Bool
is_invalid (valid c) = false
is_invalid (invalid n) = true

abbrev pub has_invalid : List Answered → Bool
has_invalid all = list_any (λ a. is_invalid a.answer) all

-- ---- what is answered to the certificate of a statement with this verdict; where that is not
-- settled there is no certificate
abbrev pub verdict_text : Verdict → List ℕ
verdict_text verdict.Proved = checked_text Proved
verdict_text (verdict.False values) = checked_text False
verdict_text (verdict.Unsettled past) = []
