-- What is answered to a line, and that it is right.
use Rattle.std.proofs.Common.{◌≡◌, ◌∙◌, sym, ap, subst, refl, inl, inr, ◌⊎◌, ℕ, ◌<◌, ◌≤◌, ◌+◌, ◌++◌, Bool, true, false, Option, None, Some, List, [], ◌∷◌, length, take, map, min, arith}
use Rattle.std.specs.Prelude.{nat_lt, not, ◌||◌, if◌then◌else◌, Result, Ok, Err, flat_map}
use Rattle.std.specs.List.{list_all, list_any}
use Rattle.std.proofs.lemmas.Bool.Decides.{nat_tests}
use Rattle.std.proofs.lemmas.Grind.{flat_map-append}
use Rattle.std.proofs.lemmas.List.{length-take, take_all}
use Rattle.std.proofs.lemmas.List.Folds.{list_any-append}
use Rattle.serde_json.specs.Data.{Data}
use Rattle.serde_json.specs.Written.{compact_text}
use Rattle.geo_sketch.specs.declared.elements.Element.{Element}
use Rattle.geo_sketch.specs.declared.statements.Statement.{Statement}
use Rattle.geo_sketch.specs.declared.verdicts.Verdict.{Verdict}
use Rattle.geo_sketch.specs.declared.verdicts.Verdict.TheVariants as verdict
use Rattle.geo_cert.specs.declared.certificates.CertStop.{CertStop}
use Rattle.geo_cert.specs.declared.certificates.CertStop.TheVariants.{Bad, NoMemory}
use Rattle.geo_cert.specs.declared.certificates.Certificate.{Certificate}
use Rattle.geo_cert.specs.declared.certificates.Finding.{Finding}
use Rattle.geo_cert.specs.declared.certificates.Finding.TheVariants as finding
use Rattle.geo_cert.specs.Lines.{Reads, ReadsAs}
use Rattle.geo_cert.specs.Making.{certificate_by, degrees_of, values_for}
use Rattle.geo_cert.specs.Shapes.{finding_data}
use Rattle.geo_cert.specs.Written.{line_of, written_version}
use Rattle.geo_cert.specs.Objects.{certificate_of}
use Rattle.geo_check.specs.declared.checking.Checked.{Checked}
use Rattle.geo_check.specs.Faults.{IsAnswer, checked_of, first_fault}
use Rattle.geo_check.specs.Truth.{IsTrueCertificate}
use Rattle.geo_checker.specs.Reading.{certificate_in_value, certificate_or_two, data_of, reading_of}
use Rattle.geo_checker.specs.Answers.{Answer, Answered, IsCheckedAs, valid, invalid, answer_by_fault, answer_by_reading, answer_of, answer_text, answered, answers_to, checked_text, has_answer, has_invalid, is_blank, is_invalid, text_of, verdict_text}
use Rattle.geo_checker.specs.Truth.{AreRight, IsFirstBroken, IsRight}
use Rattle.geo_checker.proofs.ReadingLaws.{no_value, other_value, read_back, reads_as, value_missing, value_other}
use Rattle.geo_cert.specs.declared.limits.TheConstants.{CERTIFICATE_LIMIT}

-- ---- an answer is right
or_two : (n : ℕ) (o : Option Certificate) → certificate_or_two o ≡ Err n → n ≡ 2
or_two n None e = cc
or_two n (Some c) e = absurd (cc)

one_or_two : (n : ℕ) (o : Option Data) → certificate_in_value o ≡ Err n → (n ≡ 1) ⊎ (n ≡ 2)
one_or_two n None e = inl (cc)
one_or_two n (Some d) e = inr (or_two n (certificate_of d) e)

number_of_reading : (line : List ℕ) (n : ℕ) → reading_of line ≡ Err n → (n ≡ 1) ⊎ (n ≡ 2)
unfolding reading_of
number_of_reading line n e = one_or_two n (data_of line) e

module _ (accepted : (c : Certificate) → first_fault c ≡ None → IsTrueCertificate c) where
  right_by_fault : (line : List ℕ) (c : Certificate) → ReadsAs line c → (o : Option ℕ) → first_fault c ≡ o → IsRight line (answer_by_fault c o)
  right_by_fault line c reads None e = (reads, e, accepted c e)
  right_by_fault line c reads (Some n) e = inr (inr (c, reads, e))

  broken_by : (line : List ℕ) (n : ℕ) → reading_of line ≡ Err n → (n ≡ 1) ⊎ (n ≡ 2) → IsFirstBroken line n
  broken_by line n e (inl one) = inl (one, no_value line (subst (λ k. reading_of line ≡ Err k) one e))
  broken_by line n e (inr two) = inr (inl (two, other_value line (subst (λ k. reading_of line ≡ Err k) two e)))

  right_by_reading : (line : List ℕ) (r : Result Certificate ℕ) → reading_of line ≡ r → IsRight line (answer_by_reading r)
  right_by_reading line (Ok c) e = right_by_fault line c (reads_as line c e) (first_fault c) refl
  right_by_reading line (Err n) e = broken_by line n e (number_of_reading line n e)

  pub is_right : (line : List ℕ) → IsRight line (answer_of line)
  unfolding answer_of
  is_right line = right_by_reading line (reading_of line) refl

  line_right : (line : List ℕ) (b : Bool) (more : List Answered) → AreRight more → AreRight ((if b then record { line = line; answer = answer_of line } ∷ [] else []) ++ more)
  line_right line true more others = (is_right line, others)
  line_right line false more others = others

  pub are_right : (lines : List (List ℕ)) → AreRight (answered lines)
  unfolding answers_to
  are_right [] = tt
  are_right (line ∷ lines) = line_right line (has_answer line) (answered lines) (are_right lines)

-- ---- what is found of a line is its answer
pub checked_error : (line : List ℕ) (e : CertStop) → Reads line (Err e) → IsCheckedAs (answer_of line) (Err e)
unfolding answer_of
checked_error line (Bad n) (inl (one, none)) = ap answer_by_reading (value_missing line none) ∙ ap invalid (sym one)
checked_error line (Bad n) (inr (two, other)) = ap answer_by_reading (value_other line other) ∙ ap invalid (sym two)
checked_error line NoMemory r = tt

pub checked_right : (line : List ℕ) (c : Certificate) (r : Result Checked CertStop) → ReadsAs line c → IsAnswer c r → IsCheckedAs (answer_of line) r
unfolding answer_of
checked_right line c (Ok checked) reads (none, is) = (c, ap answer_by_reading (read_back line c reads) ∙ ap (answer_by_fault c) none, is)
checked_right line c (Err (Bad n)) reads e = ap answer_by_reading (read_back line c reads) ∙ ap (answer_by_fault c) e
checked_right line c (Err NoMemory) reads e = tt

-- ---- a line that is too long is answered as its first bytes are
is_long : (line : List ℕ) → CERTIFICATE_LIMIT < length line → answer_of line ≡ invalid 1
unfolding answer_of
is_long line long = ap answer_by_reading (value_missing line (inl long))

has_one : (line : List ℕ) → CERTIFICATE_LIMIT < length line → has_answer line ≡ true
unfolding has_answer
has_one line long = let is : nat_lt CERTIFICATE_LIMIT (length line) ≡ true = grind (arith, nat_tests, long) in rw is refl

-- its answers, without the line
said : List ℕ → List Answer
said line = map (λ a. a.answer) (answers_to line)

said_long : (line : List ℕ) → CERTIFICATE_LIMIT < length line → said line ≡ invalid 1 ∷ []
unfolding said answers_to
said_long line long = rw (has_one line long, is_long line long) refl

said_by : (line : List ℕ) (b : Bool) → nat_lt (CERTIFICATE_LIMIT + 1) (length line) ≡ b → said (take (CERTIFICATE_LIMIT + 1) line) ≡ said line
said_by line true h =
    let long : CERTIFICATE_LIMIT + 1 < length line = grind (arith, nat_tests, h) in
    let cut : length (take (CERTIFICATE_LIMIT + 1) line) ≡ min (CERTIFICATE_LIMIT + 1) (length line) = length-take (CERTIFICATE_LIMIT + 1) line in
    let still : CERTIFICATE_LIMIT < length (take (CERTIFICATE_LIMIT + 1) line) = omega (arith, cut, long) in
    said_long (take (CERTIFICATE_LIMIT + 1) line) still ∙ sym (said_long line (omega (arith, long)))
said_by line false h = let few : length line ≤ CERTIFICATE_LIMIT + 1 = grind (arith, nat_tests, h) in ap said (take_all (CERTIFICATE_LIMIT + 1) line few)

said_alike : (line : List ℕ) → said (take (CERTIFICATE_LIMIT + 1) line) ≡ said line
said_alike line = said_by line (nat_lt (CERTIFICATE_LIMIT + 1) (length line)) refl

texts : (all : List Answered) → text_of all ≡ flat_map answer_text (map (λ a. a.answer) all)
texts [] = refl
texts (a ∷ all) = ap (λ l. answer_text a.answer ++ l) (texts all)

pub text_alike : (lines : List (List ℕ)) → text_of (answered (map (take (CERTIFICATE_LIMIT + 1)) lines)) ≡ text_of (answered lines)
unfolding said
text_alike [] = refl
text_alike (line ∷ lines) =
    flat_map-append (λ (a : Answered). answer_text a.answer) (answers_to (take (CERTIFICATE_LIMIT + 1) line)) (answered (map (take (CERTIFICATE_LIMIT + 1)) lines))
    ∙ ap (λ l. l ++ text_of (answered (map (take (CERTIFICATE_LIMIT + 1)) lines))) (texts (answers_to (take (CERTIFICATE_LIMIT + 1) line)) ∙ ap (flat_map answer_text) (said_alike line) ∙ sym (texts (answers_to line)))
    ∙ ap (λ l. text_of (answers_to line) ++ l) (text_alike lines) ∙ sym (flat_map-append (λ (a : Answered). answer_text a.answer) (answers_to line) (answered lines))

bad : (all : List Answered) → has_invalid all ≡ list_any is_invalid (map (λ a. a.answer) all)
bad [] = refl
bad (a ∷ all) = ap (λ b. is_invalid a.answer || b) (bad all)

pub invalid_alike : (lines : List (List ℕ)) → has_invalid (answered (map (take (CERTIFICATE_LIMIT + 1)) lines)) ≡ has_invalid (answered lines)
unfolding said
invalid_alike [] = refl
invalid_alike (line ∷ lines) =
    list_any-append (λ (a : Answered). is_invalid a.answer) (answers_to (take (CERTIFICATE_LIMIT + 1) line)) (answered (map (take (CERTIFICATE_LIMIT + 1)) lines))
    ∙ ap (λ b. b || has_invalid (answered (map (take (CERTIFICATE_LIMIT + 1)) lines))) (bad (answers_to (take (CERTIFICATE_LIMIT + 1) line)) ∙ ap (list_any is_invalid) (said_alike line) ∙ sym (bad (answers_to line)))
    ∙ ap (λ b. has_invalid (answers_to line) || b) (invalid_alike lines) ∙ sym (list_any-append (λ (a : Answered). is_invalid a.answer) (answers_to line) (answered lines))

-- ---- the line of a certificate has an answer, which tells the verdict it was made of
line_answered : (c : Certificate) → has_answer (line_of c) ≡ true
unfolding has_answer
line_answered c = by (nat_lt CERTIFICATE_LIMIT (length (line_of c))) c.finding refl
  where
    by : (long : Bool) (found : Finding) → c.finding ≡ found → (long || not (list_all is_blank (line_of c))) ≡ true
    by true found e = refl
    by false (finding.Proved degrees grid) e = ap (λ f. not (list_all is_blank (compact_text (finding_data c.claim c.elements written_version f)))) e
    by false (finding.False values) e = ap (λ f. not (list_all is_blank (compact_text (finding_data c.claim c.elements written_version f)))) e

answered_line : (c : Certificate) → answer_of (line_of c) ≡ valid c → answered (line_of c ∷ []) ≡ record { line = line_of c; answer = valid c } ∷ []
unfolding answers_to
answered_line c is = rw (line_answered c, is) refl

pub verdict_answered : (es : List Element) (s : Statement) (r : Verdict) (c : Certificate) → certificate_by es s r ≡ Some c → answer_of (line_of c) ≡ valid c → text_of (answered (line_of c ∷ [])) ≡ verdict_text r
verdict_answered es s r c made is = ap text_of (answered_line c is) ∙ by r made
  where
    by : (r : Verdict) → certificate_by es s r ≡ Some c → text_of (record { line = line_of c; answer = valid c } ∷ []) ≡ verdict_text r
    by verdict.Proved e = let found : finding.Proved (degrees_of es s) (map values_for (degrees_of es s)) ≡ c.finding = cc in ap (λ f. checked_text (checked_of f) ++ []) (sym found)
    by (verdict.False values) e = let found : finding.False values ≡ c.finding = cc in ap (λ f. checked_text (checked_of f) ++ []) (sym found)
    by (verdict.Unsettled past) e = absurd (cc)

pub verdict_accepted : (c : Certificate) → answer_of (line_of c) ≡ valid c → has_invalid (answered (line_of c ∷ [])) ≡ false
verdict_accepted c is = ap has_invalid (answered_line c is)
