-- What a line reads as, by its causes.
use Rattle.std.proofs.Common.{◌≡◌, ◌∙◌, sym, ap, refl, inl, inr, ℕ, Bool, true, false, Option, None, Some, List, length, arith}
use Rattle.std.specs.Prelude.{◌&&◌, nat_le, if◌then◌else◌, Ok, Err}
use Rattle.std.specs.Str.{is_utf8}
use Rattle.std.proofs.lemmas.Str.{IsUtf8-from_is_utf8, is_utf8-from_IsUtf8}
use Rattle.std.proofs.lemmas.Bool.Decides.{nat_tests}
use Rattle.serde_json.specs.Data.{Data}
use Rattle.serde_json.specs.Read.{read}
use Rattle.geo_cert.specs.declared.certificates.Certificate.{Certificate}
use Rattle.geo_cert.specs.Lines.{HasData, HasNone, HasOther, ReadsAs}
use Rattle.geo_cert.specs.Objects.{certificate_of}
use Rattle.geo_cert.specs.Shapes.{IsDataOf}
use Rattle.geo_cert.proofs.WholeLines.{certificate_only, data_reads}
use Rattle.geo_checker.specs.Reading.{data_of, reading_of, certificate_in_value, certificate_or_two}
use Rattle.geo_cert.specs.declared.limits.TheConstants.{CERTIFICATE_LIMIT}

-- ---- the value
data_by : (line : List ℕ) (t u : Bool) → nat_le (length line) CERTIFICATE_LIMIT ≡ t → is_utf8 line ≡ u → (d : Data) → (if t && u then read line else None) ≡ Some d → HasData line d
data_by line true true h i d e = (grind (arith, nat_tests, h), IsUtf8-from_is_utf8 line i, e)
data_by line true false h i d e = absurd (cc)
data_by line false u h i d e = absurd (cc)

has_data : (line : List ℕ) (d : Data) → data_of line ≡ Some d → HasData line d
unfolding data_of
has_data line d e = data_by line (nat_le (length line) CERTIFICATE_LIMIT) (is_utf8 line) refl refl d e

data_had : (line : List ℕ) (d : Data) → HasData line d → data_of line ≡ Some d
unfolding data_of
data_had line d (few, text, reads) =
    let short : nat_le (length line) CERTIFICATE_LIMIT ≡ true = grind (arith, nat_tests, few) in
    rw (short, is_utf8-from_IsUtf8 line text) reads

none_by : (line : List ℕ) (t u : Bool) → nat_le (length line) CERTIFICATE_LIMIT ≡ t → is_utf8 line ≡ u → (if t && u then read line else None) ≡ None → HasNone line
none_by line true true h i e = inr (λ text. e)
none_by line true false h i e = inr (λ text. absurd (both (is_utf8 line) i (is_utf8-from_IsUtf8 line text)))
  where
    both : (b : Bool) → b ≡ false → b ≡ true → ⊥
    both b is other = grind (arith, is, other)
none_by line false u h i e = inl (grind (arith, nat_tests, h))

has_none : (line : List ℕ) → data_of line ≡ None → HasNone line
unfolding data_of
has_none line e = none_by line (nat_le (length line) CERTIFICATE_LIMIT) (is_utf8 line) refl refl e

-- a line that has a value is not one without
not_both : (line : List ℕ) (d : Data) → HasData line d → HasNone line → ⊥
not_both line d (few, text, reads) (inl long) = omega (arith, few, long)
not_both line d (few, text, reads) (inr none) = let r = none text in absurd (differ (read line) d reads r)
  where
    differ : (o : Option Data) (d : Data) → o ≡ Some d → o ≡ None → ⊥
    differ o d e f = let g : Some d ≡ None = sym e ∙ f in cc

-- ---- the certificate
module _ (line : List ℕ) where
  by_value : (o : Option Data) → data_of line ≡ o → reading_of line ≡ certificate_in_value o
  unfolding reading_of
  by_value o e = ap certificate_in_value e

  read_by : (c : Certificate) (d : Data) (o : Option Certificate) → certificate_of d ≡ o → certificate_or_two o ≡ Ok c → IsDataOf d c
  read_by c d None e f = absurd (cc)
  read_by c d (Some b) e f = let g : b ≡ c = cc in certificate_only d c (e ∙ ap Some g)

  reads_by : (c : Certificate) (o : Option Data) → data_of line ≡ o → certificate_in_value o ≡ Ok c → ReadsAs line c
  reads_by c None e f = absurd (cc)
  reads_by c (Some d) e f = (d, has_data line d e, read_by c d (certificate_of d) refl f)

  pub reads_as : (c : Certificate) → reading_of line ≡ Ok c → ReadsAs line c
  reads_as c e = reads_by c (data_of line) refl (sym (by_value (data_of line) refl) ∙ e)

  pub read_back : (c : Certificate) → ReadsAs line c → reading_of line ≡ Ok c
  read_back c (d, has, is) = by_value (Some d) (data_had line d has) ∙ ap certificate_or_two (data_reads d c is)

  none_for : (o : Option Data) → data_of line ≡ o → certificate_in_value o ≡ Err 1 → HasNone line
  none_for None e f = has_none line e
  none_for (Some d) e f = absurd (other (certificate_of d) f)
    where
      other : (o : Option Certificate) → certificate_or_two o ≡ Err 1 → ⊥
      other None e = cc
      other (Some c) e = cc

  pub no_value : reading_of line ≡ Err 1 → HasNone line
  no_value e = none_for (data_of line) refl (sym (by_value (data_of line) refl) ∙ e)

  none_of : (o : Option Data) → data_of line ≡ o → HasNone line → reading_of line ≡ Err 1
  none_of None e none = by_value None e
  none_of (Some d) e none = absurd (not_both line d (has_data line d e) none)

  pub value_missing : HasNone line → reading_of line ≡ Err 1
  value_missing none = none_of (data_of line) refl none

  other_by : (d : Data) (o : Option Certificate) → certificate_of d ≡ o → certificate_or_two o ≡ Err 2 → (c : Certificate) → IsDataOf d c → ⊥
  other_by d None e f c is = let r : certificate_of d ≡ Some c = data_reads d c is in absurd (differ (certificate_of d) c e r)
    where
      differ : (o : Option Certificate) (c : Certificate) → o ≡ None → o ≡ Some c → ⊥
      differ o c e f = let g : None ≡ Some c = sym e ∙ f in cc
  other_by d (Some b) e f c is = cc

  other_for : (o : Option Data) → data_of line ≡ o → certificate_in_value o ≡ Err 2 → HasOther line
  other_for None e f = absurd (cc)
  other_for (Some d) e f = (d, has_data line d e, other_by d (certificate_of d) refl f)

  pub other_value : reading_of line ≡ Err 2 → HasOther line
  other_value e = other_for (data_of line) refl (sym (by_value (data_of line) refl) ∙ e)

  two_by : (d : Data) (o : Option Certificate) → certificate_of d ≡ o → ((c : Certificate) → IsDataOf d c → ⊥) → certificate_or_two o ≡ Err 2
  two_by d None e no' = refl
  two_by d (Some c) e no' = absurd (no' c (certificate_only d c e))

  pub value_other : HasOther line → reading_of line ≡ Err 2
  value_other (d, has, no') = by_value (Some d) (data_had line d has) ∙ two_by d (certificate_of d) refl no'
