-- Which number applies first, from what was tested.
use Rattle.std.proofs.Common.{◌≡◌, ◌∙◌, sym, ap, refl, ℕ, ◌≤◌, Bool, true, false, if◌then◌else◌, Option, None, Some}
use Rattle.std.specs.Prelude.{◌&&◌, not, nat_lt, is_none, is_some}
use Rattle.std.proofs.lemmas.Bool.{and_from, ltb-false}
use Rattle.geo_sketch.specs.Posing.{is_posed}
use Rattle.geo_sketch.specs.Rebuilding.{at_zero, is_sound, rebuilt}
use Rattle.geo_sketch.specs.Sketches.{Drawing}
use Rattle.geo_height.specs.Capped.{within_limit}
use Rattle.geo_triple.specs.declared.limits.TheConstants.{STATEMENT_LIMIT}
use Rattle.geo_cert.specs.declared.certificates.Certificate.{Certificate}
use Rattle.geo_check.specs.Faults.{elements_in, finding_fault, first_fault, unless}

pub unless_passed : (b : Bool) (n : ℕ) (later : Option ℕ) → b ≡ true → unless b n later ≡ later
unless_passed true n later t = refl
unless_passed false n later t = cc

pub unless_failed : (b : Bool) (n : ℕ) (later : Option ℕ) → b ≡ false → unless b n later ≡ Some n
unless_failed true n later t = cc
unless_failed false n later t = refl

-- ---- elements and claim
none_made : (b : Bool) (d : Drawing) → (if b then Some d else None) ≡ None → b ≡ false
none_made true d t = cc
none_made false d t = refl

some_made : (b : Bool) (d e : Drawing) → (if b then Some d else None) ≡ Some e → (b ≡ true) × (e ≡ d)
some_made true d e t = (refl, cc)
some_made false d e t = cc

and_first : (a b : Bool) → a ≡ false → (a && b) ≡ false
and_first true b t = cc
and_first false b t = refl

and_second : (a b : Bool) → b ≡ false → (a && b) ≡ false
and_second true b t = t
and_second false b t = refl

module _ (c : Certificate) where
  pub not_sound : rebuilt c.elements ≡ None → first_fault c ≡ Some 3
  not_sound t = unless_failed _ 3 (finding_fault (elements_in c) c.claim c.finding) (and_first (is_sound (elements_in c)) (is_posed (elements_in c) c.claim) (none_made (is_sound (elements_in c)) (at_zero (elements_in c)) t))

  pub made : (d : Drawing) → rebuilt c.elements ≡ Some d → d.elements ≡ elements_in c
  made d t = ap (λ (e : Drawing). e.elements) (some_made (is_sound (elements_in c)) (at_zero (elements_in c)) d t).1

  pub not_posed : is_posed (elements_in c) c.claim ≡ false → first_fault c ≡ Some 3
  not_posed t = unless_failed _ 3 (finding_fault (elements_in c) c.claim c.finding) (and_second (is_sound (elements_in c)) (is_posed (elements_in c) c.claim) t)

  pub found : (d : Drawing) → rebuilt c.elements ≡ Some d → is_posed (elements_in c) c.claim ≡ true → first_fault c ≡ finding_fault (elements_in c) c.claim c.finding
  found d t u = unless_passed _ 3 (finding_fault (elements_in c) c.claim c.finding) (and_from _ _ (some_made (is_sound (elements_in c)) (at_zero (elements_in c)) d t).0 u)

-- ---- heights
height_by : (b : Bool) (h : ℕ) → is_none (if b then None else Some h) ≡ b
height_by true h = refl
height_by false h = refl

pub high : (h : ℕ) → is_none (within_limit h) ≡ true → not (nat_lt STATEMENT_LIMIT h) ≡ false
high h t = ap not (sym (height_by (nat_lt STATEMENT_LIMIT h) h) ∙ t)

pub low : (h : ℕ) → is_none (within_limit h) ≡ false → (not (nat_lt STATEMENT_LIMIT h) ≡ true) × (h ≤ STATEMENT_LIMIT)
low h t =
    let below : nat_lt STATEMENT_LIMIT h ≡ false = sym (height_by (nat_lt STATEMENT_LIMIT h) h) ∙ t in
    (ap not below, ltb-false STATEMENT_LIMIT h below)

not_twice : (a r : Bool) → a ≡ not r → not a ≡ r
not_twice true true e = sym e
not_twice true false e = refl
not_twice false true e = refl
not_twice false false e = sym e

-- whether there is none, where it was asked
pub none_is : {X : Type 0} (o : Option X) (r : Bool) → is_some o ≡ not r → is_none o ≡ r
none_is None r e = not_twice false r e
none_is (Some x) r e = not_twice true r e
