-- Right degrees and a grid for them: each entry has enough values, and every parameter that matters
-- stands in an entry.
use Rattle.std.proofs.Common.{◌≡◌, ◌∙◌, sym, subst, refl, ⊎_elim, ℕ, ◌<◌, ◌==◌, Bool, true, false, if◌then◌else◌, Some, option_map, List, [], ◌∷◌, ◌++◌, length, ℤ, pos, negsuc, arith}
use Rattle.std.specs.Prelude.{◌&&◌, ◌||◌, not}
use Rattle.std.specs.List.{list_all, AllByRecursion}
use Rattle.std.proofs.lemmas.Bool.{and_parts, eqb-true, eqb-false, leb-true, ltb-true}
use Rattle.std.proofs.lemmas.Bool.Decides.{nat_tests}
use Rattle.geo_sketch.specs.declared.elements.Def.{Def}
use Rattle.geo_sketch.specs.declared.elements.Def.TheVariants.{Free, Fixed, Cut, Blend, Cross}
use Rattle.geo_sketch.specs.declared.elements.Element.{Element}
use Rattle.geo_sketch.specs.declared.statements.Statement.{Statement}
use Rattle.geo_sketch.specs.Assignments.{element_of_parameter, first_parameter, second_parameter, own_parameters}
use Rattle.geo_sketch.specs.Constructions.{IsConstruction}
use Rattle.geo_sketch.specs.Lookups.{def_at, numbered}
use Rattle.geo_degree.specs.Degrees.{statement_degree}
use Rattle.geo_degree.specs.Grids.{parameters_of}
use Rattle.geo_degree.proofs.AxisLaws.{statement_parameter, Has}
use Rattle.geo_cert.specs.declared.degree_lists.DegreeEntry.{DegreeEntry}
use Rattle.geo_cert.specs.declared.degree_lists.DegreeEntry.TheVariants.{One, Pair}
use Rattle.geo_cert.specs.Grids.{Grid, one, two}
use Rattle.geo_check.specs.Degrees.{allowed, are_apart, are_of_free, are_right, is_among, is_at_most, is_free, is_owned, named_by, rise_from}
use Rattle.geo_check.specs.Grids.{are_for, are_more}
use Rattle.geo_check.proofs.ListLaws.{distinct}
use Rattle.geo_check.proofs.ZeroLaws.{parameters_on, HasEnough}

-- ---- tests
false_true : {P : Type 0} → false ≡ true → P
false_true e = cc

not_true : (b : Bool) → not b ≡ true → b ≡ false
not_true true t = cc
not_true false t = refl

or_false_right : (a b : Bool) → (a || b) ≡ false → b ≡ false
or_false_right true b t = cc
or_false_right false b t = t

-- ---- what stands in a list
pub among : (ps : List ℕ) (p : ℕ) → Has p ps → is_among ps p ≡ true
among [] p h = absurd h
among (q ∷ qs) p h = ⊎_elim (λ e. grind (arith, nat_tests)) (λ k. let rest = among qs p k in grind (arith, nat_tests)) h

all_among : (f : ℕ → Bool) (ps : List ℕ) (p : ℕ) → list_all f ps ≡ true → is_among ps p ≡ true → f p ≡ true
all_among f [] p t m = cc
all_among f (q ∷ qs) p t m = by_first (q == p) refl (all_among f qs p (and_parts _ _ t).1) m
  where
    by_first : (b : Bool) → (q == p) ≡ b → (is_among qs p ≡ true → f p ≡ true) → (b || is_among qs p) ≡ true → f p ≡ true
    by_first true e rest u = subst (λ (r : ℕ). f r ≡ true) (eqb-true q p e) (and_parts _ _ t).0
    by_first false e rest u = rest u

among_left : (ps qs : List ℕ) (p : ℕ) → is_among ps p ≡ true → is_among (ps ++ qs) p ≡ true
among_left [] qs p t = cc
among_left (r ∷ ps) qs p t = by_first (r == p) (among_left ps qs p) t
  where
    by_first : (b : Bool) → (is_among ps p ≡ true → is_among (ps ++ qs) p ≡ true) → (b || is_among ps p) ≡ true → (b || is_among (ps ++ qs) p) ≡ true
    by_first true rest u = refl
    by_first false rest u = rest u

among_right : (ps qs : List ℕ) (p : ℕ) → is_among qs p ≡ true → is_among (ps ++ qs) p ≡ true
among_right [] qs p t = t
among_right (r ∷ ps) qs p t = let rest = among_right ps qs p t in grind (arith, nat_tests)

-- ---- the parameters of a free element are among those of all
free_def : (d : Def) → is_free (Some d) ≡ true → d ≡ Free
free_def Free t = refl
free_def (Fixed a b c) t = cc
free_def (Cut k) t = cc
free_def (Blend k m) t = cc
free_def (Cross k m) t = cc

own_among : (es : List Element) (n : ℕ) → is_free (def_at es n) ≡ true → (is_among (parameters_of es) (first_parameter n) ≡ true) × (is_among (parameters_of es) (second_parameter n) ≡ true)
own_among [] n t = cc
own_among (e ∷ es) n t = by_number (e.number == n) refl (own_among es n) t
  where
    own : (p : ℕ) → is_among (own_parameters e.number e.def) p ≡ true → is_among (parameters_of (e ∷ es)) p ≡ true
    own p h = among_left (own_parameters e.number e.def) (parameters_of es) p h

    both : (d : Def) (k : ℕ) → d ≡ Free → k ≡ n → (is_among (own_parameters k d) (first_parameter n) ≡ true) × (is_among (own_parameters k d) (second_parameter n) ≡ true)
    both Free k f q = (grind (arith, nat_tests), grind (arith, nat_tests))
    both (Fixed a b c) k f q = cc
    both (Cut m) k f q = cc
    both (Blend m l) k f q = cc
    both (Cross m l) k f q = cc

    by_number : (b : Bool) → (e.number == n) ≡ b → (is_free (def_at es n) ≡ true → (is_among (parameters_of es) (first_parameter n) ≡ true) × (is_among (parameters_of es) (second_parameter n) ≡ true)) → is_free (option_map (λ (x : Element). x.def) (if b then Some e else numbered es n)) ≡ true → (is_among (parameters_of (e ∷ es)) (first_parameter n) ≡ true) × (is_among (parameters_of (e ∷ es)) (second_parameter n) ≡ true)
    by_number true q later u =
        let here = both e.def e.number (free_def e.def u) (eqb-true e.number n q) in
        (own (first_parameter n) here.0, own (second_parameter n) here.1)
    by_number false q later u =
        let rest = later u in
        (among_right (own_parameters e.number e.def) (parameters_of es) (first_parameter n) rest.0, among_right (own_parameters e.number e.def) (parameters_of es) (second_parameter n) rest.1)

-- two parameters of a free element
pub of_free : (es : List Element) (p q : ℕ) → are_of_free es p q ≡ true → (p ≡ first_parameter (element_of_parameter p)) × (q ≡ second_parameter (element_of_parameter p)) × (is_among (parameters_of es) p ≡ true) × (is_among (parameters_of es) q ≡ true)
of_free es p q t =
    let first = eqb-true p (first_parameter (element_of_parameter p)) (and_parts _ _ t).0 in
    let second = eqb-true q (second_parameter (element_of_parameter p)) (and_parts _ _ (and_parts _ _ t).1).0 in
    let own = own_among es (element_of_parameter p) (and_parts _ _ (and_parts _ _ t).1).1 in
    (first, second, subst (λ (r : ℕ). is_among (parameters_of es) r ≡ true) (sym first) own.0, subst (λ (r : ℕ). is_among (parameters_of es) r ≡ true) (sym second) own.1)

-- ---- each entry
-- a degree that is allowed, and more values than that
more_values : (n : ℕ) (d : ℤ) (xs : List ℤ) → is_at_most n d ≡ true → are_more xs d ≡ true → n < length xs
more_values n (pos d) xs t u = let low = leb-true n d t in let high = ltb-true d (length xs) u in omega (arith, low, high)
more_values n (negsuc d) xs t u = cc

module _ (es : List Element) (s : Statement) where
  abbrev IsAllowed : List DegreeEntry → ℕ → Type 0
  IsAllowed ds p = is_at_most (statement_degree es s p) (allowed ds p) ≡ true

  -- what the entries name is allowed its degree
  abbrev AreAllowed : List DegreeEntry → Type 0
  AreAllowed ds = (p : ℕ) → is_among (named_by ds) p ≡ true → IsAllowed ds p

  later_one : (p : ℕ) (d : ℤ) (ds : List DegreeEntry) → is_among (named_by ds) p ≡ false → AreAllowed (One p d ∷ ds) → AreAllowed ds
  later_one p d ds apart h q t = by_first (p == q) refl (h q (among_later (p == q) t))
    where
      among_later : (b : Bool) → is_among (named_by ds) q ≡ true → (b || is_among (named_by ds) q) ≡ true
      among_later true u = refl
      among_later false u = u

      by_first : (b : Bool) → (p == q) ≡ b → is_at_most (statement_degree es s q) (if b then d else allowed ds q) ≡ true → IsAllowed ds q
      by_first true e u = let same = eqb-true p q e in (false_true (sym (subst (λ (r : ℕ). is_among (named_by ds) r ≡ false) same apart) ∙ t))
      by_first false e u = u

  later_two : (p r : ℕ) (d : ℤ) (ds : List DegreeEntry) → is_among (named_by ds) p ≡ false → is_among (named_by ds) r ≡ false → AreAllowed (Pair p r d ∷ ds) → AreAllowed ds
  later_two p r d ds apart also h q t = by_first (p == q) (r == q) refl refl (h q (among_later (p == q) (r == q) t))
    where
      among_later : (a b : Bool) → is_among (named_by ds) q ≡ true → (a || (b || is_among (named_by ds) q)) ≡ true
      among_later true b u = refl
      among_later false true u = refl
      among_later false false u = u

      by_first : (a b : Bool) → (p == q) ≡ a → (r == q) ≡ b → is_at_most (statement_degree es s q) (if a || b then d else allowed ds q) ≡ true → IsAllowed ds q
      by_first true b e f u = let same = eqb-true p q e in (false_true (sym (subst (λ (i : ℕ). is_among (named_by ds) i ≡ false) same apart) ∙ t))
      by_first false true e f u = let same = eqb-true r q f in (false_true (sym (subst (λ (i : ℕ). is_among (named_by ds) i ≡ false) same also) ∙ t))
      by_first false false e f u = u

  allowed_one : (p : ℕ) (d : ℤ) (ds : List DegreeEntry) → AreAllowed (One p d ∷ ds) → is_at_most (statement_degree es s p) d ≡ true
  allowed_one p d ds h = by_same (p == p) refl (h p (first_among (p == p) refl))
    where
      first_among : (b : Bool) → (p == p) ≡ b → (b || is_among (named_by ds) p) ≡ true
      first_among true e = refl
      first_among false e = absurd (eqb-false p p e refl)

      by_same : (b : Bool) → (p == p) ≡ b → is_at_most (statement_degree es s p) (if b then d else allowed ds p) ≡ true → is_at_most (statement_degree es s p) d ≡ true
      by_same true e u = u
      by_same false e u = absurd (eqb-false p p e refl)

  allowed_two : (p r : ℕ) (d : ℤ) (ds : List DegreeEntry) → AreAllowed (Pair p r d ∷ ds) → is_at_most (statement_degree es s p) d ≡ true
  allowed_two p r d ds h = by_same (p == p) refl (h p (first_among (p == p) refl))
    where
      first_among : (b : Bool) → (p == p) ≡ b → (b || ((r == p) || is_among (named_by ds) p)) ≡ true
      first_among true e = refl
      first_among false e = absurd (eqb-false p p e refl)

      by_same : (b : Bool) → (p == p) ≡ b → is_at_most (statement_degree es s p) (if b || (r == p) then d else allowed ds p) ≡ true → is_at_most (statement_degree es s p) d ≡ true
      by_same true e u = u
      by_same false e u = absurd (eqb-false p p e refl)

  pub entries_enough : (ds : List DegreeEntry) (gs : List Grid) → are_apart (named_by ds) ≡ true → list_all (is_owned es) ds ≡ true → AreAllowed ds → are_for ds gs ≡ true → AllByRecursion (HasEnough es s) gs × (parameters_on gs ≡ named_by ds)
  entries_enough [] [] apart owned allow t = (tt, refl)
  entries_enough [] (g ∷ gs) apart owned allow t = cc
  entries_enough (d ∷ ds) [] apart owned allow t = cc
  entries_enough (One p d ∷ ds) (two q r xs ys ∷ gs) apart owned allow t = false_true (and_parts false (are_for ds gs) t).0
  entries_enough (Pair p r d ∷ ds) (one q xs ∷ gs) apart owned allow t = false_true (and_parts false (are_for ds gs) t).0
  entries_enough (One p d ∷ ds) (one q xs ∷ gs) apart owned allow t =
      let here = and_parts _ _ (and_parts _ _ t).0 in
      let values = and_parts _ _ here.1 in
      let same : p ≡ q = eqb-true p q here.0 in
      let rest = entries_enough ds gs (and_parts _ _ apart).1 (and_parts _ _ owned).1 (later_one p d ds (not_true _ (and_parts _ _ apart).0) allow) (and_parts _ _ t).1 in
      (((distinct xs values.0, subst (λ (i : ℕ). statement_degree es s i < length xs) same (more_values (statement_degree es s p) d xs (allowed_one p d ds allow) values.1)), rest.0), λ i. sym same i ∷ rest.1 i)
  entries_enough (Pair p r d ∷ ds) (two q u xs ys ∷ gs) apart owned allow t =
      let here = and_parts _ _ (and_parts _ _ t).0 in
      let more = and_parts _ _ here.1 in
      let lists = and_parts _ _ more.1 in
      let values = and_parts _ _ lists.1 in
      let left = and_parts _ _ values.0 in
      let right = and_parts _ _ values.1 in
      let same : p ≡ q = eqb-true p q here.0 in
      let also : r ≡ u = eqb-true r u more.0 in
      let first = and_parts _ _ apart in
      let second = and_parts _ _ first.1 in
      let free = of_free es p r (and_parts _ _ owned).0 in
      let rest = entries_enough ds gs second.1 (and_parts _ _ owned).1 (later_two p r d ds (or_false_right _ _ (not_true _ first.0)) (not_true _ second.0) allow) (and_parts _ _ t).1 in
      let enough : statement_degree es s p < length xs = more_values (statement_degree es s p) d xs (allowed_two p r d ds allow) left.1 in (
        (
          (distinct xs left.0, distinct ys right.0, eqb-true (length xs) (length ys) lists.0, subst (λ (i : ℕ). statement_degree es s i < length xs) same enough, (element_of_parameter p, (sym same ∙ free.0, sym also ∙ free.1))),
          rest.0,
        ),
        λ i. sym same i ∷ sym also i ∷ rest.1 i,
      )

-- ---- right degrees
-- the parameters that are named are those of listed elements
named_owned : (es : List Element) (ds : List DegreeEntry) (p : ℕ) → list_all (is_owned es) ds ≡ true → is_among (named_by ds) p ≡ true → is_among (parameters_of es) p ≡ true
named_owned es [] p owned t = cc
named_owned es (One q d ∷ ds) p owned t = by_first (q == p) refl (named_owned es ds p (and_parts _ _ owned).1) t
  where
    by_first : (b : Bool) → (q == p) ≡ b → (is_among (named_by ds) p ≡ true → is_among (parameters_of es) p ≡ true) → (b || is_among (named_by ds) p) ≡ true → is_among (parameters_of es) p ≡ true
    by_first true e rest u = subst (λ (i : ℕ). is_among (parameters_of es) i ≡ true) (eqb-true q p e) (and_parts _ _ owned).0
    by_first false e rest u = rest u
named_owned es (Pair q r d ∷ ds) p owned t = by_first (q == p) (r == p) refl refl (named_owned es ds p (and_parts _ _ owned).1) t
  where
    by_first : (a b : Bool) → (q == p) ≡ a → (r == p) ≡ b → (is_among (named_by ds) p ≡ true → is_among (parameters_of es) p ≡ true) → (a || (b || is_among (named_by ds) p)) ≡ true → is_among (parameters_of es) p ≡ true
    by_first true b e f rest u = subst (λ (i : ℕ). is_among (parameters_of es) i ≡ true) (eqb-true q p e) (of_free es q r (and_parts _ _ owned).0).2
    by_first false true e f rest u = subst (λ (i : ℕ). is_among (parameters_of es) i ≡ true) (eqb-true r p f) (of_free es q r (and_parts _ _ owned).0).3
    by_first false false e f rest u = rest u

-- what is not named is allowed degree 0
not_named : (ds : List DegreeEntry) (p : ℕ) → is_among (named_by ds) p ≡ false → allowed ds p ≡ pos 0
not_named [] p t = refl
not_named (One q d ∷ ds) p t = by_first (q == p) (not_named ds p) t
  where
    by_first : (b : Bool) → (is_among (named_by ds) p ≡ false → allowed ds p ≡ pos 0) → (b || is_among (named_by ds) p) ≡ false → (if b then d else allowed ds p) ≡ pos 0
    by_first true rest u = cc
    by_first false rest u = rest u
not_named (Pair q r d ∷ ds) p t = by_first (q == p) (r == p) (not_named ds p) t
  where
    by_first : (a b : Bool) → (is_among (named_by ds) p ≡ false → allowed ds p ≡ pos 0) → (a || (b || is_among (named_by ds) p)) ≡ false → (if a || b then d else allowed ds p) ≡ pos 0
    by_first true b rest u = cc
    by_first false true rest u = cc
    by_first false false rest u = rest u

module _ (es : List Element) (s : Statement) (ds : List DegreeEntry) (right : are_right es s ds ≡ true) where
  behind_rising : (are_apart (named_by ds) && (list_all (is_owned es) ds && list_all (λ p. is_at_most (statement_degree es s p) (allowed ds p)) (parameters_of es))) ≡ true
  behind_rising = (and_parts (rise_from 0 ds) _ right).1

  apart : are_apart (named_by ds) ≡ true
  apart = (and_parts (are_apart (named_by ds)) _ behind_rising).0

  behind_apart : (list_all (is_owned es) ds && list_all (λ p. is_at_most (statement_degree es s p) (allowed ds p)) (parameters_of es)) ≡ true
  behind_apart = (and_parts (are_apart (named_by ds)) _ behind_rising).1

  owned : list_all (is_owned es) ds ≡ true
  owned = (and_parts (list_all (is_owned es) ds) _ behind_apart).0

  degrees : list_all (λ p. is_at_most (statement_degree es s p) (allowed ds p)) (parameters_of es) ≡ true
  degrees = (and_parts (list_all (is_owned es) ds) _ behind_apart).1

  allows : (p : ℕ) → is_among (parameters_of es) p ≡ true → is_at_most (statement_degree es s p) (allowed ds p) ≡ true
  allows p t = all_among (λ p. is_at_most (statement_degree es s p) (allowed ds p)) (parameters_of es) p degrees t

  pub right_apart : are_apart (named_by ds) ≡ true
  right_apart = apart

  pub named_in_elements : (p : ℕ) → is_among (named_by ds) p ≡ true → is_among (parameters_of es) p ≡ true
  named_in_elements p t = named_owned es ds p owned t

  -- a grid for them has enough values for each parameter that it names
  pub enough : (gs : List Grid) → are_for ds gs ≡ true → AllByRecursion (HasEnough es s) gs × (parameters_on gs ≡ named_by ds)
  enough gs t = entries_enough es s ds gs apart owned (λ p u. allows p (named_owned es ds p owned u)) t

  -- and names each in which the statement has a degree above 0
  pub all_named : IsConstruction es → (p : ℕ) → 0 < statement_degree es s p → is_among (named_by ds) p ≡ true
  all_named c p h = by_named (is_among (named_by ds) p) refl
    where
      by_named : (b : Bool) → is_among (named_by ds) p ≡ b → b ≡ true
      by_named true e = refl
      by_named false e =
          let low : is_at_most (statement_degree es s p) (pos 0) ≡ true = subst (λ z. is_at_most (statement_degree es s p) z ≡ true) (not_named ds p e) (allows p (among (parameters_of es) p (statement_parameter es c s p h))) in
          absurd (omega (arith, h, leb-true (statement_degree es s p) 0 low))
