-- What is asked about elements is small, and posed.
-- lemmas for other crates
use Rattle.std.proofs.Common.{◌≡◌, ◌∙◌, sym, ap, refl, subst, ℕ, ◌<◌, ◌≤◌, unsigned_abs, Bool, true, false, if◌then◌else◌, List, [], ◌∷◌, length, All, Option, None, Some, option_map, arith}
use Rattle.std.specs.Prelude.{◌&&◌, ◌↔◌, nat_lt, Result, Ok, Err}
use Rattle.std.specs.List.{list_all}
use Rattle.std.proofs.lemmas.Bool.{and_parts, lt-ltb, ltb-false, ltb-true}
use Rattle.std.proofs.lemmas.List.Elements.{All-cons, All-nil}
use Rattle.geo_sketch.specs.declared.changes.Refusal.{Refusal}
use Rattle.geo_sketch.specs.declared.changes.Refusal.TheVariants as refusal
use Rattle.geo_sketch.specs.declared.elements.Element.{Element}
use Rattle.geo_sketch.specs.declared.elements.Kind.{Kind}
use Rattle.geo_sketch.specs.Lookups.{IsLive, Rises, find_named, kind_at, number_named}
use Rattle.geo_sketch.specs.PlainHeights.{threes}
use Rattle.geo_sketch.proofs.AdditionLaws.{found_by_name, same_kinds}
use Rattle.geo_triple.specs.declared.limits.TheConstants.{STATEMENT_LIMIT}
use Rattle.geo_bracket.specs.declared.expressions.Bracket.{Bracket}
use Rattle.geo_bracket.specs.Expressions.{IsOfOneKind, IsPosedExpression, Terms, expression_height}
use Rattle.geo_bracket.specs.Grammar.{SaidTerms, all_read, said_of}
use Rattle.geo_bracket.specs.Resolving.{are_of_one_kind, are_same_kinds, expression_of, expression_said, is_great, is_of_one_kind, judged, known, numbered_by, numbers_of, numbers_of_bracket, numbers_of_term}
use Rattle.geo_bracket.specs.Terms.{AtBracket, AtEach, AtProduct, IsSmall, Product}
use Rattle.geo_bracket.proofs.ReadLemmas.{read_all, read_length}

abbrev Said : Type 0
Said = Product (Bracket (List ℕ))

abbrev Numbered : Type 0
Numbered = Product (Bracket ℕ)

-- ---- as small as what was said
abbrev IsShort : {X : Type 0} → Product X → Type 0
IsShort t = (unsigned_abs t.number ≤ 1000) × (length t.brackets ≤ 8)

module _ (es : List Element) where
  made : (t : Said) (u : Numbered) (P : Numbered → Type 0) → ((bs : List (Bracket ℕ)) → all_read (numbers_of_bracket es) t.brackets ≡ Some bs → P (record { number = t.number; brackets = bs })) → numbers_of_term es t ≡ Some u → P u
  made t u P f e = by_list (all_read (numbers_of_bracket es) t.brackets) refl e
    where
      by_list : (o : Option (List (Bracket ℕ))) → all_read (numbers_of_bracket es) t.brackets ≡ o → option_map (λ bs. record { number = t.number; brackets = bs }) o ≡ Some u → P u
      by_list None q g = cc
      by_list (Some bs) q g = let same : record { number = t.number; brackets = bs } ≡ u = cc in subst P same (f bs q)

  short_made : (t : Said) (u : Numbered) → IsShort t → numbers_of_term es t ≡ Some u → IsShort u
  short_made t u h e = made t u IsShort (λ bs q. (h.0, rw (read_length (numbers_of_bracket es) t.brackets bs q) h.1)) e

  pub small_made : (said : SaidTerms) (ts : Terms) → IsSmall said → numbers_of es said ≡ Some ts → IsSmall ts
  small_made said ts h e = record {
    few = rw (read_length (numbers_of_term es) said ts e) h.few;
    short = read_all (numbers_of_term es) IsShort IsShort (λ t u g q. short_made t u g q) said ts h.short e;
  }

  -- ---- about live elements
  module _ (rises : Rises 0 es) where
    live_named : (name : List ℕ) (n : ℕ) → number_named es name ≡ Some n → IsLive es n
    live_named name n h = by_found (find_named es name) refl h
      where
        by_found : (o : Option Element) → find_named es name ≡ o → option_map (λ (e : Element). e.number) o ≡ Some n → IsLive es n
        by_found None q g = cc
        by_found (Some e) q g = let same : e.number ≡ n = cc in subst (IsLive es) same (e, (found_by_name 0 es name e rises q).0)

    live_bracket : (b : Bracket (List ℕ)) (c : Bracket ℕ) → numbers_of_bracket es b ≡ Some c → AtBracket (IsLive es) c
    live_bracket b c h = by_found (number_named es b.first) (number_named es b.second) (number_named es b.third) refl refl refl h
      where
        by_found : (o p q : Option ℕ) → number_named es b.first ≡ o → number_named es b.second ≡ p → number_named es b.third ≡ q → numbered_by o p q ≡ Some c → AtBracket (IsLive es) c
        by_found None p q f g k e = cc
        by_found (Some n) None q f g k e = cc
        by_found (Some n) (Some m) None f g k e = cc
        by_found (Some n) (Some m) (Some l) f g k e =
            let same : record { first = n; second = m; third = l } ≡ c = cc in
            subst (AtBracket (IsLive es)) same (live_named b.first n f, live_named b.second m g, live_named b.third l k)

    live_term : (t : Said) (u : Numbered) → numbers_of_term es t ≡ Some u → AtProduct (IsLive es) u.brackets
    live_term t u e = made t u (λ v. AtProduct (IsLive es) v.brackets) (λ bs q. read_all (numbers_of_bracket es) (λ b. Unit {0}) (AtBracket (IsLive es)) (λ b c g p. live_bracket b c p) t.brackets bs (λ i d l. tt) q) e

    pub live_made : (said : SaidTerms) (ts : Terms) → numbers_of es said ≡ Some ts → AtEach (IsLive es) ts
    live_made said ts e = read_all (numbers_of_term es) (λ t. Unit {0}) (λ (u : Numbered). AtProduct (IsLive es) u.brackets) (λ t u g q. live_term t u q) said ts (λ i d l. tt) e

  -- ---- of one kind
  same_of_kinds : (o p q : Option Kind) → are_same_kinds o p q ≡ true → (kind : Kind) × (o ≡ Some kind) × (p ≡ Some kind) × (q ≡ Some kind)
  same_of_kinds None p q h = cc
  same_of_kinds (Some a) None q h = cc
  same_of_kinds (Some a) (Some b) None h = cc
  same_of_kinds (Some a) (Some b) (Some c) h = let both = and_parts _ _ h in (a, refl, ap Some (same_kinds b a both.0), ap Some (same_kinds c a both.1))

  bracket_of_one_kind : (b : Bracket ℕ) → is_of_one_kind es b ≡ true → IsOfOneKind es b
  bracket_of_one_kind b h = same_of_kinds (kind_at es b.first) (kind_at es b.second) (kind_at es b.third) h

  module _ {X : Type 0} (test : X → Bool) (P : X → Type 0) (each : (x : X) → test x ≡ true → P x) where
    all_pass : (xs : List X) → list_all test xs ≡ true → All P xs
    all_pass [] h = All-nil P
    all_pass (x ∷ xs) h = let both = and_parts (test x) (list_all test xs) h in All-cons P x xs (each x both.0) (all_pass xs both.1)

  kinds_made : (ts : Terms) → are_of_one_kind es ts ≡ true → All (λ (t : Numbered). All (IsOfOneKind es) t.brackets) ts
  kinds_made ts h = all_pass (λ (t : Numbered). list_all (is_of_one_kind es) t.brackets) (λ (t : Numbered). All (IsOfOneKind es) t.brackets) (λ t g. all_pass (is_of_one_kind es) (IsOfOneKind es) bracket_of_one_kind t.brackets g) ts h

  -- ---- what is not refused is posed
  pub posed_made : (ts e : Terms) → AtEach (IsLive es) ts → judged es ts ≡ Ok e → IsPosedExpression es e
  posed_made ts e live h = by_tests (are_of_one_kind es ts) (is_great es ts) refl refl h
    where
      by_tests : (t u : Bool) → are_of_one_kind es ts ≡ t → is_great es ts ≡ u → (if t then (if u then Err refusal.Great else Ok ts) else Err refusal.Kind) ≡ Ok e → IsPosedExpression es e
      by_tests false u f g k = cc
      by_tests true true f g k = cc
      by_tests true false f g k =
          let same : ts ≡ e = cc in
          subst (λ us. IsPosedExpression es us) same (record { live = live; kinds = kinds_made ts f; modest = ltb-false STATEMENT_LIMIT (expression_height es ts threes) g })

-- ---- a test of what is greater
pub test_is : (b : Bool) (n m : ℕ) → (b ≡ true) ↔ (n < m) → b ≡ nat_lt n m
test_is true n m h = sym (lt-ltb n m (h.0 refl))
test_is false n m h = by_test (nat_lt n m) refl
  where
    by_test : (t : Bool) → nat_lt n m ≡ t → false ≡ t
    by_test false q = refl
    by_test true q = let yes : false ≡ true = h.1 (ltb-true n m q) in cc

-- ---- what a line asks about is posed
pub asked_posed : (es : List Element) → Rises 0 es → (line : List ℕ) (ts : Terms) → expression_of es line ≡ Ok ts → IsPosedExpression es ts
asked_posed es rises line ts h = by_words (said_of line) h
  where
    by_numbers : (said : SaidTerms) (o : Option Terms) → numbers_of es said ≡ o → known es o ≡ Ok ts → IsPosedExpression es ts
    by_numbers said None q g = cc
    by_numbers said (Some us) q g = posed_made es us ts (live_made es rises said us q) g

    by_words : (r : Result SaidTerms Refusal) → expression_said es r ≡ Ok ts → IsPosedExpression es ts
    by_words (Err r) g = cc
    by_words (Ok said) g = by_numbers said (numbers_of es said) refl g
