-- The elements that an expression names, by its brackets and as one list.
use Rattle.std.proofs.Common.{◌≡◌, ℕ, zero, suc, ◌<◌, List, [], ◌∷◌, ◌++◌, length, get_or, arith}
use Rattle.std.specs.Prelude.{All, Contains}
use Rattle.std.proofs.lemmas.List.Elements.{All-append, All-cons, All-contains_itself, All-nil}
use Rattle.geo_bracket.specs.declared.expressions.Bracket.{Bracket}
use Rattle.geo_bracket.specs.Expressions.{Terms}
use Rattle.geo_bracket.specs.Posing.{named_in, named_in_product}
use Rattle.geo_bracket.specs.Terms.{Product, AtBracket, AtEach, AtProduct}

all_rest : {X : Type 0} (P : X → Type 0) (x : X) (xs : List X) → All P (x ∷ xs) → All P xs
all_rest P x xs h k d l = h (suc k) d (omega arith)

all_left : {X : Type 0} (P : X → Type 0) (xs ys : List X) → All P (xs ++ ys) → All P xs
all_left P [] ys h = All-nil P
all_left P (x ∷ xs) ys h = All-cons P x xs (h 0 x (omega arith)) (all_left P xs ys (all_rest P x (xs ++ ys) h))

all_right : {X : Type 0} (P : X → Type 0) (xs ys : List X) → All P (xs ++ ys) → All P ys
all_right P [] ys h = h
all_right P (x ∷ xs) ys h = all_right P xs ys (all_rest P x (xs ++ ys) h)

module _ (P : ℕ → Type 0) where
  product_named : (bs : List (Bracket ℕ)) → AtProduct P bs → All P (named_in_product bs)
  product_named [] h = All-nil P
  product_named (b ∷ bs) h =
      let here = h 0 b (omega arith) in
      All-cons P b.first (b.second ∷ b.third ∷ named_in_product bs) here.0 (All-cons P b.second (b.third ∷ named_in_product bs) here.1 (All-cons P b.third (named_in_product bs) here.2 (product_named bs (all_rest (AtBracket P) b bs h))))

  pub to_named : (ts : Terms) → AtEach P ts → All P (named_in ts)
  to_named [] h = All-nil P
  to_named (t ∷ ts) h = All-append P (named_in_product t.brackets) (named_in ts) (product_named t.brackets (h 0 t (omega arith))) (to_named ts (all_rest (λ (u : Product (Bracket ℕ)). AtProduct P u.brackets) t ts h))

  named_product : (bs : List (Bracket ℕ)) → All P (named_in_product bs) → AtProduct P bs
  named_product [] h = All-nil (AtBracket P)
  named_product (b ∷ bs) h =
      All-cons (AtBracket P) b bs (h 0 b.first (omega arith), h 1 b.first (omega arith), h 2 b.first (omega arith)) (named_product bs (λ k d l. h (suc (suc (suc k))) d (omega arith)))

  pub from_named : (ts : Terms) → All P (named_in ts) → AtEach P ts
  from_named [] h = All-nil (λ (u : Product (Bracket ℕ)). AtProduct P u.brackets)
  from_named (t ∷ ts) h =
      All-cons (λ (u : Product (Bracket ℕ)). AtProduct P u.brackets) t ts (named_product t.brackets (all_left P (named_in_product t.brackets) (named_in ts) h)) (from_named ts (all_right P (named_in_product t.brackets) (named_in ts) h))

-- what holds of two numbers at each place holds of both at once
pub each_weaker : (P Q : ℕ → Type 0) (ts : Terms) → ((n : ℕ) → P n → Q n) → AtEach P ts → AtEach Q ts
each_weaker P Q ts f h i t l j b m = let here = h i t l j b m in (f _ here.0, f _ here.1, f _ here.2)

-- each element is one of those that the expression names
pub all_contained : (ts : Terms) → AtEach (Contains (named_in ts)) ts
all_contained ts = from_named (Contains (named_in ts)) ts (All-contains_itself (named_in ts))
