-- An element depends on all on which what it names depends, and so does a statement.
-- lemmas for other crates
use Rattle.std.proofs.Common.{◌≡◌, ◌∙◌, ℕ, true, Some, List, [], ◌∷◌}
use Rattle.std.proofs.lemmas.Bool.{or_left, or_right}
use Rattle.geo_sketch.specs.declared.elements.Element.{Element}
use Rattle.geo_sketch.specs.declared.statements.Statement.{Statement}
use Rattle.geo_sketch.specs.declared.statements.Statement.TheVariants as statement
use Rattle.geo_sketch.specs.Constructions.{computed, AtNamed, IsConstruction}
use Rattle.geo_sketch.specs.Dependence.{depends_algebra, depends_on}
use Rattle.geo_sketch.specs.Lookups.{numbered}
use Rattle.geo_sketch.specs.Needs.{is_needed, needs, AtStated}
use Rattle.geo_sketch.proofs.ConstructionLaws.{at_named}
use Rattle.geo_sketch.proofs.DependenceLaws.{by_either, reaches}
use Rattle.geo_sketch.proofs.LiveElements.{live_step}
use Rattle.geo_sketch.proofs.TableLaws.{built}
use Rattle.geo_sketch.proofs.ValueLaws.{depends_named, depends_on_self}

module _ (es : List Element) (c : IsConstruction es) where
  itself : (n : ℕ) → depends_on es n n ≡ true
  itself = depends_on_self es c.rising (built es c)

  -- an element depends on all on which what it names depends
  named_through : (n : ℕ) (e : Element) → numbered es n ≡ Some e → AtNamed e.def (λ k. (on : ℕ) → depends_on es k on ≡ true → depends_on es n on ≡ true)
  named_through n e found = depends_named e.def n (λ on. computed (depends_algebra on) es) (λ on. depends_on es n on ≡ true) (λ on h. live_step es c (depends_algebra on) n e found ∙ h)

  -- and on what it names
  pub depends_on_named : (n : ℕ) (e : Element) → numbered es n ≡ Some e → AtNamed e.def (λ k. depends_on es n k ≡ true)
  depends_on_named n e found = at_named (λ k. (on : ℕ) → depends_on es k on ≡ true → depends_on es n on ≡ true) (λ k. depends_on es n k ≡ true) e.def (λ k h. h k (itself k)) (named_through n e found)

  -- what depends on element n depends on all on which that depends
  pub depends_further : (a n k : ℕ) → depends_on es a n ≡ true → depends_on es n k ≡ true → depends_on es a k ≡ true
  depends_further a n k h = reaches es c (λ i j. (on : ℕ) → depends_on es j on ≡ true → depends_on es i on ≡ true) (λ i on t. t) (λ i j l f g on t. f on (g on t)) named_through a n h k

  -- what is needed needs nothing more
  pub needed_further : (named : List ℕ) (n k : ℕ) → is_needed es named n ≡ true → depends_on es n k ≡ true → is_needed es named k ≡ true
  needed_further [] n k h g = cc
  needed_further (a ∷ named) n k h g =
      by_either (depends_on es a n) (is_needed es named n) (λ t. or_left (depends_on es a k) (is_needed es named k) (depends_further a n k t g)) (λ t. or_right (depends_on es a k) (is_needed es named k) (needed_further named n k t g)) h

  -- the first of the named elements is needed, and what is needed for the others
  first : (a : ℕ) (named : List ℕ) → is_needed es (a ∷ named) a ≡ true
  first a named = or_left (depends_on es a a) (is_needed es named a) (itself a)

  later : (a : ℕ) (named : List ℕ) (n : ℕ) → is_needed es named n ≡ true → is_needed es (a ∷ named) n ≡ true
  later a named n h = or_right (depends_on es a n) (is_needed es named n) h

  -- a statement needs each element that it names
  pub needs_named : (s : Statement) → AtStated s (λ a. needs es s a ≡ true)
  needs_named (statement.Null a) = first a []
  needs_named (statement.Same a b) = (first a (b ∷ []), later a (b ∷ []) b (first b []))
  needs_named (statement.On a b) = (first a (b ∷ []), later a (b ∷ []) b (first b []))
  needs_named (statement.Triple a b d) = (first a (b ∷ d ∷ []), later a (b ∷ d ∷ []) b (first b (d ∷ [])), later a (b ∷ d ∷ []) d (later b (d ∷ []) d (first d [])))
