-- What is found under a statement among kept verdicts is its verdict.
use Rattle.std.proofs.Common.{◌≡◌, ◌∙◌, ap, refl, ℕ, ◌==◌, ◌&&◌, Bool, true, false, Option, None, Some, is_some, option_map, List, [], ◌∷◌, ◌++◌, length, map}
use Rattle.std.specs.Map.{lookup}
use Rattle.std.specs.Prelude.{slice_get}
use Rattle.std.proofs.lemmas.List.Elements.{All-contains}
use Rattle.std.proofs.lemmas.Map.Views.{Contains-from_lookup}
use Rattle.std.proofs.lemmas.Option.{slice_get-map}
use Rattle.std.proofs.lemmas.Bool.{eqb-true}
use Rattle.geo_sketch.specs.declared.statements.Statement.{Statement}
use Rattle.geo_sketch.specs.declared.statements.Statement.TheVariants as statement
use Rattle.geo_sketch.specs.declared.verdicts.Verdict.{Verdict}
use Rattle.geo_sketch.specs.Sketches.{Drawing}
use Rattle.geo_degree.specs.VerdictFunction.{verdict_of}
use Rattle.geo_degree.specs.Verdicts.{question_of}
use Rattle.geo_ledger.specs.Ledgers.{AreKept, IsKept}
use Rattle.geo_sketch.specs.contracts.statements.StatementPartialEq.TheImpl as block

abbrev pub same : Statement → Statement → Bool
same = (block.ghosts).eq

both : (a b : Bool) → (a && b) ≡ true → (a ≡ true) × (b ≡ true)
both true b h = (refl, h)
both false b h = cc

-- statements that are the same by the derived test are equal
pub same_true : (s t : Statement) → same s t ≡ true → s ≡ t
same_true (statement.Null n) (statement.Null a) h = ap statement.Null (eqb-true n a h)
same_true (statement.Null n) (statement.Same a b) h = cc
same_true (statement.Null n) (statement.On a b) h = cc
same_true (statement.Null n) (statement.Triple a b d) h = cc
same_true (statement.Same n m) (statement.Null a) h = cc
same_true (statement.Same n m) (statement.Same a b) h =
    let each = both (n == a) (m == b) h in
    λ i. statement.Same (eqb-true n a each.0 i) (eqb-true m b each.1 i)
same_true (statement.Same n m) (statement.On a b) h = cc
same_true (statement.Same n m) (statement.Triple a b d) h = cc
same_true (statement.On n m) (statement.Null a) h = cc
same_true (statement.On n m) (statement.Same a b) h = cc
same_true (statement.On n m) (statement.On a b) h =
    let each = both (n == a) (m == b) h in
    λ i. statement.On (eqb-true n a each.0 i) (eqb-true m b each.1 i)
same_true (statement.On n m) (statement.Triple a b d) h = cc
same_true (statement.Triple n m k) (statement.Null a) h = cc
same_true (statement.Triple n m k) (statement.Same a b) h = cc
same_true (statement.Triple n m k) (statement.On a b) h = cc
same_true (statement.Triple n m k) (statement.Triple a b d) h =
    let first = both (n == a) ((m == b) && (k == d)) h in
    let each = both (m == b) (k == d) first.1 in
    λ i. statement.Triple (eqb-true n a first.0 i) (eqb-true m b each.0 i) (eqb-true k d each.1 i)

-- where a look-up finds nothing, its result is None
pub none_found : {X : Type 0} (o : Option X) → false ≡ is_some o → o ≡ None
none_found None h = refl
none_found (Some x) h = cc

-- what is found under a statement is its verdict
pub kept_value : (drawing : Drawing) (kept : List (Statement × Verdict)) (s : Statement) (o : Option Verdict) → AreKept drawing kept → lookup (same s) kept ≡ o → true ≡ is_some o → o ≡ Some (verdict_of (question_of drawing.elements s))
kept_value drawing kept s None right found t = cc
kept_value drawing kept s (Some r) right found t = ap (λ (v : Verdict). Some v) (All-contains (IsKept drawing.elements) kept (s, r) right (Contains-from_lookup same_true s r kept found)).1

at_end : {X : Type 0} (xs : List X) (x : X) → slice_get (xs ++ x ∷ []) (length xs) ≡ Some x
at_end [] x = refl
at_end (y ∷ xs) x = at_end xs x

-- what was kept last stands at the end
pub last_value : (kept more : List (Statement × Verdict)) (s : Statement) (r : Verdict) (place : ℕ) → more ≡ kept ++ (s, r) ∷ [] → place ≡ length kept → slice_get (map (λ (e : Statement × Verdict). e.1) more) place ≡ Some r
last_value kept more s r place is last =
    slice_get-map (λ (e : Statement × Verdict). e.1) more place ∙ (λ i. option_map (λ (e : Statement × Verdict). e.1) (slice_get (is i) (last i))) ∙ ap (option_map (λ (e : Statement × Verdict). e.1)) (at_end kept (s, r))
