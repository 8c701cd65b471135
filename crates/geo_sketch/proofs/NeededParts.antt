-- The elements of a construction that a statement needs, by themselves.
-- lemmas for other crates
use Rattle.std.proofs.Common.{◌≡◌, sym, subst, ℕ, ℤ, true, List}
use Rattle.std.specs.Prelude.{◌↔◌}
use Rattle.geo_sketch.specs.declared.elements.Element.{Element}
use Rattle.geo_sketch.specs.declared.statements.Statement.{Statement}
use Rattle.geo_sketch.specs.Assignments.{assignment_of}
use Rattle.geo_sketch.specs.Constructions.{Algebra, computed, IsConstruction}
use Rattle.geo_sketch.specs.Heights.{heights_algebra, heights_at, statement_height}
use Rattle.geo_sketch.specs.Lookups.{kind_at}
use Rattle.geo_sketch.specs.Needs.{needs, renamed_part, stated, AtStated}
use Rattle.geo_sketch.specs.Rebuilding.{AreSound}
use Rattle.geo_sketch.specs.Sketches.{IsPosed}
use Rattle.geo_sketch.specs.Statements.{parts_at, Holds}
use Rattle.geo_triple.specs.Zero.{AreZero}
use Rattle.geo_sketch.specs.Triples.{triple_algebra, triple_at}
use Rattle.geo_sketch.proofs.NeedLaws.{needed_further, needs_named}
use Rattle.geo_sketch.proofs.PartLaws.{kind_kept, part_sound, part_values}
use Rattle.geo_sketch.proofs.StatementLaws.{at_stated, parts_same, posed_both, statement_height_same}

module _ (es : List Element) (c : IsConstruction es) (s : Statement) where
  pub needed_sound : AreSound es → AreSound (renamed_part es s)
  needed_sound = part_sound (needs es s) es c (needed_further es c (stated s))

  -- whatever is computed along it is the same
  pub needed_values : {X : Type 0} (A : Algebra X) (n : ℕ) → needs es s n ≡ true → computed A (renamed_part es s) n ≡ computed A es n
  needed_values A = part_values (needs es s) es c (needed_further es c (stated s)) A

  -- what holds of all that is needed holds of what is named
  pub at_needed : (P : ℕ → Type 0) → ((n : ℕ) → needs es s n ≡ true → P n) → AtStated s P
  at_needed P h = at_stated (λ n. needs es s n ≡ true) P s h (needs_named es c s)

  pub needed_posed : IsPosed (renamed_part es s) s ↔ IsPosed es s
  needed_posed = posed_both (renamed_part es s) es s (at_needed (λ n. kind_at (renamed_part es s) n ≡ kind_at es n) (kind_kept (needs es s) es))

  pub needed_parts : (v : ℕ → ℤ) → parts_at (renamed_part es s) s v ≡ parts_at es s v
  needed_parts v = parts_same (renamed_part es s) es s v v (at_needed (λ n. triple_at (renamed_part es s) n v ≡ triple_at es n v) (needed_values (triple_algebra v)))

  pub needed_holds : Holds (renamed_part es s) s ↔ Holds es s
  needed_holds = (λ h entries. subst AreZero (needed_parts (assignment_of entries)) (h entries), λ h entries. subst AreZero (sym (needed_parts (assignment_of entries))) (h entries))

  pub needed_height : (m : ℕ → ℕ) → statement_height (renamed_part es s) s m ≡ statement_height es s m
  needed_height m = statement_height_same (renamed_part es s) es s m (at_needed (λ n. heights_at (renamed_part es s) n m ≡ heights_at es n m) (needed_values (heights_algebra m)))
