-- Where two lists make the same of all elements that a statement names, it has the same verdict in both.
use Rattle.std.proofs.Common.{◌≡◌, ◌∙◌, sym, ap, subst, ℕ, ◌+◌, ◌<◌, List, [], ◌∷◌, ℤ, pos, arith}
use Rattle.std.specs.Prelude.{true, Contains, slice_index_or}
use Rattle.std.proofs.lemmas.List.Elements.{All-contains}
use Rattle.geo_triple.specs.declared.Triple.{Triple}
use Rattle.geo_triple.specs.Sums.{Sizes}
use Rattle.geo_sketch.specs.declared.elements.Element.{Element}
use Rattle.geo_sketch.specs.declared.statements.Statement.{Statement}
use Rattle.geo_sketch.specs.declared.statements.Statement.TheVariants as statement
use Rattle.geo_sketch.specs.declared.verdicts.Verdict.{Verdict}
use Rattle.geo_sketch.specs.Assignments.{assignment_of, element_of_parameter}
use Rattle.geo_sketch.specs.Constructions.{Algebra, computed, IsConstruction}
use Rattle.geo_sketch.specs.Lookups.{def_at}
use Rattle.geo_sketch.specs.Dependence.{depends_on}
use Rattle.geo_sketch.specs.Heights.{heights_algebra, heights_at, statement_height}
use Rattle.geo_sketch.specs.Triples.{triple_algebra, triple_at}
use Rattle.geo_sketch.specs.Statements.{parts_at}
use Rattle.geo_triple.specs.Zero.{coordinates, AreZero}
use Rattle.geo_sketch.proofs.StatementLaws.{at_stated, parts_same, statement_height_same}
use Rattle.geo_sketch.proofs.TableLaws.{built}
use Rattle.geo_sketch.proofs.ValueLaws.{agree_itself, computed_same}
use Rattle.geo_sketch.specs.Needs.{AtStated}
use Rattle.geo_degree.specs.declared.grids.Axis.{Axis}
use Rattle.geo_degree.specs.Degrees.{degree_algebra, degree_of, statement_degree}
use Rattle.geo_degree.specs.Grids.{at_axes, axes_of, axis, parameters_of}
use Rattle.geo_degree.specs.Polynomials.{Lists, coordinate_lists, cross_of_lists, curve_algebra, determinant_of_lists, dot_of_lists, lists_of, parameter_list, part_lists}
use Rattle.geo_degree.specs.PairPolynomials.{Tables, coordinate_tables, cross_of_tables, determinant_of_tables, dot_of_tables, part_tables, table_algebra, tables_of}
use Rattle.geo_degree.specs.Questions.{Question}
use Rattle.geo_degree.specs.VerdictFunction.{verdict_of}
use Rattle.geo_degree.specs.Verdicts.{question_of, IsStatementVerdict, IsVerdict}
use Rattle.geo_degree.proofs.AxisLaws.{axes_by_degree, is_axis, statement_axes_rise}
use Rattle.geo_ledger.specs.Changes.{AgreeForStatement}
use Rattle.geo_ledger.proofs.RisingAxes.{same_rising}
use Rattle.geo_ledger.proofs.SameBlocks.{blocks_same}

-- the two lists make the same of element n
pub record AreSame (es fs : List Element) (n : ℕ) : Type 0 where
  pub triples : (v : ℕ → ℤ) → triple_at es n v ≡ triple_at fs n v
  pub heights : (m : ℕ → ℕ) → heights_at es n m ≡ heights_at fs n m
  pub degrees : (p : ℕ) → degree_of es n p ≡ degree_of fs n p
  pub lists : (v : ℕ → ℤ) (p : ℕ) → lists_of es n v p ≡ lists_of fs n v p
  pub tables : (v : ℕ → ℤ) (m : ℕ) → tables_of es n v m ≡ tables_of fs n v m

pub by_all : (es fs : List Element) (n : ℕ) → ((X : Type 0) (A : Algebra X) → computed A es n ≡ computed A fs n) → AreSame es fs n
by_all es fs n h = record { triples = λ v. h Triple (triple_algebra v); heights = λ m. h Sizes (heights_algebra m); degrees = λ p. h ℕ (degree_algebra p); lists = λ v p. h Lists (curve_algebra (parameter_list v p)); tables = λ v m. h Tables (table_algebra v m) }

pub same_back : (es fs : List Element) (n : ℕ) → AreSame es fs n → AreSame fs es n
same_back es fs n h = record { triples = λ v. sym (h.triples v); heights = λ m. sym (h.heights m); degrees = λ p. sym (h.degrees p); lists = λ v p. sym (h.lists v p); tables = λ v m. sym (h.tables v m) }

module _ (es fs : List Element) where
  degree_same : (s : Statement) → AtStated s (AreSame es fs) → (p : ℕ) → statement_degree es s p ≡ statement_degree fs s p
  degree_same (statement.Null n) h p = h.degrees p
  degree_same (statement.Same n m) h p = λ i. h.0.degrees p i + h.1.degrees p i
  degree_same (statement.On n m) h p = λ i. h.0.degrees p i + h.1.degrees p i
  degree_same (statement.Triple n m k) h p = λ i. h.0.degrees p i + h.1.degrees p i + h.2.degrees p i

  lists_same : (s : Statement) → AtStated s (AreSame es fs) → (v : ℕ → ℤ) (p : ℕ) → part_lists es s v p ≡ part_lists fs s v p
  lists_same (statement.Null n) h v p = ap coordinate_lists (h.lists v p)
  lists_same (statement.Same n m) h v p = λ i. coordinate_lists (cross_of_lists (h.0.lists v p i) (h.1.lists v p i))
  lists_same (statement.On n m) h v p = λ i. dot_of_lists (h.0.lists v p i) (h.1.lists v p i) ∷ []
  lists_same (statement.Triple n m k) h v p = λ i. determinant_of_lists (h.0.lists v p i) (h.1.lists v p i) (h.2.lists v p i) ∷ []

  tables_same : (s : Statement) → AtStated s (AreSame es fs) → (v : ℕ → ℤ) (m : ℕ) → part_tables es s v m ≡ part_tables fs s v m
  tables_same (statement.Null n) h v m = ap coordinate_tables (h.tables v m)
  tables_same (statement.Same n k) h v m = λ i. coordinate_tables (cross_of_tables (h.0.tables v m i) (h.1.tables v m i))
  tables_same (statement.On n k) h v m = λ i. dot_of_tables (h.0.tables v m i) (h.1.tables v m i) ∷ []
  tables_same (statement.Triple n k l) h v m = λ i. determinant_of_tables (h.0.tables v m i) (h.1.tables v m i) (h.2.tables v m i) ∷ []

-- where the degrees agree, an axis in one list is one in the other
axis_there : (es fs : List Element) → IsConstruction fs → (s : Statement) → ((p : ℕ) → statement_degree es s p ≡ statement_degree fs s p) → (a : Axis) → Contains (axes_of es s) a → Contains (axes_of fs s) a
axis_there es fs c s same a h =
    let own = All-contains (λ (b : Axis). (b.degree ≡ statement_degree es s b.param) × (0 < b.degree)) (axes_of es s) a (axes_by_degree (statement_degree es s) (parameters_of es)) h in
    let there : a.degree ≡ statement_degree fs s a.param = own.0 ∙ same a.param in
    subst (Contains (axes_of fs s)) (λ i. axis a.param (sym there i)) (is_axis fs c s a.param (omega (arith, own.1, there)))

module _ (es fs : List Element) (c : IsConstruction es) (c' : IsConstruction fs) where
  axes_same : (s : Statement) → ((p : ℕ) → statement_degree es s p ≡ statement_degree fs s p) → axes_of es s ≡ axes_of fs s
  axes_same s same =
      same_rising (axes_of es s) (axes_of fs s) (statement_axes_rise es s c.rising) (statement_axes_rise fs s c'.rising)
      (axis_there es fs c' s same) (axis_there fs es c s (λ p. sym (same p)))

  made_parts : (s : Statement) → AtStated s (AreSame es fs) → (v : ℕ → ℤ) → parts_at es s v ≡ parts_at fs s v
  made_parts s h v = parts_same es fs s v v (at_stated (AreSame es fs) (λ n. triple_at es n v ≡ triple_at fs n v) s (λ n same. same.triples v) h)

  made_height : (s : Statement) → AtStated s (AreSame es fs) → (m : ℕ → ℕ) → statement_height es s m ≡ statement_height fs s m
  made_height s h m = statement_height_same es fs s m (at_stated (AreSame es fs) (λ n. heights_at es n m ≡ heights_at fs n m) s (λ n same. same.heights m) h)

  -- it asks the same in both
  question_same : (s : Statement) → AtStated s (AreSame es fs) → question_of es s ≡ question_of fs s
  question_same s h =
      let axes = axes_same s (degree_same es fs s h) in
      let blocks = blocks_same es fs c c' s axes in
      λ i. record {
        axes = axes i;
        blocks = blocks i;
        parts_at = λ xs. made_parts s h (at_axes (pos 0) (axes i) xs) i;
        coefficients = λ xs k place. slice_index_or (lists_same es fs s h (at_axes (pos 0) (axes i) xs) (slice_index_or (axes i) place (axis 0 0)).param i) k [];
        table = λ xs k p. slice_index_or (tables_same es fs s h (at_axes (pos 0) (axes i) xs) (element_of_parameter (slice_index_or (axes i) p.0 (axis 0 0)).param) i) k [];
        height_at = λ ms. made_height s h (at_axes 0 (axes i) ms) i;
      }

  pub verdict_same : (s : Statement) → AtStated s (AreSame es fs) → verdict_of (question_of es s) ≡ verdict_of (question_of fs s)
  verdict_same s h = ap verdict_of (question_same s h)

  -- and what the verdict is said to be is the same
  given_same : (s : Statement) (r : Verdict) → AtStated s (AreSame es fs) → IsStatementVerdict es s r → IsStatementVerdict fs s r
  given_same s r h w =
      subst (λ (x : Question × ((ℕ → ℤ) → List ℤ)). IsVerdict x.0 ((entries : List (ℕ × ℤ)) → AreZero (x.1 (assignment_of entries))) r) (λ i. (question_same s h i, λ v. made_parts s h v i)) w

  -- where the lists agree on the definitions of all on which an element depends, they make the same of it
  same_by_definitions : (n : ℕ) → ((on : ℕ) → depends_on es n on ≡ true → def_at es on ≡ def_at fs on) → AreSame es fs n
  same_by_definitions n h = by_all es fs n (λ X A. computed_same es c.rising (built es c) A A fs c'.rising (built fs c') n (λ on depends. (h on depends, agree_itself A on)))

  pub verdict_by_definitions : (s : Statement) (r : Verdict) → AgreeForStatement es fs s → IsStatementVerdict es s r → IsStatementVerdict fs s r
  verdict_by_definitions s r agree w = given_same s r (at_stated _ (AreSame es fs) s same_by_definitions agree) w

  pub same_verdict_by_definitions : (s : Statement) → AgreeForStatement es fs s → verdict_of (question_of es s) ≡ verdict_of (question_of fs s)
  same_verdict_by_definitions s agree = verdict_same s (at_stated _ (AreSame es fs) s same_by_definitions agree)
