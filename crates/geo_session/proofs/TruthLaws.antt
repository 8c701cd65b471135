-- What the verdict of a statement says is so, and with it every verdict that a script prints.
use Rattle.std.proofs.Common.{◌≡◌, ◌∙◌, sym, ap, ap₂, subst, refl, inl, inr, ℕ, suc, ◌<◌, ◌++◌, ℤ, List, [], ◌∷◌, length, map, All, AllPairs, if◌then◌else◌, arith}
use Rattle.std.specs.Prelude.{◌==◌, Bool, false, Option, None, Some, Result, Ok, Err, codes}
use Rattle.std.specs.List.{AllByRecursion}
use Rattle.std.proofs.lemmas.Bool.{cond_both, cond-false, cond-true, eq-eqb, ne_eqb}
use Rattle.std.proofs.lemmas.List.{length-map}
use Rattle.std.proofs.lemmas.List.Elements.{recursion_from_All}
use Rattle.geo_sketch.proofs.ClaimLaws.{resolution_posed}
use Rattle.geo_sketch.proofs.SketchLaws.{constructed}
use Rattle.geo_sketch.specs.declared.changes.Delta.{Delta}
use Rattle.geo_sketch.specs.declared.changes.Refusal.{Refusal}
use Rattle.geo_sketch.specs.declared.changes.Refusal.TheVariants as refusal
use Rattle.geo_sketch.specs.declared.statements.Statement.{Statement}
use Rattle.geo_sketch.specs.declared.verdicts.Past.TheVariants.{Size, Height}
use Rattle.geo_sketch.specs.declared.verdicts.Verdict.{Verdict}
use Rattle.geo_sketch.specs.declared.verdicts.Verdict.TheVariants.{Proved, False, Unsettled}
use Rattle.geo_sketch.specs.Additions.{addition_of}
use Rattle.geo_sketch.specs.Assignments.{assignment_of}
use Rattle.geo_sketch.specs.Claims.{claim_of, resolution_of}
use Rattle.geo_sketch.specs.Drags.{drag_of}
use Rattle.geo_sketch.specs.Drops.{drop_of}
use Rattle.geo_sketch.specs.Samples.{sample_value}
use Rattle.geo_sketch.specs.Sketches.{Drawing, IsDrawn, IsPosed}
use Rattle.geo_sketch.specs.Statements.{Holds}
use Rattle.geo_triple.specs.Zero.{AreZero}
use Rattle.geo_degree.specs.declared.grids.Axis.{Axis}
use Rattle.geo_degree.specs.Grids.{axes_of, values_on}
use Rattle.geo_degree.specs.Questions.{point, sample, IsZeroAt}
use Rattle.geo_degree.specs.VerdictFunction.{verdict_of}
use Rattle.geo_degree.specs.Verdicts.{named, question_of, statement_parts, IsStatementVerdict}
use Rattle.geo_degree.proofs.AgreementLaws.{parts_by_axes}
use Rattle.geo_degree.proofs.AxisLaws.{statement_axes_rise}
use Rattle.geo_degree.proofs.FormLaws.{statement_form}
use Rattle.geo_degree.proofs.QuestionLaws.{length_of_point}
use Rattle.geo_ledger.specs.Ledgers.{entry_in, listed}
use Rattle.geo_ledger.proofs.EntryLists.{lines_posed}
use Rattle.geo_parse.specs.declared.commands.Command.{Command}
use Rattle.geo_parse.specs.declared.commands.Command.TheVariants as command
use Rattle.geo_parse.specs.Reading.{read_of}
use Rattle.geo_parse.specs.Words.{words}
use Rattle.geo_bracket.specs.Expressions.{IsPosedExpression, Terms, expression_value}
use Rattle.geo_bracket.specs.Questions.{expression_axes, expression_question, value_over}
use Rattle.geo_bracket.specs.Resolving.{expression_of}
use Rattle.geo_bracket.specs.Verdicts.{IsExpressionVerdict}
use Rattle.geo_bracket.proofs.ExpressionLaws.{axes_rise, expression_form, value_by_axes}
use Rattle.geo_bracket.proofs.ResolveLemmas.{asked_posed}
use Rattle.geo_infer.specs.Derivations.{inference_of}
use Rattle.geo_infer.specs.Words.{begins_with}
use Rattle.geo_view.specs.Sights.{Sight}
use Rattle.geo_view.specs.Walls.{sight_at}
use Rattle.geo_session.specs.declared.state.Session.{Session}
use Rattle.geo_session.specs.Answers.{Answer, State, drawing_of, answer_beside, answer_by, answer_of, answer_of_zero, answer_to, certified, changed, closed_by, concluded, counted, done_again, is_no_command, last_of, printed_from, refused, settled, shown_by, sights_of, taken_back_to}
use Rattle.geo_session.specs.Printed.{Piece, LedgerLine, AreTrue, ledger_lines}
use Rattle.geo_session.specs.Standing.{StandsFor}
use Rattle.geo_session.specs.Truth.{IsTrue}
use Rattle.geo_session.specs.Zeros.{IsTrueOfZero}
use Rattle.geo_session.proofs.CertificateLaws.{piece_true}
use Rattle.geo_session.proofs.ReachedStates.{IsReached, line_reached, reached_drawn}

-- ---- false at the printed values
-- a value for a parameter before all axes
values_skipped : (axes : List Axis) (v : ℕ → ℤ) (p : ℕ) (x : ℤ) → All (λ (a : Axis). p < a.param) axes → values_on axes (λ q. if p == q then x else v q) ≡ values_on axes v
values_skipped [] v p x above = refl
values_skipped (a ∷ axes) v p x above =
    let apart : (p == a.param) ≡ false = ne_eqb p a.param (λ same. absurd (omega (arith, same, above 0 a (omega arith)))) in
    ap₂ (λ (y : ℤ) (ys : List ℤ). y ∷ ys) (cond-false (p == a.param) x (v a.param) apart) (values_skipped axes v p x (λ j d l. above (suc j) d (omega (arith, l))))

-- where parameters rise, what is named for the axes they have, whatever is said of others
values_named : (axes : List Axis) (xs : List ℤ) (others : List (ℕ × ℤ)) → AllPairs (λ (a b : Axis). a.param < b.param) axes → length xs ≡ length axes → values_on axes (assignment_of (named axes xs ++ others)) ≡ xs
values_named [] [] others rise l = refl
values_named [] (x ∷ xs) others rise l = absurd (omega (arith, l))
values_named (a ∷ axes) [] others rise l = absurd (omega (arith, l))
values_named (a ∷ axes) (x ∷ xs) others rise l =
    let v = assignment_of (named axes xs ++ others) in
    let later : AllPairs (λ (a b : Axis). a.param < b.param) axes = λ i j e g h. rise (suc i) (suc j) e (omega arith) (omega (arith, h)) in
    let above : All (λ (b : Axis). a.param < b.param) axes = λ j d h. rise 0 (suc j) d (omega arith) (omega (arith, h)) in
    ap₂ (λ (y : ℤ) (ys : List ℤ). y ∷ ys) (cond-true (a.param == a.param) x (v a.param) (eq-eqb a.param a.param refl)) (values_skipped axes v a.param x above ∙ values_named axes xs others later (omega (arith, l)))

-- values of the axes at which a part is not 0
false_there : (drawing : Drawing) (s : Statement) (values : List (ℕ × ℤ)) (xs : List ℤ) → IsDrawn drawing → length xs ≡ length (axes_of drawing.elements s) → ¬ IsZeroAt (question_of drawing.elements s) xs → values ≡ named (axes_of drawing.elements s) xs → IsTrue drawing.elements s (False values)
false_there drawing s values xs drawn l fails same = λ others zeros.
    let es = drawing.elements in
    let axes = axes_of es s in
    let there : values_on axes (assignment_of (values ++ others)) ≡ xs = ap (λ (vs : List (ℕ × ℤ)). values_on axes (assignment_of (vs ++ others))) same ∙ values_named axes xs others (statement_axes_rise es s drawn.rising) l in
    fails (subst AreZero (parts_by_axes es (constructed drawing drawn) s (assignment_of (values ++ others)) ∙ ap (statement_parts es s) there) zeros)

-- ---- each verdict
pub verdict_true : (drawing : Drawing) (s : Statement) (r : Verdict) → IsDrawn drawing → IsStatementVerdict drawing.elements s r → IsTrue drawing.elements s r
verdict_true drawing s Proved drawn (inl h) = h.1
verdict_true drawing s Proved drawn (inr h) = absurd h.1
verdict_true drawing s (False values) drawn (inl h) =
    let g = h.1 in
    false_there drawing s values (point (question_of drawing.elements s) g.0) drawn (length_of_point (question_of drawing.elements s) (statement_form drawing drawn s) g.0 g.1.within) g.1.fails g.2
verdict_true drawing s (False values) drawn (inr h) =
    let g = h.1 in
    false_there drawing s values (sample (question_of drawing.elements s) g.0) drawn (length-map (axes_of drawing.elements s) (λ (a : Axis). sample_value g.0 a.param)) g.1.fails g.2
verdict_true drawing s (Unsettled past) drawn (inl h) = absurd h.1
verdict_true drawing s (Unsettled Size) drawn (inr h) = h.1.1
verdict_true drawing s (Unsettled Height) drawn (inr h) = h.1.1.1

-- ---- and each on an expression
module _ (drawing : Drawing) (ts : Terms) (drawn : IsDrawn drawing) where
  not_zero_there : (values : List (ℕ × ℤ)) (xs : List ℤ) → length xs ≡ length (expression_axes drawing.elements ts) → ¬ IsZeroAt (expression_question drawing.elements ts) xs → values ≡ named (expression_axes drawing.elements ts) xs → IsTrueOfZero drawing.elements ts (False values)
  not_zero_there values xs l fails same = λ others zero.
      let es = drawing.elements in
      let axes = expression_axes es ts in
      let there : values_on axes (assignment_of (values ++ others)) ≡ xs = ap (λ (vs : List (ℕ × ℤ)). values_on axes (assignment_of (vs ++ others))) same ∙ values_named axes xs others (axes_rise drawing drawn ts) l in
      let here : expression_value es ts (assignment_of (values ++ others)) ≡ value_over es ts axes xs = value_by_axes es (constructed drawing drawn) ts (assignment_of (values ++ others)) ∙ ap (value_over es ts axes) there in
      fails (sym here ∙ zero, tt)

  pub zero_true : (r : Verdict) → IsPosedExpression drawing.elements ts → IsExpressionVerdict drawing.elements ts r → IsTrueOfZero drawing.elements ts r
  zero_true Proved posed (inl h) = h.1
  zero_true Proved posed (inr h) = absurd h.1
  zero_true (False values) posed (inl h) =
      let g = h.1 in
      not_zero_there values (point (expression_question drawing.elements ts) g.0) (length_of_point (expression_question drawing.elements ts) (expression_form drawing drawn ts posed.modest) g.0 g.1.within) g.1.fails g.2
  zero_true (False values) posed (inr h) =
      let g = h.1 in
      not_zero_there values (sample (expression_question drawing.elements ts) g.0) (length-map (expression_axes drawing.elements ts) (λ (a : Axis). sample_value g.0 a.param)) g.1.fails g.2
  zero_true (Unsettled past) posed (inl h) = absurd h.1
  zero_true (Unsettled Size) posed (inr h) = h.1.1
  zero_true (Unsettled Height) posed (inr h) = h.1.1.1

-- ---- of what is printed
abbrev HasVerdicts : Type 0
HasVerdicts = (drawing : Drawing) (s : Statement) → IsDrawn drawing → IsPosed drawing.elements s → IsStatementVerdict drawing.elements s (verdict_of (question_of drawing.elements s))

abbrev HasZeroVerdicts : Type 0
HasZeroVerdicts = (drawing : Drawing) (ts : Terms) → IsDrawn drawing → IsPosedExpression drawing.elements ts → IsExpressionVerdict drawing.elements ts (verdict_of (expression_question drawing.elements ts))

both_true : (some more : List Piece) → AreTrue some → AreTrue more → AreTrue (some ++ more)
both_true [] more h g = g
both_true (p ∷ some) more h g = (h.0, both_true some more h.1 g)

-- what a line infers holds
abbrev InferredHolds : Type 0
InferredHolds = (drawing : Drawing) (line : List ℕ) (s : Statement) → IsDrawn drawing → inference_of drawing.elements line ≡ Ok s → Holds drawing.elements s

module _ (right : HasVerdicts) (inferred_holds : InferredHolds) (zero_right : HasZeroVerdicts) where
  -- the lines of posed statements
  lines_true : (drawing : Drawing) → IsDrawn drawing → (lines : List (Statement × Bool)) → AllByRecursion (λ (line : Statement × Bool). IsPosed drawing.elements line.0) lines → AreTrue (map (λ e. LedgerLine drawing.elements e.statement e.verdict) (map (entry_in drawing) lines))
  lines_true drawing drawn [] posed = tt
  lines_true drawing drawn (line ∷ lines) posed =
      (verdict_true drawing line.0 (verdict_of (question_of drawing.elements line.0)) drawn (right drawing line.0 drawn posed.0), lines_true drawing drawn lines posed.1)

  ledger_true : (drawing : Drawing) → IsDrawn drawing → AreTrue (ledger_lines drawing)
  ledger_true drawing drawn = lines_true drawing drawn (listed drawing) (recursion_from_All (λ (line : Statement × Bool). IsPosed drawing.elements line.0) (listed drawing) (lines_posed drawing drawn))

  change_true : (state : State) (r : Result Delta Refusal) → AreTrue (changed state r).printed
  change_true state (Ok d) = (tt, tt)
  change_true state (Err r) = (tt, tt)

  undo_true : (state : State) (o : Option Delta) → AreTrue (taken_back_to state o).printed
  undo_true state None = (tt, tt)
  undo_true state (Some d) = (tt, tt)

  redo_true : (state : State) (ds : List Delta) → AreTrue (done_again state ds).printed
  redo_true state [] = (tt, tt)
  redo_true state (d ∷ ds) = (tt, tt)

  show_true : (state : State) (o : Option Sight) → AreTrue (shown_by state o).printed
  show_true state None = (tt, tt)
  show_true state (Some s) = (tt, tt)

  close_true : (state : State) (k : ℤ) (o : Option Sight) → AreTrue (closed_by state k o).printed
  close_true state k None = (tt, tt)
  close_true state k (Some s) = (tt, tt)

  certify_true : (state : State) (r : Result Statement Refusal) → ((s : Statement) → r ≡ Ok s → IsPosed (drawing_of state).elements s) → IsDrawn (drawing_of state) → AreTrue (certified state r).printed
  certify_true state (Err r) posed drawn = (tt, tt)
  certify_true state (Ok s) posed drawn =
      let es = (drawing_of state).elements in
      let r = verdict_of (question_of es s) in
      (piece_true (drawing_of state) s r drawn (verdict_true (drawing_of state) s r drawn (right (drawing_of state) s drawn (posed s refl))), tt)

  command_true : (state : State) (c : Command) → IsDrawn (drawing_of state) → AreTrue (answer_to state c).printed
  command_true state (command.Add name kind spec) drawn = change_true state (addition_of (drawing_of state) name kind spec)
  command_true state (command.Claim said) drawn = change_true state (claim_of (drawing_of state) said)
  command_true state command.Dual drawn = (tt, tt)
  command_true state command.Screen drawn = (tt, tt)
  command_true state (command.Drag name to) drawn = change_true state (drag_of (drawing_of state) name to)
  command_true state (command.Drop name) drawn = change_true state (drop_of (drawing_of state) name)
  command_true state command.Undo drawn = undo_true state (last_of state.done)
  command_true state command.Redo drawn = redo_true state state.undone
  command_true state command.Conjectures drawn = (tt, tt)
  command_true state command.Ledger drawn = ledger_true (drawing_of state) drawn
  command_true state (command.Certify said) drawn = certify_true state (resolution_of (drawing_of state) said) (λ s h. resolution_posed (drawing_of state) said s drawn h) drawn
  command_true state command.Svg drawn = (tt, tt)
  command_true state (command.Show k) drawn = show_true state (sight_at (sights_of state) k)
  command_true state (command.Close k) drawn = close_true state k (sight_at (sights_of state) k)

  concluded_true : (state : State) (r : Result Statement Refusal) → ((s : Statement) → r ≡ Ok s → Holds (drawing_of state).elements s) → AreTrue (concluded state r).printed
  concluded_true state (Err r) holds = (tt, tt)
  concluded_true state (Ok s) holds = (holds s refl, tt)

  settled_true : (state : State) (r : Result Terms Refusal) → IsDrawn (drawing_of state) → ((ts : Terms) → r ≡ Ok ts → IsPosedExpression (drawing_of state).elements ts) → AreTrue (settled state r).printed
  settled_true state (Err r) drawn posed = (tt, tt)
  settled_true state (Ok ts) drawn posed =
      (zero_true (drawing_of state) ts drawn (verdict_of (expression_question (drawing_of state).elements ts)) (posed ts refl) (zero_right (drawing_of state) ts drawn (posed ts refl)), tt)

  answer_of_zero_true : (state : State) (line : List ℕ) → IsDrawn (drawing_of state) → AreTrue (answer_of_zero state line).printed
  answer_of_zero_true state line drawn =
      let asked = expression_of (drawing_of state).elements line in
      cond_both (begins_with (codes "zero") (words line)) (settled state asked) (refused state refusal.Command) (λ (a : Answer). AreTrue a.printed) (λ t. settled_true state asked drawn (λ ts h. asked_posed (drawing_of state).elements drawn.rising line ts h)) (λ t. (tt, tt))

  beside_true : (state : State) (line : List ℕ) → IsDrawn (drawing_of state) → AreTrue (answer_beside state line).printed
  beside_true state line drawn =
      let inferred = inference_of (drawing_of state).elements line in
      cond_both (begins_with (codes "infer") (words line)) (concluded state inferred) (answer_of_zero state line) (λ (a : Answer). AreTrue a.printed) (λ t. concluded_true state inferred (λ s h. inferred_holds (drawing_of state) line s drawn h)) (λ t. answer_of_zero_true state line drawn)

  read_true : (state : State) (line : List ℕ) (r : Result (Option Command) Refusal) → IsDrawn (drawing_of state) → AreTrue (answer_by state line r).printed
  read_true state line (Err r) drawn = cond_both (is_no_command r) (answer_beside state line) (refused state r) (λ (a : Answer). AreTrue a.printed) (λ t. beside_true state line drawn) (λ t. (tt, tt))
  read_true state line (Ok None) drawn = tt
  read_true state line (Ok (Some c)) drawn = command_true state c drawn

  line_true : (state : State) (line : List ℕ) → IsDrawn (drawing_of state) → AreTrue (answer_of state line).printed
  unfolding answer_of
  line_true state line drawn = read_true (counted state) line (read_of line) drawn

  pub script_true : (state : State) (lines : List (List ℕ)) → IsReached state → AreTrue (printed_from state lines)
  unfolding printed_from
  script_true state [] h = tt
  script_true state (line ∷ lines) h = both_true (answer_of state line).printed (printed_from (answer_of state line).next lines) (line_true state line (reached_drawn state h)) (script_true (answer_of state line).next lines (line_reached state line h))

  -- what a session answers to a line
  pub answer_true : {W : Type 0} (shows : W → List (Option Sight)) (session : Session W) (line : List ℕ) → IsDrawn session.desk.sketch → (state : State) → StandsFor shows session state → AreTrue (answer_of state line).printed
  answer_true shows session line drawn state stands = line_true state line (subst (λ (k : Drawing). IsDrawn k) stands.at.sketch drawn)
