-- In every state that a script leads to, each change leads from those before it.
use Rattle.std.proofs.Common.{◌≡◌, ◌∙◌, sym, ap, subst, refl, ℕ, ℤ, ◌++◌, Option, None, Some, List, [], ◌∷◌, length, append_assoc}
use Rattle.std.specs.Prelude.{Result, Ok, Err, nat_le, codes}
use Rattle.std.proofs.lemmas.Bool.{cond_both}
use Rattle.geo_sketch.specs.declared.changes.Delta.{Delta}
use Rattle.geo_sketch.specs.declared.changes.Delta.TheVariants as delta
use Rattle.geo_sketch.specs.declared.changes.Refusal.{Refusal}
use Rattle.geo_sketch.specs.declared.changes.Refusal.TheVariants as refusal
use Rattle.geo_sketch.specs.declared.statements.Said.{Said}
use Rattle.geo_sketch.specs.declared.statements.Statement.{Statement}
use Rattle.geo_sketch.specs.Sketches.{Drawing, blank, IsDrawn}
use Rattle.geo_sketch.specs.declared.limits.TheConstants.{CLAIM_LIMIT}
use Rattle.geo_sketch.specs.Changes.{all_but_last, AllLead, LeadsFrom}
use Rattle.geo_sketch.specs.Additions.{addition_of}
use Rattle.geo_sketch.specs.Claims.{claim_of, claiming, claiming_ordered, in_order, is_claimed, meaning_of, resolution_of}
use Rattle.geo_sketch.specs.Drags.{drag_of}
use Rattle.geo_sketch.specs.Drops.{drop_of}
use Rattle.geo_sketch.proofs.ChangeLaws.{blank_drawn, lead_both, lead_front, made_drawn}
use Rattle.geo_sketch.proofs.AdditionLaws.{addition_leads}
use Rattle.geo_sketch.proofs.ClaimLaws.{claim_leads}
use Rattle.geo_sketch.proofs.DragLaws.{drag_leads}
use Rattle.geo_sketch.proofs.DropLaws.{drop_leads}
use Rattle.geo_sketch.proofs.DualLaws.{dual_drawn}
use Rattle.geo_parse.specs.declared.commands.Command.{Command}
use Rattle.geo_parse.specs.declared.commands.Command.TheVariants as command
use Rattle.geo_parse.specs.Reading.{read_of}
use Rattle.geo_parse.specs.Words.{words}
use Rattle.geo_bracket.specs.Expressions.{Terms}
use Rattle.geo_bracket.specs.Resolving.{expression_of}
use Rattle.geo_infer.specs.Derivations.{inference_of}
use Rattle.geo_infer.specs.Words.{begins_with}
use Rattle.geo_view.specs.Sights.{Sight}
use Rattle.geo_view.specs.Walls.{sight_at}
use Rattle.geo_session.specs.Answers.{Answer, State, drawing_of, answer_beside, answer_by, answer_of, answer_of_zero, answer_to, certified, changed, closed_by, concluded, counted, done_again, is_no_command, last_of, refused, settled, shown_by, sights_of, taken_back_to}
use Rattle.geo_session.proofs.SmallNumbers.{IsSmallCommand, IsSmallRead, read_small}
use Rattle.geo_session.proofs.StateLaws.{front_is}

-- the done changes, and then the undone ones
abbrev pub IsReached : State → Type 0
IsReached state = AllLead blank (state.done ++ state.undone)

pub reached_drawn : (state : State) → IsReached state → IsDrawn (drawing_of state)
reached_drawn state h = made_drawn blank state.done blank_drawn (lead_front blank state.done state.undone h)

-- ---- a claim is made by no other change
ordered_claims : (claims : List Statement) (o : Option Statement) (d : Delta) → claiming_ordered claims o ≡ Ok d → (c : Statement) × (delta.Claimed c ≡ d)
ordered_claims claims None d h = cc
ordered_claims claims (Some c) d h = cond_both (is_claimed claims c) (Err refusal.Repeat) (Ok (delta.Claimed c)) (λ r. r ≡ Ok d → (c : Statement) × (delta.Claimed c ≡ d)) (λ t g. cc) (λ t g. (c, cc)) h

claims_only : (claims : List Statement) (r : Result Statement Refusal) (d : Delta) → claiming claims r ≡ Ok d → (c : Statement) × (delta.Claimed c ≡ d)
claims_only claims (Err r) d h = cc
claims_only claims (Ok s) d h = cond_both (nat_le CLAIM_LIMIT (length claims)) (Err refusal.Full) (claiming_ordered claims (in_order s)) (λ r. r ≡ Ok d → (c : Statement) × (delta.Claimed c ≡ d)) (λ t g. cc) (λ t g. ordered_claims claims (in_order s) d g) h

any_claim_leads : (drawing : Drawing) (said : Said) (d : Delta) → IsDrawn drawing → claim_of drawing said ≡ Ok d → LeadsFrom drawing d
any_claim_leads drawing said d drawn h =
    let claimed = claims_only drawing.claims (meaning_of drawing.elements said) d h in
    subst (λ (d : Delta). LeadsFrom drawing d) claimed.1 (claim_leads drawing said claimed.0 drawn (h ∙ ap Ok (sym claimed.1)))

-- ---- through an answer
last_stands : (ds : List Delta) (d : Delta) → last_of ds ≡ Some d → (front : List Delta) × (ds ≡ front ++ d ∷ [])
last_stands [] d h = cc
last_stands (e ∷ []) d h = let same : e ≡ d = cc in ([], ap (λ x. x ∷ []) same)
last_stands (e ∷ f ∷ ds) d h = let rest = last_stands (f ∷ ds) d h in (e ∷ rest.0, ap (λ xs. e ∷ xs) rest.1)

module _ (state : State) (h : IsReached state) where
  change_reached : (r : Result Delta Refusal) → ((d : Delta) → r ≡ Ok d → LeadsFrom (drawing_of state) d) → IsReached (changed state r).next
  change_reached (Err r) leads = h
  change_reached (Ok d) leads =
      lead_both blank (state.done ++ d ∷ []) [] (lead_both blank state.done (d ∷ []) (lead_front blank state.done state.undone h) (leads d refl, tt)) tt

  undo_reached : (o : Option Delta) → last_of state.done ≡ o → IsReached (taken_back_to state o).next
  undo_reached None q = h
  undo_reached (Some d) q =
      let stands = last_stands state.done d q in
      let front : all_but_last state.done ≡ stands.0 = ap all_but_last stands.1 ∙ front_is stands.0 d in
      let same : state.done ++ state.undone ≡ all_but_last state.done ++ d ∷ state.undone = ap (λ ds. ds ++ state.undone) stands.1 ∙ append_assoc stands.0 (d ∷ []) state.undone ∙ ap (λ ds. ds ++ d ∷ state.undone) (sym front) in
      subst (AllLead blank) same h

  redo_reached : (ds : List Delta) → state.undone ≡ ds → IsReached (done_again state ds).next
  redo_reached [] q = h
  redo_reached (d ∷ ds) q = subst (AllLead blank) (ap (λ es. state.done ++ es) q ∙ sym (append_assoc state.done (d ∷ []) ds)) h

  show_reached : (o : Option Sight) → IsReached (shown_by state o).next
  show_reached None = h
  show_reached (Some s) = h

  close_reached : (k : ℤ) (o : Option Sight) → IsReached (closed_by state k o).next
  close_reached k None = h
  close_reached k (Some s) = h

  certify_reached : (r : Result Statement Refusal) → IsReached (certified state r).next
  certify_reached (Err r) = h
  certify_reached (Ok s) = h

  command_reached : (c : Command) → IsSmallCommand c → IsReached (answer_to state c).next
  command_reached (command.Add name kind spec) small = change_reached (addition_of (drawing_of state) name kind spec) (λ d. addition_leads (drawing_of state) name kind spec d (reached_drawn state h) small)
  command_reached (command.Claim said) small = change_reached (claim_of (drawing_of state) said) (λ d. any_claim_leads (drawing_of state) said d (reached_drawn state h))
  command_reached command.Dual small = change_reached (Ok delta.Dual) (λ d q. let same : delta.Dual ≡ d = cc in subst (λ (d : Delta). LeadsFrom (drawing_of state) d) same (record { records = tt; drawn = dual_drawn _ _ _ (reached_drawn state h) }))
  command_reached command.Screen small = h
  command_reached (command.Drag name to) small = change_reached (drag_of (drawing_of state) name to) (λ d. drag_leads (drawing_of state) name to d (reached_drawn state h))
  command_reached (command.Drop name) small = change_reached (drop_of (drawing_of state) name) (λ d. drop_leads (drawing_of state) name d (reached_drawn state h))
  command_reached command.Undo small = undo_reached (last_of state.done) refl
  command_reached command.Redo small = redo_reached state.undone refl
  command_reached command.Conjectures small = h
  command_reached command.Ledger small = h
  command_reached (command.Certify said) small = certify_reached (resolution_of (drawing_of state) said)
  command_reached command.Svg small = h
  command_reached (command.Show k) small = show_reached (sight_at (sights_of state) k)
  command_reached (command.Close k) small = close_reached k (sight_at (sights_of state) k)

  concluded_reached : (r : Result Statement Refusal) → IsReached (concluded state r).next
  concluded_reached (Err r) = h
  concluded_reached (Ok s) = h

  settled_reached : (r : Result Terms Refusal) → IsReached (settled state r).next
  settled_reached (Err r) = h
  settled_reached (Ok ts) = h

  zero_reached : (line : List ℕ) → IsReached (answer_of_zero state line).next
  zero_reached line =
      let asked = expression_of (drawing_of state).elements line in
      cond_both (begins_with (codes "zero") (words line)) (settled state asked) (refused state refusal.Command) (λ (a : Answer). IsReached a.next) (λ t. settled_reached asked) (λ t. h)

  beside_reached : (line : List ℕ) → IsReached (answer_beside state line).next
  beside_reached line =
      let inferred = inference_of (drawing_of state).elements line in
      cond_both (begins_with (codes "infer") (words line)) (concluded state inferred) (answer_of_zero state line) (λ (a : Answer). IsReached a.next) (λ t. concluded_reached inferred) (λ t. zero_reached line)

  read_reached : (line : List ℕ) (r : Result (Option Command) Refusal) → IsSmallRead r → IsReached (answer_by state line r).next
  read_reached line (Err r) small = cond_both (is_no_command r) (answer_beside state line) (refused state r) (λ (a : Answer). IsReached a.next) (λ t. beside_reached line) (λ t. h)
  read_reached line (Ok None) small = h
  read_reached line (Ok (Some c)) small = command_reached c small

pub line_reached : (state : State) (line : List ℕ) → IsReached state → IsReached (answer_of state line).next
unfolding answer_of
line_reached state line h = read_reached (counted state) h line (read_of line) (read_small line)
