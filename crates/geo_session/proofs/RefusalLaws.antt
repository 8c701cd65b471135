-- An answer that refuses is the refusal, and changes nothing.
use Rattle.std.proofs.Common.{◌≡◌, ap, List, [], ◌∷◌, ℕ, ℤ}
use Rattle.std.specs.Prelude.{Option, None, Some, Result, Ok, Err, codes}
use Rattle.std.proofs.lemmas.Bool.{cond_both}
use Rattle.geo_sketch.specs.declared.changes.Delta.{Delta}
use Rattle.geo_sketch.specs.declared.changes.Refusal.{Refusal}
use Rattle.geo_sketch.specs.declared.changes.Refusal.TheVariants as refusal
use Rattle.geo_sketch.specs.declared.statements.Statement.{Statement}
use Rattle.geo_sketch.specs.Additions.{addition_of}
use Rattle.geo_sketch.specs.Claims.{claim_of, resolution_of}
use Rattle.geo_sketch.specs.Drags.{drag_of}
use Rattle.geo_sketch.specs.Drops.{drop_of}
use Rattle.geo_parse.specs.declared.commands.Command.{Command}
use Rattle.geo_parse.specs.declared.commands.Command.TheVariants as command
use Rattle.geo_parse.specs.Reading.{read_of}
use Rattle.geo_parse.specs.Words.{words}
use Rattle.geo_bracket.specs.Expressions.{Terms}
use Rattle.geo_bracket.specs.Resolving.{expression_of}
use Rattle.geo_infer.specs.Derivations.{inference_of}
use Rattle.geo_infer.specs.Words.{begins_with}
use Rattle.geo_view.specs.Sights.{Sight}
use Rattle.geo_view.specs.Walls.{sight_at}
use Rattle.geo_session.specs.declared.state.Reply.TheVariants.{Refused}
use Rattle.geo_session.specs.Answers.{Answer, State, drawing_of, answer_beside, answer_by, answer_of, answer_of_zero, answer_to, certified, changed, closed_by, concluded, counted, done_again, is_no_command, last_of, refused, settled, shown_by, sights_of, taken_back_to}

-- where an answer to a line refuses
abbrev RefusesOnly : State → Answer → Type 0
RefusesOnly state a = (r : Refusal) → a.reply ≡ Refused r → a ≡ refused state r

refusal_only : (state : State) (x : Refusal) → RefusesOnly state (refused state x)
refusal_only state x r is = let same : x ≡ r = cc in ap (refused state) same

change_refuses : (state : State) (x : Result Delta Refusal) → RefusesOnly state (changed state x)
change_refuses state (Ok d) r is = cc
change_refuses state (Err x) r is = refusal_only state x r is

undo_refuses : (state : State) (o : Option Delta) → RefusesOnly state (taken_back_to state o)
undo_refuses state None r is = refusal_only state refusal.Nothing r is
undo_refuses state (Some d) r is = cc

redo_refuses : (state : State) (ds : List Delta) → RefusesOnly state (done_again state ds)
redo_refuses state [] r is = refusal_only state refusal.Nothing r is
redo_refuses state (d ∷ ds) r is = cc

show_refuses : (state : State) (o : Option Sight) → RefusesOnly state (shown_by state o)
show_refuses state None r is = refusal_only state refusal.View r is
show_refuses state (Some s) r is = cc

close_refuses : (state : State) (k : ℤ) (o : Option Sight) → RefusesOnly state (closed_by state k o)
close_refuses state k None r is = refusal_only state refusal.View r is
close_refuses state k (Some s) r is = cc

certify_refuses : (state : State) (x : Result Statement Refusal) → RefusesOnly state (certified state x)
certify_refuses state (Ok s) r is = cc
certify_refuses state (Err x) r is = refusal_only state x r is

command_refuses : (state : State) (c : Command) → RefusesOnly state (answer_to state c)
command_refuses state (command.Add name kind spec) r is = change_refuses state (addition_of (drawing_of state) name kind spec) r is
command_refuses state (command.Claim said) r is = change_refuses state (claim_of (drawing_of state) said) r is
command_refuses state command.Dual r is = cc
command_refuses state command.Screen r is = cc
command_refuses state (command.Drag name to) r is = change_refuses state (drag_of (drawing_of state) name to) r is
command_refuses state (command.Drop name) r is = change_refuses state (drop_of (drawing_of state) name) r is
command_refuses state command.Undo r is = undo_refuses state (last_of state.done) r is
command_refuses state command.Redo r is = redo_refuses state state.undone r is
command_refuses state command.Conjectures r is = cc
command_refuses state command.Ledger r is = cc
command_refuses state (command.Certify said) r is = certify_refuses state (resolution_of (drawing_of state) said) r is
command_refuses state command.Svg r is = cc
command_refuses state (command.Show k) r is = show_refuses state (sight_at (sights_of state) k) r is
command_refuses state (command.Close k) r is = close_refuses state k (sight_at (sights_of state) k) r is

concluded_refuses : (state : State) (x : Result Statement Refusal) → RefusesOnly state (concluded state x)
concluded_refuses state (Ok s) r is = cc
concluded_refuses state (Err x) r is = refusal_only state x r is

settled_refuses : (state : State) (x : Result Terms Refusal) → RefusesOnly state (settled state x)
settled_refuses state (Ok ts) r is = cc
settled_refuses state (Err x) r is = refusal_only state x r is

zero_refuses : (state : State) (line : List ℕ) → RefusesOnly state (answer_of_zero state line)
zero_refuses state line =
    let asked = expression_of (drawing_of state).elements line in
    cond_both (begins_with (codes "zero") (words line)) (settled state asked) (refused state refusal.Command) (RefusesOnly state) (λ t. settled_refuses state asked) (λ t. refusal_only state refusal.Command)

beside_refuses : (state : State) (line : List ℕ) → RefusesOnly state (answer_beside state line)
beside_refuses state line =
    let inferred = inference_of (drawing_of state).elements line in
    cond_both (begins_with (codes "infer") (words line)) (concluded state inferred) (answer_of_zero state line) (RefusesOnly state) (λ t. concluded_refuses state inferred) (λ t. zero_refuses state line)

read_refuses : (state : State) (line : List ℕ) (x : Result (Option Command) Refusal) → RefusesOnly state (answer_by state line x)
read_refuses state line (Err x) = cond_both (is_no_command x) (answer_beside state line) (refused state x) (RefusesOnly state) (λ t. beside_refuses state line) (λ t. refusal_only state x)
read_refuses state line (Ok None) = λ r is. cc
read_refuses state line (Ok (Some c)) = command_refuses state c

pub line_refuses : (state : State) (line : List ℕ) → RefusesOnly (counted state) (answer_of state line)
unfolding answer_of
line_refuses state line = read_refuses (counted state) line (read_of line)
