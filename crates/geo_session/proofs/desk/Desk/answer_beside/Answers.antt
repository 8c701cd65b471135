use Rattle.std.proofs.Common.{rules, ◌≡◌, refl, true, false, ℕ, List}
use Rattle.std.specs.Prelude.{codes}
use Rattle.std.proofs.lemmas.Bool.{cond-true}
use Rattle.geo_parse.specs.Words.{words}
use Rattle.geo_bracket.specs.Resolving.{expression_of}
use Rattle.geo_infer.specs.Words.{begins_with}
use Rattle.geo_session.specs.Answers.{State, answer_beside, drawing_of, settled}
use Rattle.geo_session.proofs.StateLaws.{answered_as}
use Rattle.geo_session.proofs.desk.Desk.answer_beside.Goals as goal

pub returns-then-begins_with-clause-gives : goal.returns-then-begins_with-clause-gives
returns-then-begins_with-clause-gives g c =
    let begins : begins_with (codes "infer") (words c.args.line.now) ≡ true = search rules in
    answered_as g.W.Views.shows c.args.self.now c.infer.new.self _ _ _ (λ (state : State). answer_beside state c.args.line.now) c.infer.result (λ state at. cond-true _ _ _ begins) c.infer.ensures.gives

-- a line that begins with the other word
asked : (state : State) (line : List ℕ) → begins_with (codes "infer") (words line) ≡ false → begins_with (codes "zero") (words line) ≡ true → answer_beside state line ≡ settled state (expression_of (drawing_of state).elements line)
asked state line other begins = rw (other, begins) refl

pub returns-then-begins_with-2-clause-gives : goal.returns-then-begins_with-2-clause-gives
returns-then-begins_with-2-clause-gives g c =
    let other : begins_with (codes "infer") (words c.args.line.now) ≡ false = search rules in
    let begins : begins_with (codes "zero") (words c.args.line.now) ≡ true = search rules in
    answered_as g.W.Views.shows c.args.self.now c.args.self.now _ _ _ (λ (state : State). answer_beside state c.args.line.now) c.zero.result (λ state at. asked state c.args.line.now other begins) c.zero.ensures
