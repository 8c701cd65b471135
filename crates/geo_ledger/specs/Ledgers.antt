-- What a ledger says of a sketch, and what it may keep.
use Rattle.std.specs.Prelude.{◌≡◌, ◌++◌, Bool, true, false, not, List, filter, map, All}
use Rattle.geo_sketch.specs.declared.elements.Element.{Element}
use Rattle.geo_sketch.specs.declared.statements.Statement.{Statement}
use Rattle.geo_sketch.specs.declared.verdicts.Verdict.{Verdict}
use Rattle.geo_sketch.specs.Claims.{is_claimed}
use Rattle.geo_sketch.specs.Sketches.{Drawing}
use Rattle.geo_degree.specs.VerdictFunction.{verdict_of}
use Rattle.geo_degree.specs.Verdicts.{question_of}
use Rattle.geo_guess.specs.Conjectures.{conjectures_of}
use Rattle.geo_ledger.specs.declared.entry.Entry.{Entry}
use Rattle.geo_sketch.specs.Posing.{is_posed}

-- the claims that do not stand among the conjectures, in the order of claiming
abbrev pub further_claims : Drawing → List Statement
further_claims drawing = filter (λ s. not (is_claimed (conjectures_of drawing.elements) s)) drawing.claims

-- the statements of the ledger in its order, each with whether it was guessed: the conjectures,
-- and then the further claims
abbrev pub listed : Drawing → List (Statement × Bool)
listed drawing = map (λ s. (s, true)) (conjectures_of drawing.elements) ++ map (λ s. (s, false)) (further_claims drawing)

-- what the ledger says of a statement that it lists: its verdict
abbrev pub entry_in : Drawing → Statement × Bool → Entry
entry_in drawing line = record { statement = line.0; guessed = line.1; verdict = verdict_of (question_of drawing.elements line.0) }

-- the ledger: each statement that is listed, with its verdict
abbrev pub ledger_of : Drawing → List Entry
ledger_of drawing = map (entry_in drawing) (listed drawing)

-- the statement is posed of these elements, and this is its verdict
abbrev pub IsKept : List Element → Statement × Verdict → Type 0
IsKept es k = (is_posed es k.0 ≡ true) × (k.1 ≡ verdict_of (question_of es k.0))

-- so it is of each, in the sketch
abbrev pub AreKept : Drawing → List (Statement × Verdict) → Type 0
AreKept drawing kept = All (IsKept drawing.elements) kept
