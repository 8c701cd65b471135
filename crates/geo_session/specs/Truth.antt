-- What a printed verdict says, in words that name no grid where the statement is proved or
-- false.
use Rattle.std.specs.Prelude.{ℕ, ◌<◌, ◌++◌, ℤ, List}
use Rattle.geo_triple.specs.declared.limits.TheConstants.{STATEMENT_LIMIT}
use Rattle.geo_sketch.specs.declared.elements.Element.{Element}
use Rattle.geo_sketch.specs.declared.statements.Statement.{Statement}
use Rattle.geo_sketch.specs.declared.verdicts.Past.TheVariants.{Size, Height}
use Rattle.geo_sketch.specs.declared.verdicts.Verdict.{Verdict}
use Rattle.geo_sketch.specs.declared.verdicts.Verdict.TheVariants.{Proved, False, Unsettled}
use Rattle.geo_sketch.specs.Assignments.{assignment_of}
use Rattle.geo_sketch.specs.Statements.{Holds, parts_at}
use Rattle.geo_triple.specs.Zero.{AreZero}
use Rattle.geo_degree.specs.Grids.{grid_size}
use Rattle.geo_degree.specs.Questions.{grid_magnitudes, grid_of}
use Rattle.geo_degree.specs.Verdicts.{question_of}
use Rattle.geo_degree.specs.declared.limits.TheConstants.{SIZE_LIMIT}

-- proved: the statement holds, at all whole-number values of all parameters. False: at the
-- printed values, whatever the other parameters are, a part is not 0. Unsettled: its grid
-- has more points than the limit, or its height passes its own
abbrev pub IsTrue : List Element → Statement → Verdict → Type 0
IsTrue es s Proved = Holds es s
IsTrue es s (False values) = (others : List (ℕ × ℤ)) → ¬ AreZero (parts_at es s (assignment_of (values ++ others)))
IsTrue es s (Unsettled Size) = SIZE_LIMIT < grid_size (grid_of (question_of es s))
IsTrue es s (Unsettled Height) = STATEMENT_LIMIT < (question_of es s).height_at (grid_magnitudes (question_of es s))
