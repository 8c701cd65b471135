-- The expansion of a script: its lines without the tools, and in place of each use the lines that it gives.
use Rattle.std.specs.Prelude.{ℕ, ◌++◌, Bool, false, nat_lt, if◌then◌else◌, List, [], ◌∷◌, length, Option, None, Some, is_some, unwrap_or, codes}
use Rattle.std.specs.Str.{bytes_eq}
use Rattle.geo_tool.specs.Tools.{Definition, telling_words, opened_by, is_end}
use Rattle.geo_tool.specs.Uses.{used_by}

-- the tools that are defined, the first one first, and the one whose body is open
pub record Bench : Type 0 where
  pub tools : List Definition
  pub begun : Option Definition

abbrev pub empty_bench : Bench
empty_bench = record { tools = []; begun = None }

abbrev pub with_line : Definition → List ℕ → Definition
with_line tool line = record { name = tool.name; arity = tool.arity; body = tool.body ++ line ∷ [] }

-- the body is closed, and the tool is defined
abbrev pub closed : List Definition → Definition → Bench
closed tools tool = record { tools = tools ++ tool ∷ []; begun = None }

-- a body of 32 lines is closed
abbrev pub kept_open : List Definition → Definition → Bench
kept_open tools tool = if nat_lt (length tool.body) 32 then record { tools = tools; begun = Some tool } else closed tools tool

abbrev pub bench_after_line : List Definition → Option Definition → List ℕ → Bench
bench_after_line tools None line = record { tools = tools; begun = opened_by tools (telling_words line) }
bench_after_line tools (Some tool) line = if is_end (telling_words line) then closed tools tool else kept_open tools (with_line tool line)

-- the bench once the line has come
abbrev pub after_line : Bench → List ℕ → Bench
after_line bench line = bench_after_line bench.tools bench.begun line

-- the lines that a line gives: none where it opens a body or stands in one
abbrev pub given_in : List Definition → Option Definition → List ℕ → List (List ℕ)
given_in tools None line = if is_some (opened_by tools (telling_words line)) then [] else unwrap_or (used_by tools (telling_words line)) (line ∷ [])
given_in tools (Some tool) line = []

abbrev pub given_by : Bench → List ℕ → List (List ℕ)
given_by bench line = given_in bench.tools bench.begun line

-- the bench once these lines have come, one after another
abbrev pub bench_from : Bench → List (List ℕ) → Bench
bench_from bench [] = bench
bench_from bench (line ∷ lines) = bench_from (after_line bench line) lines

-- what these lines give, one after another
abbrev pub expansion_from : Bench → List (List ℕ) → List (List ℕ)
expansion_from bench [] = []
expansion_from bench (line ∷ lines) = given_by bench line ++ expansion_from (after_line bench line) lines

abbrev pub bench_after : List (List ℕ) → Bench
bench_after lines = bench_from empty_bench lines

abbrev pub expansion_of : List (List ℕ) → List (List ℕ)
expansion_of lines = expansion_from empty_bench lines

-- the first of the words is `tool`
abbrev pub begins_tool : List (List ℕ) → Bool
begins_tool [] = false
begins_tool (first ∷ ws) = bytes_eq first (codes "tool")
