-- Bodies have at most 32 lines, and so a line gives at most 32.
use Rattle.std.proofs.Common.{◌≡◌, refl, ℕ, ◌*◌, ◌<◌, ◌≤◌, ◌++◌, Bool, true, false, Option, None, Some, List, [], ◌∷◌, length, map, if◌then◌else◌, arith, length-append}
use Rattle.std.specs.Prelude.{IfSome, option_map, nat_lt, nat_eq, is_some, unwrap_or, codes, ◌&&◌}
use Rattle.std.specs.List.{AllByRecursion}
use Rattle.std.specs.Str.{bytes_eq}
use Rattle.std.proofs.lemmas.List.{length-map}
use Rattle.std.proofs.lemmas.Bool.{ltb-true}
use Rattle.geo_sketch.specs.Names.{is_name}
use Rattle.geo_tool.specs.Tools.{Definition, arity_of, is_end, may_be_defined, opened_by, telling_words, tool_named}
use Rattle.geo_tool.specs.Uses.{changed_line, lines_of_use, used_by}
use Rattle.geo_tool.specs.Expansion.{Bench, after_line, bench_after, bench_after_line, bench_from, closed, empty_bench, expansion_from, expansion_of, given_by, given_in, kept_open, with_line}

abbrev IsShort : Definition → Type 0
IsShort tool = length tool.body ≤ 32

-- there is room for one more line
abbrev HasRoom : Definition → Type 0
HasRoom tool = length tool.body < 32

record AreShort (bench : Bench) : Type 0 where
  tools : AllByRecursion IsShort bench.tools
  begun : IfSome bench.begun HasRoom

-- what holds of both ways holds of either
either_way : {X : Type 0} (P : X → Type 0) (b : Bool) (x y : X) → P x → P y → P (if b then x else y)
either_way P true x y p q = p
either_way P false x y p q = q

named_short : (tools : List Definition) (name : List ℕ) → AllByRecursion IsShort tools → IfSome (tool_named tools name) IsShort
named_short [] name h = tt
named_short (tool ∷ tools) name h =
    either_way (λ found. IfSome found IsShort) (bytes_eq tool.name name) (Some tool) (tool_named tools name) h.0 (named_short tools name h.1)

lines_short : (found : Option Definition) (prefix : List ℕ) (others : List (List ℕ)) → IfSome found IsShort → IfSome (lines_of_use found prefix others) (λ lines. length lines ≤ 32)
lines_short None prefix others h = tt
lines_short (Some tool) prefix others h =
    either_way (λ given. IfSome given (λ lines. length lines ≤ 32)) (nat_eq (length others) tool.arity) (Some (map (changed_line prefix others) tool.body)) None
    (omega (arith, h, length-map tool.body (changed_line prefix others))) tt

used_short : (tools : List Definition) (ws : List (List ℕ)) → AllByRecursion IsShort tools → IfSome (used_by tools ws) (λ lines. length lines ≤ 32)
used_short tools [] h = tt
used_short tools (a ∷ []) h = tt
used_short tools (a ∷ b ∷ []) h = tt
used_short tools (a ∷ b ∷ c ∷ ws) h =
    either_way (λ given. IfSome given (λ lines. length lines ≤ 32)) (bytes_eq a (codes "use") && is_name c) (lines_of_use (tool_named tools b) c ws) None
    (lines_short (tool_named tools b) c ws (named_short tools b h)) tt

empty_room : (name : List ℕ) (arity : Option ℕ) → IfSome (option_map (λ k. record { name = name; arity = k; body = [] }) arity) HasRoom
empty_room name None = tt
empty_room name (Some k) = omega arith

opened_room : (tools : List Definition) (ws : List (List ℕ)) → IfSome (opened_by tools ws) HasRoom
opened_room tools [] = tt
opened_room tools (a ∷ []) = tt
opened_room tools (a ∷ b ∷ []) = tt
opened_room tools (a ∷ b ∷ c ∷ []) =
    either_way (λ opened. IfSome opened HasRoom) (bytes_eq a (codes "tool") && may_be_defined tools b) (option_map (λ k. record { name = b; arity = k; body = [] }) (arity_of c)) None
    (empty_room b (arity_of c)) tt
opened_room tools (a ∷ b ∷ c ∷ d ∷ ws) = tt

closed_short : (tools : List Definition) (tool : Definition) → AllByRecursion IsShort tools → IsShort tool → AllByRecursion IsShort (tools ++ tool ∷ [])
closed_short [] tool h short = (short, tt)
closed_short (t ∷ tools) tool h short = (h.0, closed_short tools tool h.1 short)

-- a longer body is kept open, or closed where it is full
kept_short : (b : Bool) (tools : List Definition) (tool : Definition) → nat_lt (length tool.body) 32 ≡ b → AllByRecursion IsShort tools → length tool.body ≤ 32
    → AreShort (if b then record { tools = tools; begun = Some tool } else closed tools tool)
kept_short true tools tool room h short = record { tools = h; begun = ltb-true (length tool.body) 32 room }
kept_short false tools tool room h short = record { tools = closed_short tools tool h short; begun = tt }

after_short : (tools : List Definition) (begun : Option Definition) (line : List ℕ) → AllByRecursion IsShort tools → IfSome begun HasRoom → AreShort (bench_after_line tools begun line)
after_short tools None line h room = record { tools = h; begun = opened_room tools (telling_words line) }
after_short tools (Some tool) line h room =
    either_way AreShort (is_end (telling_words line)) (closed tools tool) (kept_open tools (with_line tool line))
    (record { tools = closed_short tools tool h (omega (arith, room)); begun = tt })
    (kept_short (nat_lt (length (with_line tool line).body) 32) tools (with_line tool line) refl h (omega (arith, room, length-append tool.body (line ∷ []))))

few_or_one : (given : Option (List (List ℕ))) (line : List ℕ) → IfSome given (λ lines. length lines ≤ 32) → length (unwrap_or given (line ∷ [])) ≤ 32
few_or_one None line h = omega arith
few_or_one (Some lines) line h = h

given_few : (tools : List Definition) (begun : Option Definition) (line : List ℕ) → AllByRecursion IsShort tools → length (given_in tools begun line) ≤ 32
given_few tools None line h =
    either_way (λ lines. length lines ≤ 32) (is_some (opened_by tools (telling_words line))) [] (unwrap_or (used_by tools (telling_words line)) (line ∷ []))
    (omega arith) (few_or_one (used_by tools (telling_words line)) line (used_short tools (telling_words line) h))
given_few tools (Some tool) line h = omega arith

bench_short : (bench : Bench) (lines : List (List ℕ)) → AreShort bench → AreShort (bench_from bench lines)
bench_short bench [] short = short
bench_short bench (line ∷ lines) short = bench_short (after_line bench line) lines (after_short bench.tools bench.begun line short.tools short.begun)

expansion_few : (bench : Bench) (lines : List (List ℕ)) → AreShort bench → length (expansion_from bench lines) ≤ 32 * length lines
expansion_few bench [] short = omega arith
expansion_few bench (line ∷ lines) short =
    let here = given_few bench.tools bench.begun line short.tools in
    let others = expansion_few (after_line bench line) lines (after_short bench.tools bench.begun line short.tools short.begun) in
    omega (arith, here, others, length-append (given_by bench line) (expansion_from (after_line bench line) lines))

empty_short : AreShort empty_bench
empty_short = record { tools = tt; begun = tt }

-- each line gives at most 32
pub each_few : (lines : List (List ℕ)) (line : List ℕ) → length (given_by (bench_after lines) line) ≤ 32
each_few lines line = let bench = bench_after lines in given_few bench.tools bench.begun line (bench_short empty_bench lines empty_short).tools

pub all_few : (lines : List (List ℕ)) → length (expansion_of lines) ≤ 32 * length lines
all_few lines = expansion_few empty_bench lines empty_short
