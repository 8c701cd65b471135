-- Lines that are cut expand as whole ones do.
use Rattle.std.proofs.Common.{◌≡◌, ◌∙◌, refl, sym, ap, ℕ, ◌++◌, ◌≤◌, ◌<◌, Bool, true, false, ◌⊎◌, inl, inr, Option, None, Some, is_some, List, [], ◌∷◌, length, map, take, if◌then◌else◌, arith}
use Rattle.std.specs.Prelude.{unwrap_or, option_map, nat_lt, nat_eq, is_none, codes, ◌&&◌}
use Rattle.std.specs.Str.{bytes_eq}
use Rattle.std.proofs.lemmas.Bool.Decides.{nat_tests}
use Rattle.std.proofs.lemmas.List.{length-map, map-append, length-take, take_all}
use Rattle.geo_tool.specs.Tools.{Definition, arity_of, is_end, is_ordinary, may_be_defined, opened_by, telling_words, tool_named}
use Rattle.geo_tool.specs.Uses.{changed_line, lines_of_use, used_by}
use Rattle.geo_tool.specs.Expansion.{Bench, after_line, bench_after_line, closed, empty_bench, expansion_from, expansion_of, given_by, given_in, kept_open, with_line}

abbrev pub cut : List ℕ → List ℕ
cut line = take 201 line

abbrev cut_tool : Definition → Definition
cut_tool tool = record { name = tool.name; arity = tool.arity; body = map cut tool.body }

abbrev cut_bench : Bench → Bench
cut_bench bench = record { tools = map cut_tool bench.tools; begun = option_map cut_tool bench.begun }

long_ordinary : (line : List ℕ) → 200 < length line → is_ordinary line ≡ true
long_ordinary line long = let test : nat_lt 200 (length line) ≡ true = grind (arith, nat_tests) in rw test refl

-- a line is whole, or it is ordinary, cut or not
whole_or_ordinary : (line : List ℕ) → (cut line ≡ line) ⊎ ((is_ordinary line ≡ true) × (is_ordinary (cut line) ≡ true))
whole_or_ordinary line = by_length (nat_lt 200 (length line)) refl
  where
    by_length : (b : Bool) → nat_lt 200 (length line) ≡ b → (cut line ≡ line) ⊎ ((is_ordinary line ≡ true) × (is_ordinary (cut line) ≡ true))
    by_length true e =
        let long : 200 < length line = grind (arith, nat_tests, e) in
        inr (long_ordinary line long, long_ordinary (cut line) (omega (arith, length-take 201 line, long)))
    by_length false e = let short : length line ≤ 201 = grind (arith, nat_tests, e) in inl (take_all 201 line short)

cut_twice : (line : List ℕ) → cut (cut line) ≡ cut line
cut_twice line = take_all 201 (cut line) (omega (arith, length-take 201 line))

telling_cut : (line : List ℕ) → telling_words (cut line) ≡ telling_words line
unfolding telling_words
telling_cut line = by_case (whole_or_ordinary line)
  where
    by_case : (cut line ≡ line) ⊎ ((is_ordinary line ≡ true) × (is_ordinary (cut line) ≡ true)) → telling_words (cut line) ≡ telling_words line
    by_case (inl whole) = ap telling_words whole
    by_case (inr (long, cut_long)) = rw (long, cut_long) refl

changed_cut : (prefix : List ℕ) (others : List (List ℕ)) (line : List ℕ) → cut (changed_line prefix others (cut line)) ≡ cut (changed_line prefix others line)
unfolding changed_line
changed_cut prefix others line = by_case (whole_or_ordinary line)
  where
    by_case : (cut line ≡ line) ⊎ ((is_ordinary line ≡ true) × (is_ordinary (cut line) ≡ true)) → cut (changed_line prefix others (cut line)) ≡ cut (changed_line prefix others line)
    by_case (inl whole) = ap (λ l. cut (changed_line prefix others l)) whole
    by_case (inr (long, cut_long)) = rw (long, cut_long) (cut_twice line)

all_changed_cut : (prefix : List ℕ) (others body : List (List ℕ)) → map cut (map (changed_line prefix others) (map cut body)) ≡ map cut (map (changed_line prefix others) body)
all_changed_cut prefix others [] = refl
all_changed_cut prefix others (line ∷ body) =
    ap (λ l. l ∷ map cut (map (changed_line prefix others) (map cut body))) (changed_cut prefix others line) ∙ ap (λ ls. cut (changed_line prefix others line) ∷ ls) (all_changed_cut prefix others body)

-- ---- tools
named_cut : (tools : List Definition) (name : List ℕ) → tool_named (map cut_tool tools) name ≡ option_map cut_tool (tool_named tools name)
named_cut [] name = refl
named_cut (tool ∷ tools) name = by_case (bytes_eq tool.name name) (named_cut tools name)
  where
    by_case : (b : Bool) → tool_named (map cut_tool tools) name ≡ option_map cut_tool (tool_named tools name) → (if b then Some (cut_tool tool) else tool_named (map cut_tool tools) name) ≡ option_map cut_tool (if b then Some tool else tool_named tools name)
    by_case true later = refl
    by_case false later = later

none_cut : (found : Option Definition) → is_none (option_map cut_tool found) ≡ is_none found
none_cut None = refl
none_cut (Some tool) = refl

may_cut : (tools : List Definition) (name : List ℕ) → may_be_defined (map cut_tool tools) name ≡ may_be_defined tools name
may_cut tools name = rw (named_cut tools name, none_cut (tool_named tools name), length-map tools cut_tool) refl

opened_cut : (tools : List Definition) (ws : List (List ℕ)) → opened_by (map cut_tool tools) ws ≡ option_map cut_tool (opened_by tools ws)
opened_cut tools [] = refl
opened_cut tools (a ∷ []) = refl
opened_cut tools (a ∷ b ∷ []) = refl
opened_cut tools (a ∷ b ∷ c ∷ []) =
    ap (λ may. if bytes_eq a (codes "tool") && may then option_map (λ k. record { name = b; arity = k; body = [] }) (arity_of c) else None) (may_cut tools b) ∙ by_case (bytes_eq a (codes "tool") && may_be_defined tools b) (arity_of c)
  where
    by_case : (may : Bool) (arity : Option ℕ) → (if may then option_map (λ k. record { name = b; arity = k; body = [] }) arity else None) ≡ option_map cut_tool (if may then option_map (λ k. record { name = b; arity = k; body = [] }) arity else None)
    by_case true (Some k) = refl
    by_case true None = refl
    by_case false arity = refl
opened_cut tools (a ∷ b ∷ c ∷ d ∷ ws) = refl

abbrev cut_all : Option (List (List ℕ)) → Option (List (List ℕ))
cut_all given = option_map (map cut) given

lines_cut : (found : Option Definition) (prefix : List ℕ) (others : List (List ℕ)) → cut_all (lines_of_use (option_map cut_tool found) prefix others) ≡ cut_all (lines_of_use found prefix others)
lines_cut None prefix others = refl
lines_cut (Some tool) prefix others = by_case (nat_eq (length others) tool.arity)
  where
    by_case : (b : Bool) → cut_all (if b then Some (map (changed_line prefix others) (map cut tool.body)) else None) ≡ cut_all (if b then Some (map (changed_line prefix others) tool.body) else None)
    by_case true = ap Some (all_changed_cut prefix others tool.body)
    by_case false = refl

used_cut : (tools : List Definition) (ws : List (List ℕ)) → cut_all (used_by (map cut_tool tools) ws) ≡ cut_all (used_by tools ws)
used_cut tools [] = refl
used_cut tools (a ∷ []) = refl
used_cut tools (a ∷ b ∷ []) = refl
used_cut tools (a ∷ b ∷ c ∷ ws) = rw (named_cut tools b) (by_case _)
  where
    by_case : (may : Bool) → cut_all (if may then lines_of_use (option_map cut_tool (tool_named tools b)) c ws else None) ≡ cut_all (if may then lines_of_use (tool_named tools b) c ws else None)
    by_case true = lines_cut (tool_named tools b) c ws
    by_case false = refl

-- ---- a line
abbrev given_words : List Definition → List (List ℕ) → List ℕ → List (List ℕ)
given_words tools ws line = if is_some (opened_by tools ws) then [] else unwrap_or (used_by tools ws) (line ∷ [])

is_some_cut : (found : Option Definition) → is_some (option_map cut_tool found) ≡ is_some found
is_some_cut None = refl
is_some_cut (Some tool) = refl

given_or_itself : (opened : Bool) (used used' : Option (List (List ℕ))) (line line' : List ℕ) → cut_all used ≡ cut_all used' → cut line ≡ cut line' → map cut (if opened then [] else unwrap_or used (line ∷ [])) ≡ map cut (if opened then [] else unwrap_or used' (line' ∷ []))
given_or_itself true used used' line line' u e = refl
given_or_itself false None None line line' u e = ap (λ l. l ∷ []) e
given_or_itself false None (Some ls) line line' u e = absurd (cc)
given_or_itself false (Some ls) None line line' u e = absurd (cc)
given_or_itself false (Some ls) (Some ls') line line' u e = some_injective u
  where
    some_injective : {X : Type 0} {x y : X} → Some x ≡ Some y → x ≡ y
    some_injective u = cc

given_cut : (tools : List Definition) (begun : Option Definition) (line : List ℕ) → map cut (given_in (map cut_tool tools) (option_map cut_tool begun) (cut line)) ≡ map cut (given_in tools begun line)
given_cut tools (Some tool) line = refl
given_cut tools None line =
    let ws = telling_words line in
    rw (telling_cut line, opened_cut tools ws, is_some_cut (opened_by tools ws)) (given_or_itself (is_some (opened_by tools ws)) (used_by (map cut_tool tools) ws) (used_by tools ws) (cut line) line (used_cut tools ws) (cut_twice line))

with_cut : (tool : Definition) (line : List ℕ) → with_line (cut_tool tool) (cut line) ≡ cut_tool (with_line tool line)
with_cut tool line = ap (λ b. record { name = tool.name; arity = tool.arity; body = b }) (sym (map-append cut tool.body (line ∷ [])))

closed_cut : (tools : List Definition) (tool : Definition) → closed (map cut_tool tools) (cut_tool tool) ≡ cut_bench (closed tools tool)
closed_cut tools tool = ap (λ ts. record { tools = ts; begun = None }) (sym (map-append cut_tool tools (tool ∷ [])))

kept_cut : (tools : List Definition) (tool : Definition) → kept_open (map cut_tool tools) (cut_tool tool) ≡ cut_bench (kept_open tools tool)
kept_cut tools tool = rw (length-map tool.body cut) (by_case (nat_lt (length tool.body) 32))
  where
    by_case : (b : Bool) → (if b then record { tools = map cut_tool tools; begun = Some (cut_tool tool) } else closed (map cut_tool tools) (cut_tool tool)) ≡ cut_bench (if b then record { tools = tools; begun = Some tool } else closed tools tool)
    by_case true = refl
    by_case false = closed_cut tools tool

after_cut : (tools : List Definition) (begun : Option Definition) (line : List ℕ) → bench_after_line (map cut_tool tools) (option_map cut_tool begun) (cut line) ≡ cut_bench (bench_after_line tools begun line)
after_cut tools None line = rw (telling_cut line) (ap (λ b. record { tools = map cut_tool tools; begun = b }) (opened_cut tools (telling_words line)))
after_cut tools (Some tool) line =
    ap (λ ws. if is_end ws then closed (map cut_tool tools) (cut_tool tool) else kept_open (map cut_tool tools) (with_line (cut_tool tool) (cut line))) (telling_cut line)
    ∙ ap (λ t. if is_end (telling_words line) then closed (map cut_tool tools) (cut_tool tool) else kept_open (map cut_tool tools) t) (with_cut tool line)
    ∙ by_case (is_end (telling_words line))
  where
    by_case : (b : Bool) → (if b then closed (map cut_tool tools) (cut_tool tool) else kept_open (map cut_tool tools) (cut_tool (with_line tool line))) ≡ cut_bench (if b then closed tools tool else kept_open tools (with_line tool line))
    by_case true = closed_cut tools tool
    by_case false = kept_cut tools (with_line tool line)

-- ---- all lines
from_cut : (bench : Bench) (lines : List (List ℕ)) → map cut (expansion_from (cut_bench bench) (map cut lines)) ≡ map cut (expansion_from bench lines)
from_cut bench [] = refl
from_cut bench (line ∷ lines) =
    let given' = given_by (cut_bench bench) (cut line) in
    let rest' = expansion_from (after_line (cut_bench bench) (cut line)) (map cut lines) in
    map-append cut given' rest'
    ∙ ap (λ g. g ++ map cut rest') (given_cut bench.tools bench.begun line)
    ∙ ap (λ b. map cut (given_by bench line) ++ map cut (expansion_from b (map cut lines))) (after_cut bench.tools bench.begun line)
    ∙ ap (λ r. map cut (given_by bench line) ++ r) (from_cut (after_line bench line) lines)
    ∙ sym (map-append cut (given_by bench line) (expansion_from (after_line bench line) lines))

pub expansion_cut : (lines : List (List ℕ)) → map cut (expansion_of (map cut lines)) ≡ map cut (expansion_of lines)
expansion_cut lines = from_cut empty_bench lines
