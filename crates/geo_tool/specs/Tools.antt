-- Tools, and the words that define one.
use Rattle.std.specs.Prelude.{ℕ, ◌-◌, Bool, false, ◌&&◌, ◌||◌, not, nat_le, nat_lt, if◌then◌else◌, List, [], ◌∷◌, length, Option, None, Some, is_none, option_map, codes}
use Rattle.std.specs.Str.{bytes_eq}
use Rattle.std.specs.List.{list_all}
use Rattle.geo_sketch.specs.Names.{is_name}
use Rattle.geo_parse.specs.Words.{words}
use Rattle.geo_parse.specs.Grammar.{is_plain}
use Rattle.geo_parse.specs.declared.limits.TheConstants.{LINE_LIMIT}
use Rattle.geo_tool.specs.declared.limits.TheConstants.{TOOL_LIMIT}

-- a tool: its name, how many words it takes, and the lines of its body
pub record Definition : Type 0 where
  pub name : List ℕ
  pub arity : ℕ
  pub body : List (List ℕ)

-- a line with more than 200 bytes, or with a byte that is not plain
abbrev pub is_ordinary : List ℕ → Bool
is_ordinary line = nat_lt LINE_LIMIT (length line) || not (list_all is_plain line)

-- the words by which a line may be about a tool: none where it is ordinary
unfoldable pub telling_words : List ℕ → List (List ℕ)
telling_words line = if is_ordinary line then [] else words line

-- the first tool with this name
abbrev pub tool_named : List Definition → List ℕ → Option Definition
tool_named [] name = None
tool_named (tool ∷ tools) name = if bytes_eq tool.name name then Some tool else tool_named tools name

-- one digit from 0 to 8; 48 is `0`
abbrev pub arity_of : List ℕ → Option ℕ
arity_of (d ∷ []) = if nat_le 48 d && nat_le d 56 then Some (d - 48) else None
arity_of word = None

-- the name may be a further tool's: no tool has it, and there are fewer than the limit
abbrev pub may_be_defined : List Definition → List ℕ → Bool
may_be_defined tools name = is_name name && (is_none (tool_named tools name) && nat_lt (length tools) TOOL_LIMIT)

-- the tool whose body the words open: `tool`, its name, and how many words it takes
abbrev pub opened_by : List Definition → List (List ℕ) → Option Definition
opened_by tools (first ∷ name ∷ digit ∷ []) =
    if bytes_eq first (codes "tool") && may_be_defined tools name then option_map (λ k. record { name = name; arity = k; body = [] }) (arity_of digit) else None
opened_by tools ws = None

-- the words that close a body
abbrev pub is_end : List (List ℕ) → Bool
is_end (first ∷ []) = bytes_eq first (codes "end")
is_end ws = false
