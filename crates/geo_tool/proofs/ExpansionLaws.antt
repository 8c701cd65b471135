-- Expansions of lists in two parts, and of those without a tool.
use Rattle.std.proofs.Common.{◌≡◌, ◌∙◌, refl, sym, ap, ℕ, ◌++◌, Bool, true, false, Option, None, is_some, List, [], ◌∷◌, if◌then◌else◌}
use Rattle.std.specs.Prelude.{unwrap_or}
use Rattle.std.specs.List.{AllByRecursion}
use Rattle.std.proofs.lemmas.List.{append-nil, append_assoc}
use Rattle.geo_parse.specs.Words.{words}
use Rattle.geo_tool.specs.Tools.{Definition, is_ordinary, opened_by, telling_words}
use Rattle.geo_tool.specs.Uses.{used_by}
use Rattle.geo_tool.specs.Expansion.{Bench, after_line, begins_tool, bench_after, bench_from, empty_bench, expansion_from, expansion_of, given_by}

pub bench_both : (bench : Bench) (front back : List (List ℕ)) → bench_from bench (front ++ back) ≡ bench_from (bench_from bench front) back
bench_both bench [] back = refl
bench_both bench (line ∷ front) back = bench_both (after_line bench line) front back

pub expansion_both : (bench : Bench) (front back : List (List ℕ)) → expansion_from bench (front ++ back) ≡ expansion_from bench front ++ expansion_from (bench_from bench front) back
expansion_both bench [] back = refl
expansion_both bench (line ∷ front) back =
    ap (λ lines. given_by bench line ++ lines) (expansion_both (after_line bench line) front back)
    ∙ sym (append_assoc (given_by bench line) (expansion_from (after_line bench line) front) (expansion_from (bench_from (after_line bench line) front) back))

pub expansion_last : (lines : List (List ℕ)) (line : List ℕ) → expansion_of (lines ++ line ∷ []) ≡ expansion_of lines ++ given_by (bench_after lines) line
expansion_last lines line =
    expansion_both empty_bench lines (line ∷ []) ∙ ap (λ given. expansion_of lines ++ given) (append-nil (given_by (bench_after lines) line))

-- words of which the first is not `tool` open no body
opens_none : (ws : List (List ℕ)) → begins_tool ws ≡ false → opened_by [] ws ≡ None
opens_none [] h = refl
opens_none (a ∷ []) h = refl
opens_none (a ∷ b ∷ []) h = refl
opens_none (a ∷ b ∷ c ∷ []) h = rw h refl
opens_none (a ∷ b ∷ c ∷ d ∷ ws) h = refl

either_way : (b : Bool) (given : Option (List (List ℕ))) → (if b then given else given) ≡ given
either_way true given = refl
either_way false given = refl

-- where there is no tool, none is used
uses_none : (ws : List (List ℕ)) → used_by [] ws ≡ None
uses_none [] = refl
uses_none (a ∷ []) = refl
uses_none (a ∷ b ∷ []) = refl
uses_none (a ∷ b ∷ c ∷ ws) = either_way _ None

either_begins : (b : Bool) (ws : List (List ℕ)) → begins_tool ws ≡ false → begins_tool (if b then [] else ws) ≡ false
either_begins true ws h = refl
either_begins false ws h = h

telling : (line : List ℕ) → begins_tool (words line) ≡ false → begins_tool (telling_words line) ≡ false
unfolding telling_words
telling line h = either_begins (is_ordinary line) (words line) h

-- a script in which no line begins with `tool` stays
pub stays : (lines : List (List ℕ)) → AllByRecursion (λ line. begins_tool (words line) ≡ false) lines → expansion_of lines ≡ lines
stays [] h = refl
stays (line ∷ lines) h =
    let bench_with : Option Definition → Bench = λ begun. record { tools = []; begun = begun } in
    ap (λ begun. (if is_some begun then [] else unwrap_or (used_by [] (telling_words line)) (line ∷ [])) ++ expansion_from (bench_with begun) lines) (opens_none (telling_words line) (telling line h.0))
    ∙ ap (λ used. unwrap_or used (line ∷ []) ++ expansion_of lines) (uses_none (telling_words line))
    ∙ ap (λ others. line ∷ others) (stays lines h.1)
