-- What an expression says of a sketch: elements for its names, or the first refusal that applies:
-- unknown, kind, great, in this order.
use Rattle.std.specs.Prelude.{ℕ, ◌&&◌, nat_lt, if◌then◌else◌, Bool, false, Option, None, Some, option_map, Result, Ok, Err, List}
use Rattle.std.specs.List.{list_all}
use Rattle.geo_sketch.specs.declared.changes.Refusal.{Refusal}
use Rattle.geo_sketch.specs.declared.changes.Refusal.TheVariants as refusal
use Rattle.geo_sketch.specs.declared.elements.Element.{Element}
use Rattle.geo_sketch.specs.declared.elements.Kind.{Kind}
use Rattle.geo_sketch.specs.Additions.{same_kind}
use Rattle.geo_sketch.specs.Lookups.{kind_at, number_named}
use Rattle.geo_sketch.specs.PlainHeights.{threes}
use Rattle.geo_triple.specs.declared.limits.TheConstants.{STATEMENT_LIMIT}
use Rattle.geo_bracket.specs.declared.expressions.Bracket.{Bracket}
use Rattle.geo_bracket.specs.Expressions.{Terms, expression_height}
use Rattle.geo_bracket.specs.Grammar.{SaidTerms, all_read, said_of}
use Rattle.geo_bracket.specs.Terms.{Product}

-- ---- numbers for names
abbrev pub numbered_by : Option ℕ → Option ℕ → Option ℕ → Option (Bracket ℕ)
numbered_by (Some a) (Some b) (Some c) = Some (record { first = a; second = b; third = c })
numbered_by a b c = None

abbrev pub numbers_of_bracket : List Element → Bracket (List ℕ) → Option (Bracket ℕ)
numbers_of_bracket es b = numbered_by (number_named es b.first) (number_named es b.second) (number_named es b.third)

abbrev pub numbers_of_term : List Element → Product (Bracket (List ℕ)) → Option (Product (Bracket ℕ))
numbers_of_term es t = option_map (λ bs. record { number = t.number; brackets = bs }) (all_read (numbers_of_bracket es) t.brackets)

abbrev pub numbers_of : List Element → SaidTerms → Option Terms
numbers_of es ts = all_read (numbers_of_term es) ts

-- ---- kinds
abbrev pub are_same_kinds : Option Kind → Option Kind → Option Kind → Bool
are_same_kinds (Some a) (Some b) (Some c) = same_kind b a && same_kind c a
are_same_kinds a b c = false

abbrev pub is_of_one_kind : List Element → Bracket ℕ → Bool
is_of_one_kind es b = are_same_kinds (kind_at es b.first) (kind_at es b.second) (kind_at es b.third)

abbrev pub are_of_one_kind : List Element → Terms → Bool
are_of_one_kind es ts = list_all (λ (t : Product (Bracket ℕ)). list_all (is_of_one_kind es) t.brackets) ts

-- ---- its height with all magnitudes 3 is greater than 2^126
abbrev pub is_great : List Element → Terms → Bool
is_great es ts = nat_lt STATEMENT_LIMIT (expression_height es ts threes)

-- ---- what is answered
abbrev pub judged : List Element → Terms → Result Terms Refusal
judged es ts = if are_of_one_kind es ts then (if is_great es ts then Err refusal.Great else Ok ts) else Err refusal.Kind

abbrev pub known : List Element → Option Terms → Result Terms Refusal
known es None = Err refusal.Unknown
known es (Some ts) = judged es ts

abbrev pub resolved : List Element → SaidTerms → Result Terms Refusal
resolved es ts = known es (numbers_of es ts)

abbrev pub expression_said : List Element → Result SaidTerms Refusal → Result Terms Refusal
expression_said es (Err r) = Err r
expression_said es (Ok ts) = resolved es ts

-- what a line whose first word is `zero` asks about, or its first refusal
abbrev pub expression_of : List Element → List ℕ → Result Terms Refusal
expression_of es line = expression_said es (said_of line)
