-- What a statement of a script means in a sketch, and what claiming it makes, or the
-- first refusal that applies: unknown, kind, full, repeat, in this order.
use Rattle.std.specs.Prelude.{ℕ, ◌==◌, ◌&&◌, ◌||◌, nat_le, min, max, if◌then◌else◌, Bool, false, Option, None, Some, Result, Ok, Err, List, [], ◌∷◌, length}
use Rattle.geo_sketch.specs.declared.elements.Kind.{Kind}
use Rattle.geo_sketch.specs.declared.elements.Kind.TheVariants.{Point, Line}
use Rattle.geo_sketch.specs.declared.elements.Element.{Element}
use Rattle.geo_sketch.specs.declared.statements.Statement.{Statement}
use Rattle.geo_sketch.specs.declared.statements.Statement.TheVariants as statement
use Rattle.geo_sketch.specs.declared.statements.Said.{Said}
use Rattle.geo_sketch.specs.declared.statements.Said.TheVariants as said
use Rattle.geo_sketch.specs.declared.changes.Delta.{Delta}
use Rattle.geo_sketch.specs.declared.changes.Delta.TheVariants as delta
use Rattle.geo_sketch.specs.declared.changes.Refusal.{Refusal}
use Rattle.geo_sketch.specs.declared.changes.Refusal.TheVariants as refusal
use Rattle.geo_sketch.specs.Sketches.{Drawing}
use Rattle.geo_sketch.specs.declared.limits.TheConstants.{CLAIM_LIMIT}
use Rattle.geo_sketch.specs.Additions.{same_kind}
use Rattle.geo_sketch.specs.Lookups.{find_named}

-- ---- what is said, with the numbers in the order of saying: unknown or kind
abbrev pub null_meant : Option Element → Result Statement Refusal
null_meant None = Err refusal.Unknown
null_meant (Some p) = Ok (statement.Null p.number)

-- of two elements of one kind
abbrev pub same_meant : Option Element → Option Element → Result Statement Refusal
same_meant None q = Err refusal.Unknown
same_meant (Some p) None = Err refusal.Unknown
same_meant (Some p) (Some q) = if same_kind p.kind q.kind then Ok (statement.Same p.number q.number) else Err refusal.Kind

-- of a point and a line, the point first
abbrev pub on_meant : Option Element → Option Element → Result Statement Refusal
on_meant None q = Err refusal.Unknown
on_meant (Some p) None = Err refusal.Unknown
on_meant (Some p) (Some q) = if same_kind p.kind Point && same_kind q.kind Line then Ok (statement.On p.number q.number) else Err refusal.Kind

-- of three elements of this kind
abbrev pub triple_meant : Kind → Option Element → Option Element → Option Element → Result Statement Refusal
triple_meant wanted None q r = Err refusal.Unknown
triple_meant wanted (Some p) None r = Err refusal.Unknown
triple_meant wanted (Some p) (Some q) None = Err refusal.Unknown
triple_meant wanted (Some p) (Some q) (Some r) = if same_kind p.kind wanted && (same_kind q.kind wanted && same_kind r.kind wanted) then Ok (statement.Triple p.number q.number r.number) else Err refusal.Kind

abbrev pub meaning_of : List Element → Said → Result Statement Refusal
meaning_of es (said.Null a) = null_meant (find_named es a)
meaning_of es (said.Same a b) = same_meant (find_named es a) (find_named es b)
meaning_of es (said.On a b) = on_meant (find_named es a) (find_named es b)
meaning_of es (said.Collinear a b c) = triple_meant Point (find_named es a) (find_named es b) (find_named es c)
meaning_of es (said.Concurrent a b c) = triple_meant Line (find_named es a) (find_named es b) (find_named es c)

-- ---- with rising numbers
abbrev pub least : ℕ → ℕ → ℕ → ℕ
least n m k = min n (min m k)

abbrev pub middle : ℕ → ℕ → ℕ → ℕ
middle n m k = max (min n m) (min (max n m) k)

abbrev pub greatest : ℕ → ℕ → ℕ → ℕ
greatest n m k = max n (max m k)

-- none where one element is named twice
abbrev pub in_order : Statement → Option Statement
in_order (statement.Null n) = Some (statement.Null n)
in_order (statement.Same n m) = if n == m then None else Some (statement.Same (min n m) (max n m))
in_order (statement.On n m) = if n == m then None else Some (statement.On (min n m) (max n m))
in_order (statement.Triple n m k) = if (n == m) || ((n == k) || (m == k)) then None else Some (statement.Triple (least n m k) (middle n m k) (greatest n m k))

-- repeat, where one element is named twice
abbrev pub ordered : Option Statement → Result Statement Refusal
ordered None = Err refusal.Repeat
ordered (Some c) = Ok c

abbrev pub resolved : Result Statement Refusal → Result Statement Refusal
resolved (Err r) = Err r
resolved (Ok s) = ordered (in_order s)

-- the statement that is said, or unknown, kind or repeat, the first that applies
abbrev pub resolution_of : Drawing → Said → Result Statement Refusal
resolution_of drawing s = resolved (meaning_of drawing.elements s)

-- ---- claiming it
-- both are one statement
abbrev pub same_statement : Statement → Statement → Bool
same_statement (statement.Null n) (statement.Null k) = n == k
same_statement (statement.Null n) (statement.Same k l) = false
same_statement (statement.Null n) (statement.On k l) = false
same_statement (statement.Null n) (statement.Triple k l o) = false
same_statement (statement.Same n m) (statement.Null k) = false
same_statement (statement.Same n m) (statement.Same k l) = (n == k) && (m == l)
same_statement (statement.Same n m) (statement.On k l) = false
same_statement (statement.Same n m) (statement.Triple k l o) = false
same_statement (statement.On n m) (statement.Null k) = false
same_statement (statement.On n m) (statement.Same k l) = false
same_statement (statement.On n m) (statement.On k l) = (n == k) && (m == l)
same_statement (statement.On n m) (statement.Triple k l o) = false
same_statement (statement.Triple n m p) (statement.Null k) = false
same_statement (statement.Triple n m p) (statement.Same k l) = false
same_statement (statement.Triple n m p) (statement.On k l) = false
same_statement (statement.Triple n m p) (statement.Triple k l o) = (n == k) && ((m == l) && (p == o))

-- it is claimed already
abbrev pub is_claimed : List Statement → Statement → Bool
is_claimed [] c = false
is_claimed (x ∷ xs) c = same_statement x c || is_claimed xs c

abbrev pub claiming_ordered : List Statement → Option Statement → Result Delta Refusal
claiming_ordered claims None = Err refusal.Repeat
claiming_ordered claims (Some c) = if is_claimed claims c then Err refusal.Repeat else Ok (delta.Claimed c)

abbrev pub claiming : List Statement → Result Statement Refusal → Result Delta Refusal
claiming claims (Err r) = Err r
claiming claims (Ok s) = if nat_le CLAIM_LIMIT (length claims) then Err refusal.Full else claiming_ordered claims (in_order s)

-- the change that a claim makes, or the first refusal that applies
abbrev pub claim_of : Drawing → Said → Result Delta Refusal
claim_of drawing s = claiming drawing.claims (meaning_of drawing.elements s)
