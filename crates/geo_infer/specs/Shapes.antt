-- What a step asks for: premises, side condition and conclusion, or the first refusal that
-- applies: unknown, kind, repeat, in this order.
use Rattle.std.specs.Prelude.{ℕ, ◌==◌, ◌&&◌, ◌||◌, min, max, if◌then◌else◌, Bool, Option, None, Some, Result, Ok, Err, List, [], ◌∷◌, map}
use Rattle.geo_sketch.specs.declared.changes.Refusal.{Refusal}
use Rattle.geo_sketch.specs.declared.changes.Refusal.TheVariants as refusal
use Rattle.geo_sketch.specs.declared.elements.Element.{Element}
use Rattle.geo_sketch.specs.declared.elements.Kind.{Kind}
use Rattle.geo_sketch.specs.declared.statements.Statement.{Statement}
use Rattle.geo_sketch.specs.declared.statements.Statement.TheVariants as statement
use Rattle.geo_sketch.specs.Additions.{same_kind}
use Rattle.geo_sketch.specs.Claims.{least, middle, greatest}
use Rattle.geo_sketch.specs.Lookups.{find_named}
use Rattle.geo_sketch.specs.Sketches.{other, ArePosed, IsPosed}
use Rattle.geo_infer.specs.declared.rules.Rule.{Rule}
use Rattle.geo_infer.specs.declared.rules.Rule.TheVariants.{Span, Extend, Lie, Unique, Move}
use Rattle.geo_infer.specs.declared.rules.SaidStep.{SaidStep}
use Rattle.geo_infer.specs.declared.shapes.Shape.{Shape}
use Rattle.geo_infer.specs.Words.{names_four}

-- ---- the numbers of a statement in rising order
abbrev pub rising_same : ℕ → ℕ → Statement
rising_same n m = statement.Same (min n m) (max n m)

abbrev pub rising_on : ℕ → ℕ → Statement
rising_on n m = statement.On (min n m) (max n m)

abbrev pub rising_triple : ℕ → ℕ → ℕ → Statement
rising_triple n m k = statement.Triple (least n m k) (middle n m k) (greatest n m k)

abbrev pub rising : Statement → Statement
rising (statement.Null n) = statement.Null n
rising (statement.Same n m) = rising_same n m
rising (statement.On n m) = rising_on n m
rising (statement.Triple n m k) = rising_triple n m k

-- ---- the rules
abbrev pub in_rising_order : List Statement → Statement → Statement → Shape
in_rising_order premises side conclusion = record { premises = map rising premises; side = rising side; conclusion = rising conclusion }

-- the rule for the elements with these numbers, as they are said; Move has three
abbrev pub shape_by : Rule → ℕ → ℕ → ℕ → ℕ → Shape
shape_by Span p q r l =
    in_rising_order (statement.On p l ∷ statement.On q l ∷ statement.On r l ∷ []) (statement.Null l) (statement.Triple p q r)
shape_by Extend p q r s =
    in_rising_order (statement.Triple p q r ∷ statement.Triple p q s ∷ []) (statement.Same p q) (statement.Triple p r s)
shape_by Lie p q r l =
    in_rising_order (statement.Triple p q r ∷ statement.On p l ∷ statement.On q l ∷ []) (statement.Same p q) (statement.On r l)
shape_by Unique p q l m =
    in_rising_order (statement.On p l ∷ statement.On p m ∷ statement.On q l ∷ statement.On q m ∷ []) (statement.Same l m) (statement.Same p q)
shape_by Move p q l none =
    in_rising_order (statement.Same p q ∷ statement.On p l ∷ []) (statement.Null p) (statement.On q l)

-- ---- kinds and repeated names, where the first element has this kind
abbrev pub third_kind : Rule → Kind → Kind
third_kind Span kind = kind
third_kind Extend kind = kind
third_kind Lie kind = kind
third_kind Unique kind = other kind
third_kind Move kind = other kind

abbrev pub fourth_kind : Rule → Kind → Kind
fourth_kind Span kind = other kind
fourth_kind Extend kind = kind
fourth_kind Lie kind = other kind
fourth_kind Unique kind = other kind
fourth_kind Move kind = other kind

-- the second element is of the first one's kind, and the others as the rule wants them
abbrev pub fits : Rule → Element → Element → Element → Element → Bool
fits rule p q r s = same_kind q.kind p.kind && (same_kind r.kind (third_kind rule p.kind) && same_kind s.kind (fourth_kind rule p.kind))

abbrev pub repeats : Rule → ℕ → ℕ → ℕ → ℕ → Bool
repeats rule p q r s = (p == q) || ((p == r) || ((q == r) || (names_four rule && ((p == s) || ((q == s) || (r == s))))))

-- ---- what is said
abbrev pub shape_unless : Rule → Element → Element → Element → Element → Result Shape Refusal
shape_unless rule p q r s =
    if fits rule p q r s then (if repeats rule p.number q.number r.number s.number then Err refusal.Repeat else Ok (shape_by rule p.number q.number r.number s.number)) else Err refusal.Kind

abbrev pub shape_found : Rule → Option Element → Option Element → Option Element → Option Element → Result Shape Refusal
shape_found rule None q r s = Err refusal.Unknown
shape_found rule (Some p) None r s = Err refusal.Unknown
shape_found rule (Some p) (Some q) None s = Err refusal.Unknown
shape_found rule (Some p) (Some q) (Some r) None = Err refusal.Unknown
shape_found rule (Some p) (Some q) (Some r) (Some s) = shape_unless rule p q r s

-- what is said fourth; where nothing is, the third again
abbrev pub fourth_said : Option (List ℕ) → List ℕ → List ℕ
fourth_said None c = c
fourth_said (Some d) c = d

abbrev pub shape_of : List Element → SaidStep → Result Shape Refusal
shape_of es said = shape_found said.rule (find_named es said.a) (find_named es said.b) (find_named es said.c) (find_named es (fourth_said said.d said.c))

abbrev pub IsPosedShape : List Element → Shape → Type 0
IsPosedShape es shape = ArePosed es shape.premises × IsPosed es shape.side × IsPosed es shape.conclusion
