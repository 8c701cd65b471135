-- Whether a statement is posed, computed: its numbers rise strictly, and they are those of
-- live elements of fitting kinds.
use Rattle.std.specs.Prelude.{◌&&◌, nat_lt, not, Bool, true, false, is_some, Option, None, Some, List}
use Rattle.geo_sketch.specs.declared.elements.Kind.{Kind}
use Rattle.geo_sketch.specs.declared.elements.Element.{Element}
use Rattle.geo_sketch.specs.declared.statements.Statement.{Statement}
use Rattle.geo_sketch.specs.declared.statements.Statement.TheVariants as statement
use Rattle.geo_sketch.specs.Additions.{same_kind}
use Rattle.geo_sketch.specs.Lookups.{kind_at}

-- the numbers in the statement rise strictly
abbrev pub is_rising : Statement → Bool
is_rising (statement.Null n) = true
is_rising (statement.Same n m) = nat_lt n m
is_rising (statement.On n m) = nat_lt n m
is_rising (statement.Triple n m k) = nat_lt n m && nat_lt m k

-- both are there, and the same
abbrev pub of_one_kind : Option Kind → Option Kind → Bool
of_one_kind None q = false
of_one_kind (Some p) None = false
of_one_kind (Some p) (Some q) = same_kind p q

-- both are there, and not the same
abbrev pub of_two_kinds : Option Kind → Option Kind → Bool
of_two_kinds None q = false
of_two_kinds (Some p) None = false
of_two_kinds (Some p) (Some q) = not (same_kind p q)

-- the statement names live elements of fitting kinds
abbrev pub fits : List Element → Statement → Bool
fits es (statement.Null n) = is_some (kind_at es n)
fits es (statement.Same n m) = of_one_kind (kind_at es n) (kind_at es m)
fits es (statement.On n m) = of_two_kinds (kind_at es n) (kind_at es m)
fits es (statement.Triple n m k) = of_one_kind (kind_at es n) (kind_at es m) && of_one_kind (kind_at es n) (kind_at es k)

abbrev pub is_posed : List Element → Statement → Bool
is_posed es s = is_rising s && fits es s
