-- Whether an entry can follow a list of elements that is sound so far, computed. So
-- `Refers`, `IsSmall` and `IsDefined` stand here a second time, each as the test that
-- decides it: contracts are read by the facts, and what is computed needs tests.
use Rattle.std.specs.Prelude.{ℕ, ◌+◌, ◌&&◌, nat_eq, nat_le, nat_lt, if◌then◌else◌, Bool, true, false, ℤ, unsigned_abs, Option, None, Some, List, [], ◌∷◌, ◌++◌, length, sum_by}
use Rattle.geo_sketch.specs.declared.elements.Kind.{Kind}
use Rattle.geo_sketch.specs.declared.elements.Def.{Def}
use Rattle.geo_sketch.specs.declared.elements.Def.TheVariants.{Free, Fixed, Cut, Blend, Cross}
use Rattle.geo_sketch.specs.declared.elements.Element.{Element}
use Rattle.geo_sketch.specs.PlainHeights.{new_plain_height}
use Rattle.geo_sketch.specs.declared.limits.TheConstants.{COORDINATE_LIMIT, HEIGHT_LIMIT, ELEMENT_LIMIT, PARAMETER_LIMIT, NUMBER_LIMIT}
use Rattle.geo_sketch.specs.Sketches.{other, element_parameters, parameter_count}
use Rattle.geo_sketch.specs.Lookups.{numbered}
use Rattle.geo_sketch.specs.Additions.{same_kind}

-- all numbers are below n
abbrev pub are_below : List Element → ℕ → Bool
are_below [] n = true
are_below (e ∷ es) n = nat_lt e.number n && are_below es n

abbrev pub has_kind : Option Element → Kind → Bool
has_kind None wanted = false
has_kind (Some e) wanted = same_kind e.kind wanted

-- element n can name element k, which shall have this kind: the test of `Refers`
abbrev pub can_refer : List Element → ℕ → Kind → ℕ → Bool
can_refer es n wanted k = nat_lt k n && has_kind (numbered es k) wanted

-- the test of `IsSmall`
abbrev pub is_small : ℤ → Bool
is_small z = nat_le (unsigned_abs z) COORDINATE_LIMIT

-- element n can have this kind and definition: the test of `IsDefined`
abbrev pub can_be_defined : List Element → ℕ → Kind → Def → Bool
can_be_defined es n kind Free = true
can_be_defined es n kind (Fixed a b c) = if nat_eq (unsigned_abs a + unsigned_abs b + unsigned_abs c) 0 then false else (is_small a && (is_small b && is_small c))
can_be_defined es n kind (Cut k) = can_refer es n (other kind) k
can_be_defined es n kind (Blend k m) = can_refer es n kind k && can_refer es n kind m
can_be_defined es n kind (Cross k m) = can_refer es n (other kind) k && can_refer es n (other kind) m

-- there is room for it
abbrev pub has_room : List Element → ℕ → Def → Bool
has_room es n d = nat_lt n NUMBER_LIMIT && (nat_lt (length es) ELEMENT_LIMIT && nat_le (sum_by element_parameters es + parameter_count d) PARAMETER_LIMIT)

abbrev pub can_follow : List Element → ℕ → Kind → Def → Bool
can_follow es n kind d = are_below es n && (has_room es n d && (can_be_defined es n kind d && nat_le (new_plain_height es n d) HEIGHT_LIMIT))

-- each element can follow those that stand before it, the earlier ones first
abbrev pub can_all_follow : List Element → List Element → Bool
can_all_follow earlier [] = true
can_all_follow earlier (e ∷ es) = can_follow earlier e.number e.kind e.def && can_all_follow (earlier ++ e ∷ []) es
