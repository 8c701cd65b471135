-- What an addition makes, or the first refusal that applies: taken, unknown, kind,
-- zero, full, tall, in this order.
use Rattle.std.specs.Prelude.{ℕ, ◌+◌, ◌&&◌, ◌||◌, nat_eq, nat_lt, if◌then◌else◌, Bool, true, false, unsigned_abs, Option, None, Some, Result, Ok, Err, List, length, sum_by}
use Rattle.geo_sketch.specs.declared.elements.Kind.{Kind}
use Rattle.geo_sketch.specs.declared.elements.Kind.TheVariants.{Point, Line}
use Rattle.geo_sketch.specs.declared.elements.Def.{Def}
use Rattle.geo_sketch.specs.declared.elements.Def.TheVariants as def
use Rattle.geo_sketch.specs.declared.elements.Spec.{Spec}
use Rattle.geo_sketch.specs.declared.elements.Spec.TheVariants as spec
use Rattle.geo_sketch.specs.declared.elements.Setting.{Setting}
use Rattle.geo_sketch.specs.declared.elements.Setting.TheVariants as setting
use Rattle.geo_sketch.specs.declared.elements.Element.{Element}
use Rattle.geo_sketch.specs.declared.changes.Delta.{Delta}
use Rattle.geo_sketch.specs.declared.changes.Delta.TheVariants as delta
use Rattle.geo_sketch.specs.declared.changes.Refusal.{Refusal}
use Rattle.geo_sketch.specs.declared.changes.Refusal.TheVariants as refusal
use Rattle.geo_sketch.specs.Lookups.{find_named}
use Rattle.geo_sketch.specs.PlainHeights.{new_plain_height}
use Rattle.geo_sketch.specs.declared.limits.TheConstants.{HEIGHT_LIMIT, ELEMENT_LIMIT, PARAMETER_LIMIT, NUMBER_LIMIT}
use Rattle.geo_sketch.specs.Sketches.{Drawing, other, next_number, parameter_count, element_parameters, IsSmall}

abbrev pub same_kind : Kind → Kind → Bool
same_kind Point Point = true
same_kind Point Line = false
same_kind Line Point = false
same_kind Line Line = true

-- the number of the element that was found, which shall have the kind
abbrev pub referred : Option Element → Kind → Result ℕ Refusal
referred None wanted = Err refusal.Unknown
referred (Some p) wanted = if same_kind p.kind wanted then Ok p.number else Err refusal.Kind

-- the numbers of two elements, which both shall have the kind
abbrev pub both_referred : Option Element → Option Element → Kind → Result (ℕ × ℕ) Refusal
both_referred None q wanted = Err refusal.Unknown
both_referred (Some p) None wanted = Err refusal.Unknown
both_referred (Some p) (Some q) wanted = if same_kind p.kind wanted && same_kind q.kind wanted then Ok (p.number, q.number) else Err refusal.Kind

-- the definition that is made of what was found
abbrev pub with_found : {X : Type 0} → (X → Def) → Result X Refusal → Result Def Refusal
with_found make (Ok x) = Ok (make x)
with_found make (Err r) = Err r

-- the definition of a new element of this kind, or unknown, kind or zero, the first
-- that applies
abbrev pub definition_of : List Element → Kind → Spec → Result Def Refusal
definition_of es kind (spec.Free x y) = Ok def.Free
definition_of es kind (spec.Fixed a b c) = if nat_eq (unsigned_abs a + unsigned_abs b + unsigned_abs c) 0 then Err refusal.Zero else Ok (def.Fixed a b c)
definition_of es kind (spec.Cut k t) = with_found (λ n. def.Cut n) (referred (find_named es k) (other kind))
definition_of es kind (spec.Blend k m t) = with_found (λ p. def.Blend p.0 p.1) (both_referred (find_named es k) (find_named es m) kind)
definition_of es kind (spec.Cross k m) = with_found (λ p. def.Cross p.0 p.1) (both_referred (find_named es k) (find_named es m) (other kind))

-- the values that it begins with
abbrev pub first_setting_of : Spec → Setting
first_setting_of (spec.Free x y) = setting.Two x y
first_setting_of (spec.Fixed a b c) = setting.None
first_setting_of (spec.Cut k t) = setting.One t
first_setting_of (spec.Blend k m t) = setting.One t
first_setting_of (spec.Cross k m) = setting.None

-- one more element with this definition would pass the limit of live elements,
-- of live parameters or of numbers
abbrev pub is_full : Drawing → Def → Bool
is_full drawing d = nat_lt ELEMENT_LIMIT (length drawing.elements + 1) || (nat_lt PARAMETER_LIMIT (sum_by element_parameters drawing.elements + parameter_count d) || nat_lt NUMBER_LIMIT (next_number drawing + 1))

-- the new element would be tall
abbrev pub would_be_tall : Drawing → Def → Bool
would_be_tall drawing d = nat_lt HEIGHT_LIMIT (new_plain_height drawing.elements (next_number drawing) d)

abbrev pub new_element : Drawing → List ℕ → Kind → Def → Element
new_element drawing name kind d = record { number = next_number drawing; name = name; kind = kind; def = d }

-- the addition of what is defined so
abbrev pub adding : Drawing → List ℕ → Kind → Setting → Result Def Refusal → Result Delta Refusal
adding drawing name kind s (Err r) = Err r
adding drawing name kind s (Ok d) = if is_full drawing d then Err refusal.Full else (if would_be_tall drawing d then Err refusal.Tall else Ok (delta.Added (new_element drawing name kind d) s))

-- unless an element was found under the new name
abbrev pub adding_unless : Option Element → Drawing → List ℕ → Kind → Spec → Result Delta Refusal
adding_unless (Some e) drawing name kind s = Err refusal.Taken
adding_unless None drawing name kind s = adding drawing name kind (first_setting_of s) (definition_of drawing.elements kind s)

-- the change that an addition makes, or the first refusal that applies
abbrev pub addition_of : Drawing → List ℕ → Kind → Spec → Result Delta Refusal
addition_of drawing name kind s = adding_unless (find_named drawing.elements name) drawing name kind s

-- the numbers of a fixed triple are within the limit of a coordinate
abbrev pub IsSmallSpec : Spec → Type 0
IsSmallSpec (spec.Free x y) = Unit {0}
IsSmallSpec (spec.Fixed a b c) = IsSmall a × IsSmall b × IsSmall c
IsSmallSpec (spec.Cut k t) = Unit {0}
IsSmallSpec (spec.Blend k m t) = Unit {0}
IsSmallSpec (spec.Cross k m) = Unit {0}
