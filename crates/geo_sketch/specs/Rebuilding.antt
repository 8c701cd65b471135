-- The sketch that a list of numbers, kinds and definitions makes, and which lists make one.
use Rattle.std.specs.Prelude.{◌≡◌, ℕ, ◌+◌, ◌-◌, ◌<◌, ◌≤◌, ◌++◌, if◌then◌else◌, Bool, pos, Option, None, Some, List, [], ◌∷◌, length, map, replicate, sum_by}
use Rattle.std.specs.Fmt.{decimal}
use Rattle.geo_sketch.specs.declared.elements.Kind.{Kind}
use Rattle.geo_sketch.specs.declared.elements.Def.{Def}
use Rattle.geo_sketch.specs.declared.elements.Def.TheVariants.{Free, Fixed, Cut, Blend, Cross}
use Rattle.geo_sketch.specs.declared.elements.Setting.{Setting}
use Rattle.geo_sketch.specs.declared.elements.Setting.TheVariants as setting
use Rattle.geo_sketch.specs.declared.elements.Element.{Element}
use Rattle.geo_sketch.specs.Followers.{can_all_follow}
use Rattle.geo_sketch.specs.PlainHeights.{IsTall}
use Rattle.geo_sketch.specs.Sketches.{Drawing, IsDefined, element_parameters}
use Rattle.geo_sketch.specs.declared.limits.TheConstants.{ELEMENT_LIMIT, PARAMETER_LIMIT, NUMBER_LIMIT}
use Rattle.geo_sketch.specs.Lookups.{numbered, Rises}

-- the letter e, and the number in decimal
abbrev pub number_name : ℕ → List ℕ
number_name n = 101 ∷ decimal n

-- the element that an entry makes
abbrev pub listed : ℕ × Kind × Def → Element
listed x = record { number = x.0; name = number_name x.0; kind = x.1; def = x.2 }

-- ---- which elements make a sketch
-- the numbers rise and are below the limit, each definition names earlier elements of
-- fitting kinds, fixed triples are not zero and their coordinates are within the
-- limit, no element is tall, and there are no more elements and parameters than may be
pub record AreSound (es : List Element) : Type 0 where
  pub rising : Rises 0 es
  pub numbers_room : (n : ℕ) (e : Element) → numbered es n ≡ Some e → n < NUMBER_LIMIT
  pub defined : (n : ℕ) (e : Element) → numbered es n ≡ Some e → IsDefined es e.number e.kind e.def
  pub low : (n : ℕ) (e : Element) → numbered es n ≡ Some e → ¬ IsTall es n
  pub elements_room : length es ≤ ELEMENT_LIMIT
  pub parameters_room : sum_by element_parameters es ≤ PARAMETER_LIMIT

-- computed: each can follow those before it
abbrev pub is_sound : List Element → Bool
is_sound es = can_all_follow [] es

-- ---- the sketch that they make
-- every value is 0
abbrev pub zeros : Def → Setting
zeros Free = setting.Two (pos 0) (pos 0)
zeros (Fixed a b c) = setting.None
zeros (Cut k) = setting.One (pos 0)
zeros (Blend k m) = setting.One (pos 0)
zeros (Cross k m) = setting.None

-- the settings from number next on: none for the numbers that are passed over
abbrev pub settings_from : ℕ → List Element → List Setting
settings_from next [] = []
settings_from next (e ∷ es) = replicate (e.number - next) setting.None ++ zeros e.def ∷ settings_from (e.number + 1) es

abbrev pub at_zero : List Element → Drawing
at_zero es = record { elements = es; settings = settings_from 0 es; claims = [] }

-- the sketch that a list makes, and none where it makes none
abbrev pub rebuilt : List (ℕ × Kind × Def) → Option Drawing
rebuilt list = if is_sound (map listed list) then Some (at_zero (map listed list)) else None
