-- What the table of plain heights needs of a sketch.
-- lemmas for other crates
use Rattle.std.proofs.Common.{◌≡◌, subst, refl, ℕ, ◌<◌, ◌≤◌, Option, None, Some, List, length, get_or, arith}
use Rattle.geo_sketch.specs.declared.elements.Def.{Def}
use Rattle.geo_sketch.specs.declared.elements.Setting.{Setting}
use Rattle.geo_sketch.specs.declared.elements.Element.{Element}
use Rattle.geo_sketch.specs.declared.statements.Statement.{Statement}
use Rattle.geo_sketch.specs.Constructions.{by_def, AtNamed, IsConstruction}
use Rattle.geo_sketch.specs.Lookups.{numbered, IsLive}
use Rattle.geo_sketch.specs.PlainHeights.{plain_height_algebra, plain_height_of, new_plain_height, threes, IsTall}
use Rattle.geo_sketch.specs.declared.limits.TheConstants.{HEIGHT_LIMIT}
use Rattle.geo_sketch.specs.Sketches.{IsSketch}
use Rattle.geo_sketch.specs.Tables.{place, Filled}
use Rattle.geo_sketch.proofs.ConstructionLaws.{at_named, by_def_same}
use Rattle.geo_sketch.proofs.LiveElements.{absent_step}
use Rattle.geo_sketch.proofs.NumberLaws.{number_found}
use Rattle.geo_sketch.proofs.SketchLaws.{construction, entry}
use Rattle.geo_sketch.proofs.TableLaws.{number_at, place_within, value_here}

-- where no element is tall, no height is above the limit: what is no element has height 0
pub all_low : (es : List Element) → IsConstruction es → ((n : ℕ) (e : Element) → numbered es n ≡ Some e → ¬ IsTall es n) → (n : ℕ) → plain_height_of es n threes ≤ HEIGHT_LIMIT
all_low es c low n = by_found (numbered es n) refl
  where
    by_found : (o : Option Element) → numbered es n ≡ o → plain_height_of es n threes ≤ HEIGHT_LIMIT
    by_found None q = rw (absent_step es c (plain_height_algebra threes) n q) (omega arith)
    by_found (Some e) q = let short = low n e q in omega arith

module _ (es : List Element) (ss : List Setting) (cs : List Statement) (sketch : IsSketch es ss cs) where
  pub low : (n : ℕ) → plain_height_of es n threes ≤ HEIGHT_LIMIT
  low n = all_low es (construction es ss cs sketch) (λ k e q. subst (λ (m : ℕ). ¬ IsTall es m) (number_found es k e q) (entry es ss cs sketch k e q).2) n

-- the height at the next place of a table
pub plain_height_here : (es : List Element) (table : List ℕ) (i : ℕ) (x : Element) → IsConstruction es → ((n : ℕ) → plain_height_of es n threes ≤ HEIGHT_LIMIT) → Filled (plain_height_algebra threes) es 0 table i → i < length es → by_def (plain_height_algebra threes) (get_or es i x).number (get_or es i x).def (λ k. get_or table (place es k) 0) ≤ HEIGHT_LIMIT
plain_height_here es table i x c low filled within =
    let there = number_at 0 es i x c.rising within in
    let value = value_here (plain_height_algebra threes) es 0 table i (get_or es i x).number (get_or es i x) c filled there.0 (omega (arith, there.1)) in
    omega (arith, value, low (get_or es i x).number)

-- the height of a new element, from a table of all heights
pub plain_height_from : (es : List Element) (table : List ℕ) (n : ℕ) (d : Def) → Filled (plain_height_algebra threes) es 0 table (length es) → AtNamed d (IsLive es) → by_def (plain_height_algebra threes) n d (λ k. get_or table (place es k) 0) ≡ new_plain_height es n d
plain_height_from es table n d filled live =
    by_def_same (plain_height_algebra threes) n d (λ k. get_or table (place es k) 0) (λ k. plain_height_of es k threes) (at_named (IsLive es) _ d (λ k l. filled k l.0 l.1 (place_within es k l.0 l.1)) live)
