-- What a sketch gives: its elements are a construction, and each is well defined.
-- lemmas for other crates
use Rattle.std.proofs.Common.{◌≡◌, ◌∙◌, subst, refl, ℕ, ◌<◌, Option, None, Some, option_map, List}
use Rattle.geo_sketch.specs.declared.elements.Kind.{Kind}
use Rattle.geo_sketch.specs.declared.elements.Def.{Def}
use Rattle.geo_sketch.specs.declared.elements.Def.TheVariants.{Free, Fixed, Cut, Blend, Cross}
use Rattle.geo_sketch.specs.declared.elements.Setting.{Setting}
use Rattle.geo_sketch.specs.declared.elements.Element.{Element}
use Rattle.geo_sketch.specs.declared.statements.Statement.{Statement}
use Rattle.geo_sketch.specs.Assignments.{setting_of}
use Rattle.geo_sketch.specs.Constructions.{AtNamed, IsConstruction}
use Rattle.geo_sketch.proofs.ConstructionLaws.{IsBuilt}
use Rattle.geo_sketch.specs.Lookups.{numbered, kind_at, IsLive}
use Rattle.geo_sketch.specs.Sketches.{Drawing, IsDrawn, other, IsDefined, IsEntry, IsSketch}
use Rattle.geo_sketch.proofs.NumberLaws.{number_found}
use Rattle.geo_sketch.proofs.TableLaws.{built}

pub live : (es : List Element) (n : ℕ) (kind : Kind) → kind_at es n ≡ Some kind → IsLive es n
live es n kind h = by_found (numbered es n) refl h
  where
    by_found : (o : Option Element) → numbered es n ≡ o → option_map (λ e. e.kind) o ≡ Some kind → IsLive es n
    by_found None q g = cc
    by_found (Some e) q g = (e, q)

-- a definition that fits names earlier live elements
pub named : (es : List Element) (n : ℕ) (kind : Kind) (d : Def) → IsDefined es n kind d → AtNamed d (λ k. (k < n) × IsLive es k)
named es n kind Free h = tt
named es n kind (Fixed a b c) h = tt
named es n kind (Cut k) h = (h.0, live es k (other kind) h.1)
named es n kind (Blend k m) h = ((h.0.0, live es k kind h.0.1), (h.1.0, live es m kind h.1.1))
named es n kind (Cross k m) h = ((h.0.0, live es k (other kind) h.0.1), (h.1.0, live es m (other kind) h.1.1))

-- a definition fits wherever the kinds of what it names are the same
pub defined_same : (es fs : List Element) (n : ℕ) (kind : Kind) (d : Def) → AtNamed d (λ k. kind_at fs k ≡ kind_at es k) → IsDefined es n kind d → IsDefined fs n kind d
defined_same es fs n kind Free q h = tt
defined_same es fs n kind (Fixed a b c) q h = h
defined_same es fs n kind (Cut k) q h = (h.0, q ∙ h.1)
defined_same es fs n kind (Blend k m) q h = ((h.0.0, q.0 ∙ h.0.1), (h.1.0, q.1 ∙ h.1.1))
defined_same es fs n kind (Cross k m) q h = ((h.0.0, q.0 ∙ h.0.1), (h.1.0, q.1 ∙ h.1.1))

module _ (es : List Element) (ss : List Setting) (cs : List Statement) (sketch : IsSketch es ss cs) where
  pub entry : (n : ℕ) (e : Element) → numbered es n ≡ Some e → IsEntry es (Some e) (setting_of ss n)
  entry n e q = subst (λ (o : Option Element). IsEntry es o (setting_of ss n)) q (sketch.each n)

  pub construction : IsConstruction es
  construction = record { rising = sketch.rising; named = λ n e q. rw (← (number_found es n e q)) (named es e.number e.kind e.def (entry n e q).0) }

module _ (drawing : Drawing) (drawn : IsDrawn drawing) where
  pub constructed : IsConstruction drawing.elements
  constructed = construction drawing.elements drawing.settings drawing.claims drawn

  pub drawn_built : IsBuilt drawing.elements
  drawn_built = built drawing.elements constructed

  -- a live element is well defined
  pub defined : (n : ℕ) (e : Element) → numbered drawing.elements n ≡ Some e → IsDefined drawing.elements e.number e.kind e.def
  defined n e q = (entry drawing.elements drawing.settings drawing.claims drawn n e q).0
