-- Exchanging all kinds keeps all values, and gives a sketch.
-- lemmas for other crates
use Rattle.std.proofs.Common.{◌≡◌, ◌∙◌, sym, ap, subst, refl, ℕ, ◌+◌, ◌==◌, ◌++◌, if◌then◌else◌, Option, None, Some, option_map, List, [], ◌∷◌, reverse, map, ℤ}
use Rattle.std.specs.Prelude.{sum_by}
use Rattle.std.proofs.lemmas.Bool.{cond_both}
use Rattle.std.proofs.lemmas.List.{reverse-append, length-map}
use Rattle.std.proofs.lemmas.List.Sums.{sum_by-cons}
use Rattle.geo_sketch.specs.declared.elements.Kind.{Kind}
use Rattle.geo_sketch.specs.declared.elements.Kind.TheVariants.{Point, Line}
use Rattle.geo_sketch.specs.declared.elements.Def.{Def}
use Rattle.geo_sketch.specs.declared.elements.Def.TheVariants.{Free, Fixed, Cut, Blend, Cross}
use Rattle.geo_sketch.specs.declared.elements.Setting.{Setting}
use Rattle.geo_sketch.specs.declared.elements.Element.{Element}
use Rattle.geo_sketch.specs.declared.statements.Statement.{Statement}
use Rattle.geo_sketch.specs.declared.statements.Statement.TheVariants as statement
use Rattle.geo_sketch.specs.Constructions.{Algebra, along, by_def, computed}
use Rattle.geo_sketch.specs.Triples.{triple_algebra, triple_at}
use Rattle.geo_sketch.specs.Statements.{parts_at}
use Rattle.geo_sketch.specs.Assignments.{setting_of}
use Rattle.geo_sketch.specs.PlainHeights.{plain_height_algebra, threes}
use Rattle.geo_sketch.specs.Sketches.{other, Refers, IsDefined, IsEntry, IsPosed, ArePosed, IsSketch, element_parameters}
use Rattle.geo_sketch.specs.Lookups.{def_at, numbered, kind_at, Rises}
use Rattle.geo_sketch.specs.Changes.{exchanged}
use Rattle.geo_sketch.proofs.NumberLaws.{came_from, mapped_twice}
use Rattle.geo_sketch.proofs.StatementLaws.{at_all, parts_same}

-- ---- twice is not at all
other_twice : (k : Kind) → other (other k) ≡ k
other_twice Point = refl
other_twice Line = refl

exchanged_twice : (e : Element) → exchanged (exchanged e) ≡ e
exchanged_twice e = λ i. record { number = e.number; name = e.name; kind = other_twice e.kind i; def = e.def }

pub all_exchanged_twice : (es : List Element) → map exchanged (map exchanged es) ≡ es
all_exchanged_twice [] = refl
all_exchanged_twice (e ∷ es) = λ i. exchanged_twice e i ∷ all_exchanged_twice es i

-- ---- all values stay
map_append : (xs ys : List Element) → map exchanged (xs ++ ys) ≡ map exchanged xs ++ map exchanged ys
map_append [] ys = refl
map_append (x ∷ xs) ys = ap (λ (zs : List Element). exchanged x ∷ zs) (map_append xs ys)

exchanged_back : (es : List Element) → reverse (map exchanged es) ≡ map exchanged (reverse es)
exchanged_back [] = refl
exchanged_back (e ∷ es) =
    reverse-append (exchanged e ∷ []) (map exchanged es) ∙ ap (λ (zs : List Element). zs ++ exchanged e ∷ []) (exchanged_back es)
    ∙ sym (map_append (reverse es) (e ∷ [])) ∙ ap (map exchanged) (sym (reverse-append (e ∷ []) es))

along_exchanged : {X : Type 0} (A : Algebra X) (es : List Element) (n : ℕ) → along A (map exchanged es) n ≡ along A es n
along_exchanged A [] n = refl
along_exchanged A (e ∷ es) n = λ i. if e.number == n then by_def A n e.def (λ k. along_exchanged A es k i) else along_exchanged A es n i

pub computed_exchanged : {X : Type 0} (A : Algebra X) (es : List Element) (n : ℕ) → computed A (map exchanged es) n ≡ computed A es n
computed_exchanged A es n = ap (λ (zs : List Element). along A zs n) (exchanged_back es) ∙ along_exchanged A (reverse es) n

pub parts_exchanged : (es : List Element) (v : ℕ → ℤ) (c : Statement) → parts_at (map exchanged es) c v ≡ parts_at es c v
parts_exchanged es v c = parts_same (map exchanged es) es c v v (at_all (λ n. triple_at (map exchanged es) n v ≡ triple_at es n v) c (computed_exchanged (triple_algebra v) es))

-- ---- what holds of a sketch
pub numbered_exchanged : (es : List Element) (n : ℕ) → numbered (map exchanged es) n ≡ option_map exchanged (numbered es n)
numbered_exchanged [] n = refl
numbered_exchanged (e ∷ es) n =
    cond_both (e.number == n) (Some e) (numbered es n) (λ o. (if e.number == n then Some (exchanged e) else numbered (map exchanged es) n) ≡ option_map exchanged o)
    (λ t. rw t refl)
    (λ t. rw t (numbered_exchanged es n))

pub def_exchanged : (es : List Element) (n : ℕ) → def_at (map exchanged es) n ≡ def_at es n
def_exchanged es n = ap (option_map (λ (e : Element). e.def)) (numbered_exchanged es n) ∙ mapped_twice (λ e. e.def) exchanged (numbered es n)

kind_exchanged : (es : List Element) (n : ℕ) (kind : Kind) → kind_at es n ≡ Some kind → kind_at (map exchanged es) n ≡ Some (other kind)
kind_exchanged es n kind h = rw (numbered_exchanged es n) (by_found (numbered es n) h)
  where
    by_found : (o : Option Element) → option_map (λ e. e.kind) o ≡ Some kind → option_map (λ e. e.kind) (option_map exchanged o) ≡ Some (other kind)
    by_found None g = cc
    by_found (Some e) g = ap (option_map other) g

refers_exchanged : (es : List Element) (n k : ℕ) (kind : Kind) → Refers es n kind k → Refers (map exchanged es) n (other kind) k
refers_exchanged es n k kind h = (h.0, kind_exchanged es k kind h.1)

defined_exchanged : (es : List Element) (n : ℕ) (kind : Kind) (d : Def) → IsDefined es n kind d → IsDefined (map exchanged es) n (other kind) d
defined_exchanged es n kind Free h = tt
defined_exchanged es n kind (Fixed a b c) h = h
defined_exchanged es n kind (Cut k) h = refers_exchanged es n k (other kind) h
defined_exchanged es n kind (Blend k m) h = (refers_exchanged es n k kind h.0, refers_exchanged es n m kind h.1)
defined_exchanged es n kind (Cross k m) h = (refers_exchanged es n k (other kind) h.0, refers_exchanged es n m (other kind) h.1)

pub posed_exchanged : (es : List Element) (c : Statement) → IsPosed es c → IsPosed (map exchanged es) c
posed_exchanged es (statement.Null n) h = (other h.0, kind_exchanged es n h.0 h.1)
posed_exchanged es (statement.Same n m) h = (h.0, (other h.1.0, (kind_exchanged es n h.1.0 h.1.1.0, kind_exchanged es m h.1.0 h.1.1.1)))
posed_exchanged es (statement.On n m) h = (h.0, (other h.1.0, (kind_exchanged es n h.1.0 h.1.1.0, kind_exchanged es m (other h.1.0) h.1.1.1)))
posed_exchanged es (statement.Triple n m k) h = (h.0, h.1, (other h.2.0, (kind_exchanged es n h.2.0 h.2.1.0, kind_exchanged es m h.2.0 h.2.1.1, kind_exchanged es k h.2.0 h.2.1.2)))

pub posed_back : (es : List Element) (c : Statement) → IsPosed (map exchanged es) c → IsPosed es c
posed_back es c h = subst (λ (fs : List Element). IsPosed fs c) (all_exchanged_twice es) (posed_exchanged (map exchanged es) c h)

all_posed_exchanged : (es : List Element) (cs : List Statement) → ArePosed es cs → ArePosed (map exchanged es) cs
all_posed_exchanged es [] h = tt
all_posed_exchanged es (c ∷ cs) h = (posed_exchanged es c h.0, all_posed_exchanged es cs h.1)

rises_exchanged : (low : ℕ) (es : List Element) → Rises low es → Rises low (map exchanged es)
rises_exchanged low [] h = tt
rises_exchanged low (e ∷ es) h = (h.0, rises_exchanged (e.number + 1) es h.1)

parameters_exchanged : (es : List Element) → sum_by element_parameters (map exchanged es) ≡ sum_by element_parameters es
parameters_exchanged [] = refl
parameters_exchanged (e ∷ es) = sum_by-cons element_parameters (exchanged e) (map exchanged es) ∙ ap (λ n. element_parameters e + n) (parameters_exchanged es) ∙ sym (sum_by-cons element_parameters e es)

module _ (es : List Element) (ss : List Setting) (cs : List Statement) (sketch : IsSketch es ss cs) where
  entry_exchanged : (n : ℕ) (o : Option Element) → IsEntry es o (setting_of ss n) → IsEntry (map exchanged es) (option_map exchanged o) (setting_of ss n)
  entry_exchanged n None h = h
  entry_exchanged n (Some e) h = (defined_exchanged es e.number e.kind e.def h.0, h.1, rw (computed_exchanged (plain_height_algebra threes) es e.number) h.2)

  pub dual_drawn : IsSketch (map exchanged es) ss cs
  dual_drawn = record {
    rising = rises_exchanged 0 es sketch.rising;
    given = λ n e q. let x = came_from exchanged (numbered es n) e (sym (numbered_exchanged es n) ∙ q) in sketch.given n x.0 x.1.0;
    each = λ n. rw (numbered_exchanged es n) (entry_exchanged n (numbered es n) (sketch.each n));
    apart = λ n m e f q r same.
        let x = came_from exchanged (numbered es n) e (sym (numbered_exchanged es n) ∙ q) in
        let y = came_from exchanged (numbered es m) f (sym (numbered_exchanged es m) ∙ r) in
        sketch.apart n m x.0 y.0 x.1.0 y.1.0 (ap (λ (z : Element). z.name) x.1.1 ∙ same ∙ sym (ap (λ (z : Element). z.name) y.1.1));
    posed = all_posed_exchanged es cs sketch.posed;
    elements_room = rw (length-map es exchanged) sketch.elements_room;
    parameters_room = rw (parameters_exchanged es) sketch.parameters_room;
    numbers_room = sketch.numbers_room;
    claims_room = sketch.claims_room;
  }
