-- Whether a statement is posed is computed.
-- lemmas for other crates
use Rattle.std.proofs.Common.{◌≡◌, ◌∙◌, sym, refl, Option, None, Some, List}
use Rattle.std.specs.Prelude.{◌&&◌, nat_lt, is_some}
use Rattle.std.specs.Bool.{Decides}
use Rattle.std.proofs.lemmas.Bool.Decides.{Decides-and, Decides-ltb}
use Rattle.geo_sketch.specs.declared.elements.Kind.{Kind}
use Rattle.geo_sketch.specs.declared.elements.Kind.TheVariants.{Point, Line}
use Rattle.geo_sketch.specs.declared.elements.Element.{Element}
use Rattle.geo_sketch.specs.declared.statements.Statement.{Statement}
use Rattle.geo_sketch.specs.declared.statements.Statement.TheVariants as statement
use Rattle.geo_sketch.specs.Lookups.{kind_at}
use Rattle.geo_sketch.specs.Posing.{is_posed, of_one_kind, of_two_kinds}
use Rattle.geo_sketch.specs.Sketches.{other, IsPosed}

-- what stands there
decides_there : (o : Option Kind) → Decides (is_some o) ((kind : Kind) × (o ≡ Some kind))
decides_there None = (λ t. cc, λ h. let none = h.1 in cc)
decides_there (Some p) = (λ t. (p, refl), λ h. refl)

decides_one : (o u : Option Kind) → Decides (of_one_kind o u) ((kind : Kind) × ((o ≡ Some kind) × (u ≡ Some kind)))
decides_one None u = (λ t. cc, λ h. let none = h.1.0 in cc)
decides_one (Some p) None = (λ t. cc, λ h. let none = h.1.1 in cc)
decides_one (Some Point) (Some Point) = (λ t. (Point, (refl, refl)), λ h. refl)
decides_one (Some Point) (Some Line) = (λ t. cc, λ h. let first = h.1.0 in let second = h.1.1 in cc)
decides_one (Some Line) (Some Point) = (λ t. cc, λ h. let first = h.1.0 in let second = h.1.1 in cc)
decides_one (Some Line) (Some Line) = (λ t. (Line, (refl, refl)), λ h. refl)

two_kinds : (p kind : Kind) → Some p ≡ Some kind → Some p ≡ Some (other kind) → ⊥
two_kinds p Point h g = cc
two_kinds p Line h g = cc

decides_two : (o u : Option Kind) → Decides (of_two_kinds o u) ((kind : Kind) × ((o ≡ Some kind) × (u ≡ Some (other kind))))
decides_two None u = (λ t. cc, λ h. let none = h.1.0 in cc)
decides_two (Some p) None = (λ t. cc, λ h. let none = h.1.1 in cc)
decides_two (Some Point) (Some Point) = (λ t. cc, λ h. absurd (two_kinds Point h.0 h.1.0 h.1.1))
decides_two (Some Point) (Some Line) = (λ t. (Point, (refl, refl)), λ h. refl)
decides_two (Some Line) (Some Point) = (λ t. (Line, (refl, refl)), λ h. refl)
decides_two (Some Line) (Some Line) = (λ t. cc, λ h. absurd (two_kinds Line h.0 h.1.0 h.1.1))

pub decides_posed : (es : List Element) (s : Statement) → Decides (is_posed es s) (IsPosed es s)
decides_posed es (statement.Null n) = decides_there (kind_at es n)
decides_posed es (statement.Same n m) = Decides-and (nat_lt n m) (of_one_kind (kind_at es n) (kind_at es m)) (Decides-ltb n m) (decides_one (kind_at es n) (kind_at es m))
decides_posed es (statement.On n m) = Decides-and (nat_lt n m) (of_two_kinds (kind_at es n) (kind_at es m)) (Decides-ltb n m) (decides_two (kind_at es n) (kind_at es m))
decides_posed es (statement.Triple n m k) =
    let rising = Decides-and (nat_lt n m) (nat_lt m k) (Decides-ltb n m) (Decides-ltb m k) in
    let first = decides_one (kind_at es n) (kind_at es m) in
    let second = decides_one (kind_at es n) (kind_at es k) in
    let kinds = Decides-and (of_one_kind (kind_at es n) (kind_at es m)) (of_one_kind (kind_at es n) (kind_at es k)) first second in
    let all = Decides-and (nat_lt n m && nat_lt m k) (of_one_kind (kind_at es n) (kind_at es m) && of_one_kind (kind_at es n) (kind_at es k)) rising kinds in (
      λ t. let h = all.0 t in let p = h.1.0 in let q = h.1.1 in (h.0.0, h.0.1, (p.0, (p.1.0, p.1.1, let same : Some q.0 ≡ Some p.0 = sym q.1.0 ∙ p.1.0 in q.1.1 ∙ same))),
      λ h. all.1 ((h.0, h.1), ((h.2.0, (h.2.1.0, h.2.1.1)), (h.2.0, (h.2.1.0, h.2.1.2)))),
    )
