-- What is said of a statement looks only at the elements that it names.
-- lemmas for other crates
use Rattle.std.proofs.Common.{◌≡◌, ◌≢◌, ◌∙◌, sym, ap, refl, ℕ, ◌==◌, false, option_map, List, [], ◌∷◌, ℤ}
use Rattle.std.specs.Prelude.{◌||◌, ◌↔◌}
use Rattle.std.proofs.lemmas.Bool.{eqb-false}
use Rattle.geo_triple.specs.Sums.{cross_sums, determinant_sum, dot_sum, largest_of}
use Rattle.geo_triple.specs.Triple.{cross_of, dot_of, determinant_of}
use Rattle.geo_sketch.specs.declared.elements.Element.{Element}
use Rattle.geo_sketch.specs.declared.statements.Statement.{Statement}
use Rattle.geo_sketch.specs.declared.statements.Statement.TheVariants as statement
use Rattle.geo_sketch.specs.Drops.{speaks_of}
use Rattle.geo_sketch.specs.Heights.{heights_at, statement_height}
use Rattle.geo_sketch.specs.Lookups.{def_at, kind_at, numbered}
use Rattle.geo_sketch.specs.Needs.{AtStated}
use Rattle.geo_sketch.specs.PlainStatements.{is_plain, blends, passes_through}
use Rattle.geo_sketch.specs.Sketches.{IsPosed}
use Rattle.geo_sketch.specs.Statements.{parts_at}
use Rattle.geo_triple.specs.Zero.{coordinates}
use Rattle.geo_sketch.specs.Triples.{triple_at}
use Rattle.geo_sketch.proofs.ClaimLaws.{neither}

pub at_stated : (P Q : ℕ → Type 0) (s : Statement) → ((n : ℕ) → P n → Q n) → AtStated s P → AtStated s Q
at_stated P Q (statement.Null n) f h = f n h
at_stated P Q (statement.Same n m) f h = (f n h.0, f m h.1)
at_stated P Q (statement.On n m) f h = (f n h.0, f m h.1)
at_stated P Q (statement.Triple n m k) f h = (f n h.0, f m h.1, f k h.2)

pub at_all : (P : ℕ → Type 0) (s : Statement) → ((n : ℕ) → P n) → AtStated s P
at_all P (statement.Null n) f = f n
at_all P (statement.Same n m) f = (f n, f m)
at_all P (statement.On n m) f = (f n, f m)
at_all P (statement.Triple n m k) f = (f n, f m, f k)

-- what is not spoken of is not named
pub names_others : (s : Statement) (n : ℕ) → speaks_of s n ≡ false → AtStated s (λ k. k ≢ n)
names_others (statement.Null k) n h = eqb-false k n h
names_others (statement.Same k m) n h = let each = neither (k == n) (m == n) h in (eqb-false k n each.0, eqb-false m n each.1)
names_others (statement.On k m) n h = let each = neither (k == n) (m == n) h in (eqb-false k n each.0, eqb-false m n each.1)
names_others (statement.Triple k m l) n h =
    let first = neither (k == n) ((m == n) || (l == n)) h in
    let each = neither (m == n) (l == n) first.1 in
    (eqb-false k n first.0, eqb-false m n each.0, eqb-false l n each.1)

module _ (es fs : List Element) where
  pub posed_same : (s : Statement) → AtStated s (λ n. kind_at es n ≡ kind_at fs n) → IsPosed es s → IsPosed fs s
  posed_same (statement.Null n) q h = (h.0, sym q ∙ h.1)
  posed_same (statement.Same n m) q h = (h.0, (h.1.0, (sym q.0 ∙ h.1.1.0, sym q.1 ∙ h.1.1.1)))
  posed_same (statement.On n m) q h = (h.0, (h.1.0, (sym q.0 ∙ h.1.1.0, sym q.1 ∙ h.1.1.1)))
  posed_same (statement.Triple n m k) q h = (h.0, h.1, (h.2.0, (sym q.0 ∙ h.2.1.0, sym q.1 ∙ h.2.1.1, sym q.2 ∙ h.2.1.2)))

  pub plain_same : (s : Statement) → AtStated s (λ n. def_at es n ≡ def_at fs n) → is_plain es s ≡ is_plain fs s
  plain_same (statement.Null n) h = refl
  plain_same (statement.Same n m) h = refl
  plain_same (statement.On n m) h = λ i. passes_through (h.0 i) m || passes_through (h.1 i) n
  plain_same (statement.Triple n m k) h = λ i. blends (h.0 i) m k || (blends (h.1 i) n k || blends (h.2 i) n m)

  pub parts_same : (s : Statement) (v w : ℕ → ℤ) → AtStated s (λ n. triple_at es n v ≡ triple_at fs n w) → parts_at es s v ≡ parts_at fs s w
  parts_same (statement.Null n) v w h = ap coordinates h
  parts_same (statement.Same n m) v w h = λ i. coordinates (cross_of (h.0 i) (h.1 i))
  parts_same (statement.On n m) v w h = λ i. dot_of (h.0 i) (h.1 i) ∷ []
  parts_same (statement.Triple n m k) v w h = λ i. determinant_of (h.0 i) (h.1 i) (h.2 i) ∷ []

  pub statement_height_same : (s : Statement) (m : ℕ → ℕ) → AtStated s (λ n. heights_at es n m ≡ heights_at fs n m) → statement_height es s m ≡ statement_height fs s m
  statement_height_same (statement.Null n) m h = ap largest_of h
  statement_height_same (statement.Same n k) m h = λ i. largest_of (cross_sums (h.0 i) (h.1 i))
  statement_height_same (statement.On n k) m h = λ i. dot_sum (h.0 i) (h.1 i)
  statement_height_same (statement.Triple n k l) m h = λ i. determinant_sum (h.0 i) (h.1 i) (h.2 i)

pub posed_both : (es fs : List Element) (s : Statement) → AtStated s (λ n. kind_at es n ≡ kind_at fs n) → IsPosed es s ↔ IsPosed fs s
posed_both es fs s q = (posed_same es fs s q, posed_same fs es s (at_stated (λ n. kind_at es n ≡ kind_at fs n) (λ n. kind_at fs n ≡ kind_at es n) s (λ n. sym) q))

-- where two lists differ in element n alone, what does not speak of it is posed and plain in both or in none
module _ (es fs : List Element) (n : ℕ) (others : (m : ℕ) → m ≢ n → numbered es m ≡ numbered fs m) (s : Statement) (unnamed : speaks_of s n ≡ false) where
  pub posed_but_one : IsPosed es s ↔ IsPosed fs s
  posed_but_one = posed_both es fs s (at_stated (λ m. m ≢ n) (λ m. kind_at es m ≡ kind_at fs m) s (λ m ne. ap (option_map (λ (e : Element). e.kind)) (others m ne)) (names_others s n unnamed))

  pub plain_but_one : is_plain es s ≡ is_plain fs s
  plain_but_one = plain_same es fs s (at_stated (λ m. m ≢ n) (λ m. def_at es m ≡ def_at fs m) s (λ m ne. ap (option_map (λ (e : Element). e.def)) (others m ne)) (names_others s n unnamed))
