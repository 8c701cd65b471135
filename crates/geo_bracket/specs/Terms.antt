-- Sums of products of brackets, and what is made of them bracket by bracket.
use Rattle.std.specs.Prelude.{ℕ, ◌+◌, ◌*◌, ◌≤◌, max, ℤ, pos, ◌+ℤ◌, ◌*ℤ◌, unsigned_abs, List, [], ◌∷◌, length, All}
use Rattle.geo_law.specs.Coefficients.{multiple_of_list, product_of_lists, sum_of_lists}
use Rattle.geo_law.specs.Tables.{multiple_of_table, product_of_tables, sum_of_tables}
use Rattle.geo_bracket.specs.declared.expressions.Bracket.{Bracket}
use Rattle.geo_bracket.specs.declared.limits.TheConstants.{TERM_LIMIT, FACTOR_LIMIT}
use Rattle.geo_sketch.specs.declared.limits.TheConstants.{COORDINATE_LIMIT}

-- a number times the product of some brackets
pub record Product (X : Type 0) : Type 0 where
  pub number : ℤ
  pub brackets : List X

-- at most 16 terms, each with a number from -1000 to 1000 and at most 8 brackets
pub record IsSmall {X : Type 0} (ts : List (Product X)) : Type 0 where
  pub few : length ts ≤ TERM_LIMIT
  pub short : All (λ (t : Product X). (unsigned_abs t.number ≤ COORDINATE_LIMIT) × (length t.brackets ≤ FACTOR_LIMIT)) ts

module _ {X : Type 0} where
  -- ---- values
  abbrev pub product_of : (X → ℤ) → List X → ℤ
  product_of value [] = pos 1
  product_of value (b ∷ bs) = value b *ℤ product_of value bs

  abbrev pub sum_of : (X → ℤ) → List (Product X) → ℤ
  sum_of value [] = pos 0
  sum_of value (t ∷ ts) = t.number *ℤ product_of value t.brackets +ℤ sum_of value ts

  -- ---- degrees: of a product the sum, of a sum the largest
  abbrev pub degree_of_product : (X → ℕ) → List X → ℕ
  degree_of_product degree [] = 0
  degree_of_product degree (b ∷ bs) = degree b + degree_of_product degree bs

  abbrev pub degree_of_sum : (X → ℕ) → List (Product X) → ℕ
  degree_of_sum degree [] = 0
  degree_of_sum degree (t ∷ ts) = max (degree_of_product degree t.brackets) (degree_of_sum degree ts)

  -- ---- heights: those of the brackets multiplied, times the larger of 1 and the number, and
  -- all terms added up
  abbrev pub height_of_product : (X → ℕ) → List X → ℕ
  height_of_product height [] = 1
  height_of_product height (b ∷ bs) = height b * height_of_product height bs

  abbrev pub height_of_term : (X → ℕ) → Product X → ℕ
  height_of_term height t = max 1 (unsigned_abs t.number) * height_of_product height t.brackets

  abbrev pub height_of_sum : (X → ℕ) → List (Product X) → ℕ
  height_of_sum height [] = 0
  height_of_sum height (t ∷ ts) = height_of_term height t + height_of_sum height ts

  -- ---- coefficient lists
  abbrev pub list_of_product : (X → List ℤ) → List X → List ℤ
  list_of_product list [] = pos 1 ∷ []
  list_of_product list (b ∷ bs) = product_of_lists (list b) (list_of_product list bs)

  abbrev pub list_of_sum : (X → List ℤ) → List (Product X) → List ℤ
  list_of_sum list [] = []
  list_of_sum list (t ∷ ts) = sum_of_lists (multiple_of_list t.number (list_of_product list t.brackets)) (list_of_sum list ts)

  -- ---- tables of coefficients
  abbrev pub table_of_product : (X → List (List ℤ)) → List X → List (List ℤ)
  table_of_product table [] = (pos 1 ∷ []) ∷ []
  table_of_product table (b ∷ bs) = product_of_tables (table b) (table_of_product table bs)

  abbrev pub table_of_sum : (X → List (List ℤ)) → List (Product X) → List (List ℤ)
  table_of_sum table [] = []
  table_of_sum table (t ∷ ts) = sum_of_tables (multiple_of_table t.number (table_of_product table t.brackets)) (table_of_sum table ts)

-- ---- P holds of each of the three, of those of all brackets, and of those of all terms
abbrev pub AtBracket : {N : Type 0} → (N → Type 0) → Bracket N → Type 0
AtBracket P b = P b.first × P b.second × P b.third

abbrev pub AtProduct : {N : Type 0} → (N → Type 0) → List (Bracket N) → Type 0
AtProduct P bs = All (AtBracket P) bs

abbrev pub AtEach : {N : Type 0} → (N → Type 0) → List (Product (Bracket N)) → Type 0
AtEach {N} P ts = All (λ (t : Product (Bracket N)). AtProduct P t.brackets) ts
