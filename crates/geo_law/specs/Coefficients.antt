-- Coefficient lists: the entry at place i is the coefficient of the power i.
use Rattle.std.specs.Prelude.{◌≡◌, ◌≢◌, ◌+◌, List, [], ◌∷◌, length, ℤ, pos, negsuc, ◌+ℤ◌, ◌-ℤ◌, ◌*ℤ◌, AllPairs}

-- the value of a coefficient list at x
abbrev pub value_at : List ℤ → ℤ → ℤ
value_at [] x = pos 0
value_at (c ∷ cs) x = c +ℤ x *ℤ value_at cs x

abbrev pub sum_of_lists : List ℤ → List ℤ → List ℤ
sum_of_lists [] q = q
sum_of_lists (a ∷ p) [] = a ∷ p
sum_of_lists (a ∷ p) (b ∷ q) = (a +ℤ b) ∷ sum_of_lists p q

abbrev pub multiple_of_list : ℤ → List ℤ → List ℤ
multiple_of_list k [] = []
multiple_of_list k (a ∷ p) = (k *ℤ a) ∷ multiple_of_list k p

abbrev pub difference_of_lists : List ℤ → List ℤ → List ℤ
difference_of_lists p q = sum_of_lists p (multiple_of_list (negsuc 0) q)

abbrev pub product_of_lists : List ℤ → List ℤ → List ℤ
product_of_lists [] q = []
product_of_lists (a ∷ p) q = sum_of_lists (multiple_of_list a q) (pos 0 ∷ product_of_lists p q)

-- no value stands twice
abbrev pub AreDistinct : List ℤ → Type 0
AreDistinct xs = AllPairs (λ x y. x ≢ y) xs

abbrev pub IsZero : ℤ → Type 0
IsZero c = c ≡ pos 0

-- r is a root of p
abbrev pub IsRoot : List ℤ → ℤ → Type 0
IsRoot p r = value_at p r ≡ pos 0

-- p is x - r times q, and q is one shorter
pub record IsQuotient (p : List ℤ) (r : ℤ) (q : List ℤ) : Type 0 where
  pub one_shorter : length q + 1 ≡ length p
  pub times : (x : ℤ) → value_at p x ≡ (x -ℤ r) *ℤ value_at q x
