-- A quantity that is 0 on triangles in pairs of its variables, and on lists in the others, is 0 everywhere. With no pairs this is the law on grids.
-- lemmas for other crates
use Rattle.std.proofs.Common.{◌≡◌, ◌≢◌, ℕ, zero, suc, ◌+◌, ◌<◌, ◌≤◌, Bool, true, false, List, [], ◌∷◌, length, get_or, set, ℤ, pos, All, Contains, ⊎_elim, refl, ap, ◌∙◌, sym, arith, length-set, get_or-set_same, get_or-set_other}
use Rattle.std.proofs.lemmas.Bool.Decides.{nat_tests}
use Rattle.std.proofs.lemmas.Bool.{cases_eq, cases_lt}
use Rattle.std.proofs.lemmas.List.Elements.{All-get_or, All-from_get_or, Contains-get_or, All-contains_itself, recursion_from_All}
use Rattle.std.proofs.Math.Seq.{set-get_or}
use Rattle.std.specs.List.{AllByRecursion}
use Rattle.geo_law.specs.Coefficients.{value_at, AreDistinct, IsRoot}
use Rattle.geo_law.specs.Tables.{value_of_table}
use Rattle.geo_law.specs.Grids.{IsTaken, HasEnoughValues, IsZeroOnGrid, IsZeroEverywhere}
use Rattle.geo_law.specs.Triangles.{stands_in, ArePairs, values_for, IsOnTriangle, HasEnoughForTriangles, IsZeroOnTriangles}
use Rattle.geo_law.proofs.CoefficientLaws.{value_by_roots}
use Rattle.geo_law.proofs.TriangleLaws.{zero_on_triangle}

-- ---- places
-- a place of the pairs is not one that does not stand in them
apart : (ps : List (ℕ × ℕ)) (k m : ℕ) → stands_in ps k ≡ true → stands_in ps m ≡ false → k ≢ m
apart ps k m s t e = cc

first_stands : (p : ℕ × ℕ) (ps : List (ℕ × ℕ)) → stands_in (p ∷ ps) p.0 ≡ true
first_stands p ps = grind (arith, nat_tests)

second_stands : (p : ℕ × ℕ) (ps : List (ℕ × ℕ)) → stands_in (p ∷ ps) p.1 ≡ true
second_stands p ps = grind (arith, nat_tests)

rest_stands : (p : ℕ × ℕ) (ps : List (ℕ × ℕ)) (k : ℕ) → stands_in ps k ≡ true → stands_in (p ∷ ps) k ≡ true
rest_stands p ps k h = grind (arith, nat_tests)

-- the entries at places outside the pairs are values for these places
abbrev IsElsewhere : ℕ → List (ℕ × ℕ) → List (List ℤ) → List ℤ → Type 0
IsElsewhere n pairs grid xs = (k : ℕ) → k < n → stands_in pairs k ≡ false → Contains (values_for grid k) (get_or xs k (pos 0))

-- what has the same entries at the places of the pairs is on the triangles too
on_triangles : (grid : List (List ℤ)) (xs ys : List ℤ) (ps : List (ℕ × ℕ)) → ((k : ℕ) → stands_in ps k ≡ true → get_or ys k (pos 0) ≡ get_or xs k (pos 0)) → AllByRecursion (IsOnTriangle grid xs) ps → AllByRecursion (IsOnTriangle grid ys) ps
on_triangles grid xs ys [] same h = tt
on_triangles grid xs ys (p ∷ ps) same h = (
  (h.0.0, h.0.1, h.0.2, same p.0 (first_stands p ps) ∙ h.0.3, same p.1 (second_stands p ps) ∙ h.0.4),
  on_triangles grid xs ys ps (λ k s. same k (rest_stands p ps k s)) h.1,
)

-- ---- two entries that are put
abbrev put_both : List ℤ → ℕ × ℕ → ℤ → ℤ → List ℤ
put_both xs p x y = set (set xs p.0 x) p.1 y

length-put_both : (xs : List ℤ) (p : ℕ × ℕ) (x y : ℤ) → length (put_both xs p x y) ≡ length xs
length-put_both xs p x y = length-set (set xs p.0 x) p.1 y ∙ length-set xs p.0 x

first-put_both : (xs : List ℤ) (p : ℕ × ℕ) (x y : ℤ) → p.0 < length xs → p.0 ≢ p.1 → get_or (put_both xs p x y) p.0 (pos 0) ≡ x
first-put_both xs p x y l n = get_or-set_other (set xs p.0 x) p.1 p.0 y (pos 0) n ∙ get_or-set_same xs p.0 x (pos 0) l

second-put_both : (xs : List ℤ) (p : ℕ × ℕ) (x y : ℤ) → p.1 < length xs → get_or (put_both xs p x y) p.1 (pos 0) ≡ y
second-put_both xs p x y l = get_or-set_same (set xs p.0 x) p.1 y (pos 0) (omega (arith, length-set xs p.0 x))

other-put_both : (xs : List ℤ) (p : ℕ × ℕ) (x y : ℤ) (k : ℕ) → k ≢ p.0 → k ≢ p.1 → get_or (put_both xs p x y) k (pos 0) ≡ get_or xs k (pos 0)
other-put_both xs p x y k m n = get_or-set_other (set xs p.0 x) p.1 k y (pos 0) n ∙ get_or-set_other xs p.0 k x (pos 0) m

same-put_both : (xs : List ℤ) (p : ℕ × ℕ) → put_both xs p (get_or xs p.0 (pos 0)) (get_or xs p.1 (pos 0)) ≡ xs
same-put_both xs p = ap (λ ys. set ys p.1 (get_or xs p.1 (pos 0))) (set-get_or xs p.0 (pos 0)) ∙ set-get_or xs p.1 (pos 0)

module _ (n : ℕ) (pairs : List (ℕ × ℕ)) (value : List ℤ → ℤ) (coefficients : List ℤ → ℕ → List ℤ) (table : List ℤ → ℕ × ℕ → List (List ℤ))
    (agrees : (xs : List ℤ) (place : ℕ) (x : ℤ) → length xs ≡ n → place < n → value (set xs place x) ≡ value_at (coefficients xs place) x)
    (pairs_agree : (xs : List ℤ) (p : ℕ × ℕ) (x y : ℤ) → length xs ≡ n → Contains pairs p → value (set (set xs p.0 x) p.1 y) ≡ value_of_table (table xs p) x y)
    (grid : List (List ℤ)) (enough : HasEnoughForTriangles n pairs coefficients table grid) where
  distinct_at : (place : ℕ) → place < n → AreDistinct (values_for grid place)
  distinct_at place l = All-get_or AreDistinct grid place [] (omega (arith, enough.one_list_each)) enough.distinct

  -- two values from the triangle of a pair may be put there
  pair_put : (p : ℕ × ℕ) (ps : List (ℕ × ℕ)) → ArePairs n (p ∷ ps) → ((k : ℕ) → stands_in (p ∷ ps) k ≡ true → stands_in pairs k ≡ true)
      → (xs : List ℤ) → length xs ≡ n → AllByRecursion (IsOnTriangle grid xs) ps → (i j : ℕ) → i + j < length (values_for grid p.0)
      → AllByRecursion (IsOnTriangle grid (put_both xs p (get_or (values_for grid p.0) i (pos 0)) (get_or (values_for grid p.1) j (pos 0)))) (p ∷ ps)
  pair_put p ps are within xs l h i j lt =
      let x = get_or (values_for grid p.0) i (pos 0) in
      let y = get_or (values_for grid p.1) j (pos 0) in (
        (i, j, lt, first-put_both xs p x y (omega (arith, are.0)) are.2, second-put_both xs p x y (omega (arith, are.1))),
        on_triangles grid xs (put_both xs p x y) ps (λ k s. other-put_both xs p x y k (apart ps k p.0 s are.3) (apart ps k p.1 s are.4)) h,
      )

  -- and change nothing elsewhere
  elsewhere_put : (p : ℕ × ℕ) (ps : List (ℕ × ℕ)) → ((k : ℕ) → stands_in (p ∷ ps) k ≡ true → stands_in pairs k ≡ true)
      → (xs : List ℤ) (x y : ℤ) → IsElsewhere n pairs grid xs → IsElsewhere n pairs grid (put_both xs p x y)
  elsewhere_put p ps within xs x y e k l s =
      let m : k ≢ p.0 = λ q. apart pairs p.0 k (within p.0 (first_stands p ps)) s (sym q) in
      let o : k ≢ p.1 = λ q. apart pairs p.1 k (within p.1 (second_stands p ps)) s (sym q) in
      rw (other-put_both xs p x y k m o) (e k l s)

  -- what is 0 wherever a pair lies on its triangle is 0 wherever that pair lies
  free_pair : (p : ℕ × ℕ) (ps : List (ℕ × ℕ)) → ArePairs n (p ∷ ps) → Contains pairs p → ((k : ℕ) → stands_in (p ∷ ps) k ≡ true → stands_in pairs k ≡ true)
      → ((xs : List ℤ) → length xs ≡ n → AllByRecursion (IsOnTriangle grid xs) (p ∷ ps) → IsElsewhere n pairs grid xs → value xs ≡ pos 0)
      → (xs : List ℤ) → length xs ≡ n → AllByRecursion (IsOnTriangle grid xs) ps → IsElsewhere n pairs grid xs → value xs ≡ pos 0
  free_pair p ps are c within z xs l h e =
      let points : (i j : ℕ) → i + j < length (values_for grid p.0) → value_of_table (table xs p) (get_or (values_for grid p.0) i (pos 0)) (get_or (values_for grid p.1) j (pos 0)) ≡ pos 0
      = λ i j lt. let x = get_or (values_for grid p.0) i (pos 0) in let y = get_or (values_for grid p.1) j (pos 0) in
      sym (pairs_agree xs p x y l c) ∙ z (put_both xs p x y) (length-put_both xs p x y ∙ l) (pair_put p ps are within xs l h i j lt) (elsewhere_put p ps within xs x y e) in
      ap value (sym (same-put_both xs p))
      ∙ pairs_agree xs p (get_or xs p.0 (pos 0)) (get_or xs p.1 (pos 0)) l c
      ∙ zero_on_triangle (values_for grid p.0) (values_for grid p.1) (length (values_for grid p.0)) (table xs p) (enough.triangles xs p l c) (distinct_at p.0 are.0) (distinct_at p.1 are.1) (omega arith) (omega (arith, enough.as_many p c)) points (get_or xs p.0 (pos 0)) (get_or xs p.1 (pos 0))

  free_pairs : (ps : List (ℕ × ℕ)) → ArePairs n ps → AllByRecursion (Contains pairs) ps → ((k : ℕ) → stands_in ps k ≡ true → stands_in pairs k ≡ true)
      → ((xs : List ℤ) → length xs ≡ n → AllByRecursion (IsOnTriangle grid xs) ps → IsElsewhere n pairs grid xs → value xs ≡ pos 0)
      → (xs : List ℤ) → length xs ≡ n → IsElsewhere n pairs grid xs → value xs ≡ pos 0
  free_pairs [] are c within z xs l e = z xs l tt e
  free_pairs (p ∷ ps) are c within z xs l e =
      free_pairs ps are.5 c.1 (λ k s. within k (rest_stands p ps k s)) (free_pair p ps are c.0 within z) xs l e

  -- ---- the other places, one after the other
  -- the entries from place j on that stand in no pair are values for their places
  abbrev IsFrom : ℕ → List ℤ → Type 0
  IsFrom j xs = (k : ℕ) → j ≤ k → k < n → stands_in pairs k ≡ false → Contains (values_for grid k) (get_or xs k (pos 0))

  free_place : (j : ℕ) → j < n → stands_in pairs j ≡ false → ((xs : List ℤ) → length xs ≡ n → IsFrom j xs → value xs ≡ pos 0) → (xs : List ℤ) → length xs ≡ n → IsFrom (suc j) xs → value xs ≡ pos 0
  free_place j lt s z xs l h =
      ap value (sym (set-get_or xs j (pos 0)))
      ∙ agrees xs j (get_or xs j (pos 0)) l lt
      ∙ value_by_roots (coefficients xs j) (values_for grid j) (distinct_at j lt) (enough.enough xs j l lt s) roots (get_or xs j (pos 0))
    where
      put : (v : ℤ) → Contains (values_for grid j) v → IsFrom j (set xs j v)
      put v c = λ k m o t. ⊎_elim
          (λ (q : k ≡ j). rw (q, get_or-set_same xs j v (pos 0) (omega arith)) c)
          (λ (q : k ≢ j). rw (get_or-set_other xs j k v (pos 0) q) (h k (omega arith) o t))
          (cases_eq k j)

      roots : All (IsRoot (coefficients xs j)) (values_for grid j)
      roots = All-from_get_or (IsRoot (coefficients xs j)) (values_for grid j) (pos 0) (λ i m. let v = get_or (values_for grid j) i (pos 0) in sym (agrees xs j v l lt) ∙ z (set xs j v) (length-set xs j v ∙ l) (put v (Contains-get_or (values_for grid j) i (pos 0) m)))

  next_place : (j : ℕ) → ((xs : List ℤ) → length xs ≡ n → IsFrom j xs → value xs ≡ pos 0) → (b : Bool) → stands_in pairs j ≡ b → (xs : List ℤ) → length xs ≡ n → IsFrom (suc j) xs → value xs ≡ pos 0
  next_place j z true e xs l h = z xs l (λ k m lt s. h k (omega (arith, apart pairs j k e s)) lt s)
  next_place j z false e xs l h =
      ⊎_elim (λ (lt : j < n). free_place j lt e z xs l h) (λ (ge : n ≤ j). z xs l (λ k m lt s. h k (omega arith) lt s)) (cases_lt j n)

  free_places : ((xs : List ℤ) → length xs ≡ n → IsElsewhere n pairs grid xs → value xs ≡ pos 0) → (j : ℕ) → (xs : List ℤ) → length xs ≡ n → IsFrom j xs → value xs ≡ pos 0
  free_places z zero xs l h = z xs l (λ k m s. h k (omega arith) m s)
  free_places z (suc j) xs l h = next_place j (free_places z j) (stands_in pairs j) refl xs l h

  pub zero_by_triangles : ArePairs n pairs → IsZeroOnTriangles value n pairs grid → IsZeroEverywhere value n
  zero_by_triangles are z xs l =
      let freed : (xs : List ℤ) → length xs ≡ n → IsElsewhere n pairs grid xs → value xs ≡ pos 0
      = free_pairs pairs are (recursion_from_All (Contains pairs) pairs (All-contains_itself pairs)) (λ k s. s) (λ xs l h e. z xs (record { length_is = l; in_pairs = h; elsewhere = e })) in
      free_places freed n xs l (λ k m lt s. absurd (omega arith))

-- ---- no pairs
all_taken : (grid : List (List ℤ)) (xs : List ℤ) → length grid ≡ length xs → ((k : ℕ) → k < length xs → Contains (get_or grid k []) (get_or xs k (pos 0))) → IsTaken grid xs
all_taken [] [] l h = tt
all_taken [] (x ∷ xs) l h = absurd (omega arith)
all_taken (g ∷ gs) [] l h = absurd (omega arith)
all_taken (g ∷ gs) (x ∷ xs) l h = (h 0 (omega arith), all_taken gs xs (omega arith) (λ k m. h (suc k) (omega arith)))

no_pair : (p : ℕ × ℕ) {P : Type 0} → Contains [] p → P
no_pair p c = absurd (omega (arith, c.1))

pub zero_by_grid : (n : ℕ) (value : List ℤ → ℤ) (coefficients : List ℤ → ℕ → List ℤ)
    → ((xs : List ℤ) (place : ℕ) (x : ℤ) → length xs ≡ n → place < n → value (set xs place x) ≡ value_at (coefficients xs place) x)
    → (grid : List (List ℤ)) → HasEnoughValues n coefficients grid → IsZeroOnGrid value grid → IsZeroEverywhere value n
zero_by_grid n value coefficients agrees grid h z =
    zero_by_triangles n [] value coefficients (λ xs p. []) agrees (λ xs p x y l c. no_pair p c) grid
    (record { one_list_each = h.one_list_each; distinct = h.distinct; as_many = λ p c. no_pair p c; triangles = λ xs p l c. tt; enough = λ xs k l m s. h.enough xs k l m })
    tt
    (λ xs on. z xs (all_taken grid xs (h.one_list_each ∙ sym on.length_is) (λ k m. on.elsewhere k (omega (arith, on.length_is)) refl)))
