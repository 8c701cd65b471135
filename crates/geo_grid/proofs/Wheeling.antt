-- The wheels of blocks, and how far each turns.
use Rattle.std.proofs.Common.{◌≡◌, ◌∙◌, sym, ap, refl, ℕ, zero, suc, ◌+◌, ◌-◌, ◌<◌, ◌≤◌, List, [], ◌∷◌, ◌++◌, length, get_or, take, arith}
use Rattle.std.proofs.lemmas.List.{take_more}
use Rattle.geo_degree.specs.declared.grids.Block.{Block}
use Rattle.geo_degree.specs.declared.grids.Block.TheVariants.{One, Pair}
use Rattle.geo_degree.specs.Blocks.{AreDigits, block_degrees}
use Rattle.geo_grid.specs.declared.search.wheels.Wheel.{Wheel}
use Rattle.geo_grid.specs.declared.search.wheels.Wheel.TheVariants.{Whole, Rest}
use Rattle.geo_grid.specs.Walks.{wheel_limit, wheels_of}
use Rattle.geo_grid.proofs.Ranks.{limits}

pub one_wheel_each : (bs : List Block) → length (wheels_of bs) ≡ length (block_degrees bs)
one_wheel_each [] = refl
one_wheel_each (One d ∷ bs) = ap suc (one_wheel_each bs)
one_wheel_each (Pair d ∷ bs) = ap (λ n. suc (suc n)) (one_wheel_each bs)

wheels_append : (bs cs : List Block) → wheels_of (bs ++ cs) ≡ wheels_of bs ++ wheels_of cs
wheels_append [] cs = refl
wheels_append (One d ∷ bs) cs = ap (λ ws. Whole d ∷ ws) (wheels_append bs cs)
wheels_append (Pair d ∷ bs) cs = ap (λ ws. Whole d ∷ Rest d ∷ ws) (wheels_append bs cs)

-- one more block
pub wheels_more : (bs : List Block) (k : ℕ) (b : Block) → k < length bs → wheels_of (take (k + 1) bs) ≡ wheels_of (take k bs) ++ wheels_of (get_or bs k b ∷ [])
wheels_more bs k b l = ap wheels_of (take_more bs k b l) ∙ wheels_append (take k bs) (get_or bs k b ∷ [])

-- the limit of a wheel, by the digit before it
pub limit_of_wheel : (bs : List Block) (ds : List ℕ) (k before : ℕ) → AreDigits bs ds → k < length ds → ((j : ℕ) → suc j ≡ k → before ≡ get_or ds j 0) → wheel_limit (get_or (wheels_of bs) k (Whole 0)) before ≡ get_or (limits bs ds) k 0
limit_of_wheel [] [] k before h l b = absurd (omega arith)
limit_of_wheel [] (x ∷ ds) k before h l b = absurd h
limit_of_wheel (One d ∷ bs) [] k before h l b = absurd h
limit_of_wheel (One d ∷ bs) (x ∷ ds) zero before h l b = refl
limit_of_wheel (One d ∷ bs) (x ∷ ds) (suc k) before h l b = limit_of_wheel bs ds k before h.1 (omega arith) (λ j e. b (suc j) (ap suc e))
limit_of_wheel (Pair d ∷ bs) [] k before h l b = absurd h
limit_of_wheel (Pair d ∷ bs) (x ∷ []) k before h l b = absurd h
limit_of_wheel (Pair d ∷ bs) (x ∷ y ∷ ds) zero before h l b = refl
limit_of_wheel (Pair d ∷ bs) (x ∷ y ∷ ds) (suc zero) before h l b = ap (λ n. d - n) (b 0 refl)
limit_of_wheel (Pair d ∷ bs) (x ∷ y ∷ ds) (suc (suc k)) before h l b = limit_of_wheel bs ds k before h.1 (omega arith) (λ j e. b (suc (suc j)) (ap (λ n. suc (suc n)) e))

-- a wheel that turns to a rest has a digit before it, which leaves one
pub rest_before : (bs : List Block) (ds : List ℕ) (k d : ℕ) → AreDigits bs ds → k < length ds → get_or (wheels_of bs) k (Whole 0) ≡ Rest d → (j : ℕ) × (suc j ≡ k) × (get_or ds j 0 ≤ d)
rest_before [] [] k d h l e = absurd (omega arith)
rest_before [] (x ∷ ds) k d h l e = absurd h
rest_before (One c ∷ bs) [] k d h l e = absurd h
rest_before (One c ∷ bs) (x ∷ ds) zero d h l e = cc
rest_before (One c ∷ bs) (x ∷ ds) (suc k) d h l e =
    let rest = rest_before bs ds k d h.1 (omega arith) e in
    (suc rest.0, ap suc rest.1, rest.2)
rest_before (Pair c ∷ bs) [] k d h l e = absurd h
rest_before (Pair c ∷ bs) (x ∷ []) k d h l e = absurd h
rest_before (Pair c ∷ bs) (x ∷ y ∷ ds) zero d h l e = cc
rest_before (Pair c ∷ bs) (x ∷ y ∷ ds) (suc zero) d h l e = let same : c ≡ d = cc in (0, refl, omega (arith, h.0, same))
rest_before (Pair c ∷ bs) (x ∷ y ∷ ds) (suc (suc k)) d h l e =
    let rest = rest_before bs ds k d h.1 (omega arith) e in
    (suc (suc rest.0), ap (λ n. suc (suc n)) rest.1, rest.2)

-- ---- while the digits before a place are still those of a point
-- the limit there
pub limit_now : (bs : List Block) (ds es : List ℕ) (k : ℕ) (ws : List Wheel) → ws ≡ wheels_of bs → AreDigits bs ds → k < length ds → ((j : ℕ) → j < k → get_or es j 0 ≡ get_or ds j 0) → wheel_limit (get_or ws k (Whole 0)) (get_or es (k - 1) 0) ≡ get_or (limits bs ds) k 0
limit_now bs ds es k ws e h l same =
    let before = get_or es (k - 1) 0 in
    let there : (j : ℕ) → suc j ≡ k → get_or es (k - 1) 0 ≡ get_or ds j 0 = λ j q. (let place : k - 1 ≡ j = omega arith in ap (λ n. get_or es n 0) place ∙ same j (omega arith)) in
    ap (λ (vs : List Wheel). wheel_limit (get_or vs k (Whole 0)) before) e ∙ limit_of_wheel bs ds k before h l there

-- and that a rest is one
pub rest_now : (bs : List Block) (ds es : List ℕ) (k d : ℕ) (ws : List Wheel) → ws ≡ wheels_of bs → AreDigits bs ds → k < length ds → ((j : ℕ) → j < k → get_or es j 0 ≡ get_or ds j 0) → get_or ws k (Whole 0) ≡ Rest d → (0 < k) × (get_or es (k - 1) 0 ≤ d)
rest_now bs ds es k d ws e h l same r =
    let rest = rest_before bs ds k d h l (ap (λ (vs : List Wheel). get_or vs k (Whole 0)) (sym e) ∙ r) in
    let place : k - 1 ≡ rest.0 = omega (arith, rest.1) in
    (omega (arith, rest.1), omega (arith, ap (λ n. get_or es n 0) place, same rest.0 (omega (arith, rest.1)), rest.2))
