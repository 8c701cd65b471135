-- Two rising lists of axes with the same members are equal.
use Rattle.std.proofs.Common.{◌≡◌, sym, ap, refl, inl, inr, ℕ, zero, suc, ◌<◌, ◌⊎◌, ⊎_elim, List, [], ◌∷◌, length, get_or, arith}
use Rattle.std.specs.Prelude.{Contains, AllPairs}
use Rattle.geo_degree.specs.declared.grids.Axis.{Axis}

abbrev pub Rise : List Axis → Type 0
Rise axes = AllPairs (λ (a b : Axis). a.param < b.param) axes

rest_rise : (a : Axis) (axes : List Axis) → Rise (a ∷ axes) → Rise axes
rest_rise a axes r = λ i j d l m. r (suc i) (suc j) d (omega arith) (omega arith)

-- the members after the first are above it
above_first : (a b : Axis) (axes : List Axis) → Rise (a ∷ axes) → Contains axes b → a.param < b.param
above_first a b axes r h = let less = r 0 (suc h.0) b (omega arith) (omega (arith, h.1)) in omega (arith, less, ap (λ (c : Axis). c.param) h.2)

first_member : (a : Axis) (axes : List Axis) → Contains (a ∷ axes) a
first_member a axes = (0, omega arith, refl)

later_member : (a b : Axis) (axes : List Axis) → Contains axes a → Contains (b ∷ axes) a
later_member a b axes h = (suc h.0, omega (arith, h.1), h.2)

-- a member is the first, or stands after it
member_cases : (a b : Axis) (axes : List Axis) → Contains (b ∷ axes) a → (b ≡ a) ⊎ Contains axes a
member_cases a b axes h = by_place h.0 h.1 h.2
  where
    by_place : (k : ℕ) → k < length (b ∷ axes) → get_or (b ∷ axes) k a ≡ a → (b ≡ a) ⊎ Contains axes a
    by_place zero l e = inl e
    by_place (suc k) l e = inr (k, omega (arith, l), e)

no_member : {X : Type 0} (a : Axis) → Contains [] a → X
no_member a h = absurd (omega (arith, h.1))

-- of two rising lists with the same members the first ones are equal
first_same : (a b : Axis) (xs ys : List Axis) → Rise (a ∷ xs) → Rise (b ∷ ys) → Contains (b ∷ ys) a → Contains (a ∷ xs) b → a ≡ b
first_same a b xs ys ra rb h g =
    ⊎_elim (λ e. sym e) (λ k. ⊎_elim (λ e. e) (λ l. let less = above_first a b xs ra l in let more = above_first b a ys rb k in absurd (omega (arith, less, more))) (member_cases b a xs g)) (member_cases a b ys h)

-- and what stands after the first of one stands after the first of the other
rest_members : (a b : Axis) (xs ys : List Axis) → a ≡ b → Rise (a ∷ xs) → ((c : Axis) → Contains (a ∷ xs) c → Contains (b ∷ ys) c) → (c : Axis) → Contains xs c → Contains ys c
rest_members a b xs ys e r f c h =
    let less = above_first a c xs r h in
    ⊎_elim (λ q. absurd (omega (arith, less, ap (λ (x : Axis). x.param) e, ap (λ (x : Axis). x.param) q))) (λ k. k) (member_cases c b ys (f c (later_member c a xs h)))

pub same_rising : (xs ys : List Axis) → Rise xs → Rise ys → ((c : Axis) → Contains xs c → Contains ys c) → ((c : Axis) → Contains ys c → Contains xs c) → xs ≡ ys
same_rising [] [] ra rb f g = refl
same_rising [] (b ∷ ys) ra rb f g = no_member b (g b (first_member b ys))
same_rising (a ∷ xs) [] ra rb f g = no_member a (f a (first_member a xs))
same_rising (a ∷ xs) (b ∷ ys) ra rb f g =
    let first = first_same a b xs ys ra rb (f a (first_member a xs)) (g b (first_member b ys)) in
    let rest = same_rising xs ys (rest_rise a xs ra) (rest_rise b ys rb) (rest_members a b xs ys first ra f) (rest_members b a ys xs (sym first) rb g) in
    λ i. first i ∷ rest i
