-- A view of the sketch before a change that is told what is handed on of it is a view of
-- the sketch after it.
use Rattle.std.proofs.Common.{◌≡◌, ◌∙◌, sym, ap, refl, ℕ, ◌+◌, ◌<◌, ◌≤◌, ◌++◌, ◌==◌, Bool, true, false, Some, List, [], ◌∷◌, map, if◌then◌else◌, arith}
use Rattle.std.specs.Prelude.{nat_lt}
use Rattle.std.specs.List.{filter}
use Rattle.std.proofs.lemmas.Bool.{cond_both, eqb-true, ne_eqb, ltb-false, ltb-true, eq-eqb}
use Rattle.geo_sketch.specs.declared.elements.Element.{Element}
use Rattle.geo_sketch.specs.Lookups.{Rises, numbered}
use Rattle.geo_sketch.specs.Changes.{without}
use Rattle.geo_sketch.proofs.NumberLaws.{found_from}
use Rattle.geo_view.specs.declared.shown.Change.TheVariants.{Put}
use Rattle.geo_eval.specs.declared.here.Shown.{Shown}
use Rattle.geo_view.specs.Entries.{put, seen, without as left}

less : (m n : ℕ) → m < n → nat_lt m n ≡ true
less m n h = cond_both (nat_lt m n) true false (λ b. b ≡ true → nat_lt m n ≡ true) (λ t q. t) (λ t q. absurd (omega (arith, h, ltb-false m n t))) (by_test (nat_lt m n) refl)
  where
    by_test : (b : Bool) → nat_lt m n ≡ b → (if nat_lt m n then true else false) ≡ true
    by_test true q = rw q refl
    by_test false q = absurd (omega (arith, h, ltb-false m n q))

module _ (f g : Element → Shown) (f_number : (e : Element) → (f e).number ≡ e.number) (g_number : (e : Element) → (g e).number ≡ e.number) where
  -- entries with larger numbers are put behind
  keep_first : (test : Element → Bool) (x : Shown) (low : ℕ) (es : List Element) (xs : List Shown) → x.number < low → Rises low es → seen (map (λ e. Put (g e)) (filter test es)) (x ∷ xs) ≡ x ∷ seen (map (λ e. Put (g e)) (filter test es)) xs
  keep_first test x low [] xs h r = refl
  keep_first test x low (e ∷ es) xs h r = by_test (test e) refl (keep_first test x (e.number + 1) es (put (g e) xs) (omega (arith, h, r.0)) r.1) (keep_first test x (e.number + 1) es xs (omega (arith, h, r.0)) r.1)
    where
      behind : put (g e) (x ∷ xs) ≡ x ∷ put (g e) xs
      behind = rw (less x.number (g e).number (omega (arith, h, r.0, g_number e))) refl

      by_test : (t : Bool) → test e ≡ t
          → seen (map (λ e. Put (g e)) (filter test es)) (x ∷ put (g e) xs) ≡ x ∷ seen (map (λ e. Put (g e)) (filter test es)) (put (g e) xs)
          → seen (map (λ e. Put (g e)) (filter test es)) (x ∷ xs) ≡ x ∷ seen (map (λ e. Put (g e)) (filter test es)) xs
          → seen (map (λ e. Put (g e)) (filter test (e ∷ es))) (x ∷ xs) ≡ x ∷ seen (map (λ e. Put (g e)) (filter test (e ∷ es))) xs
      by_test true t in_it out = rw t (ap (seen (map (λ e. Put (g e)) (filter test es))) behind ∙ in_it)
      by_test false t in_it out = rw t out

  -- those that differ are put anew
  pub put_anew : (test : Element → Bool) (low : ℕ) (es : List Element) → Rises low es → ((e : Element) → numbered es e.number ≡ Some e → test e ≡ false → f e ≡ g e) → seen (map (λ e. Put (g e)) (filter test es)) (map f es) ≡ map g es
  put_anew test low [] r same = refl
  put_anew test low (e ∷ es) r same = by_test (test e) refl (put_anew test (e.number + 1) es r.1 (λ x h t. same x (found_behind x h) t))
    where
      found_behind : (x : Element) → numbered es x.number ≡ Some x → numbered (e ∷ es) x.number ≡ Some x
      found_behind x h = rw (ne_eqb e.number x.number (λ q. absurd (omega (arith, q, found_from (e.number + 1) es x.number x r.1 h)))) h

      here : numbered (e ∷ es) e.number ≡ Some e
      here = rw (eq-eqb e.number e.number refl) refl

      own : (xs : List Shown) → put (g e) (f e ∷ xs) ≡ g e ∷ xs
      own xs =
          let level : nat_lt (f e).number (g e).number ≡ false = not_less (f e).number (g e).number (f_number e ∙ sym (g_number e)) in
          rw (level, eq-eqb (f e).number (g e).number (f_number e ∙ sym (g_number e))) refl
        where
          not_less : (m n : ℕ) → m ≡ n → nat_lt m n ≡ false
          not_less m n q = by_less (nat_lt m n) refl
            where
              by_less : (b : Bool) → nat_lt m n ≡ b → nat_lt m n ≡ false
              by_less true t = absurd (omega (arith, q, ltb-true m n t))
              by_less false t = t

      by_test : (t : Bool) → test e ≡ t → seen (map (λ e. Put (g e)) (filter test es)) (map f es) ≡ map g es → seen (map (λ e. Put (g e)) (filter test (e ∷ es))) (map f (e ∷ es)) ≡ map g (e ∷ es)
      by_test true t rest = rw t (ap (seen (map (λ e. Put (g e)) (filter test es))) (own (map f es)) ∙ keep_first test (g e) (e.number + 1) es (map f es) (omega (arith, g_number e)) r.1 ∙ ap (λ (l : List Shown). g e ∷ l) rest)
      by_test false t rest =
          rw t (keep_first test (f e) (e.number + 1) es (map f es) (omega (arith, f_number e)) r.1 ∙ (λ i. same e here t i ∷ rest i))

module _ (g : Element → Shown) (g_number : (e : Element) → (g e).number ≡ e.number) where
  -- an entry with the greatest number is put last
  pub put_last : (low : ℕ) (es : List Element) (x : Element) → Rises low es → ((n : ℕ) (e : Element) → numbered es n ≡ Some e → n < x.number) → put (g x) (map g es) ≡ map g (es ++ x ∷ [])
  put_last low [] x r above = refl
  put_last low (e ∷ es) x r above =
      rw (less (g e).number (g x).number (omega (arith, g_number e, g_number x, above e.number e (rw (eq-eqb e.number e.number refl) refl))))
      (ap (λ (l : List Shown). g e ∷ l) (put_last (e.number + 1) es x r.1 (λ n y h. above n y (rw (ne_eqb e.number n (λ q. absurd (omega (arith, q, found_from (e.number + 1) es n y r.1 h)))) h))))

  -- an entry that left is put back in its place
  pub put_back : (low : ℕ) (es : List Element) (x : Element) → Rises low es → numbered es x.number ≡ Some x → put (g x) (map g (without es x.number)) ≡ map g es
  put_back low [] x r h = cc
  put_back low (e ∷ es) x r h = by_test (e.number == x.number) refl h (λ i. put_back (e.number + 1) es x r.1 i)
    where
      first : (ys : List Element) → Rises (e.number + 1) ys → e.number ≡ x.number → put (g x) (map g ys) ≡ g x ∷ map g ys
      first [] q same = refl
      first (y ∷ ys) q same =
          let high : nat_lt (g y).number (g x).number ≡ false = not_less (g y).number (g x).number (omega (arith, g_number y, g_number x, q.0, same)) in
          rw (high, ne_eqb (g y).number (g x).number (λ p. absurd (omega (arith, p, g_number y, g_number x, q.0, same)))) refl
        where
          not_less : (m n : ℕ) → n ≤ m → nat_lt m n ≡ false
          not_less m n low = by_less (nat_lt m n) refl
            where
              by_less : (b : Bool) → nat_lt m n ≡ b → nat_lt m n ≡ false
              by_less true t = absurd (omega (arith, low, ltb-true m n t))
              by_less false t = t

      by_test : (t : Bool) → (e.number == x.number) ≡ t → (if t then Some e else numbered es x.number) ≡ Some x → (numbered es x.number ≡ Some x → put (g x) (map g (without es x.number)) ≡ map g es) → put (g x) (map g (without (e ∷ es) x.number)) ≡ map g (e ∷ es)
      by_test true t found rest =
          let same : e ≡ x = cc in
          rw t (first es r.1 (eqb-true e.number x.number t) ∙ ap (λ (y : Element). g y ∷ map g es) (sym same))
      by_test false t found rest =
          rw t (rw (less (g e).number (g x).number (omega (arith, g_number e, g_number x, found_from (e.number + 1) es x.number x r.1 found))) (ap (λ (l : List Shown). g e ∷ l) (rest found)))

  -- the entry of an element that leaves is taken out
  pub taken_out : (low : ℕ) (es : List Element) (n : ℕ) → Rises low es → left n (map g es) ≡ map g (without es n)
  taken_out low [] n r = refl
  taken_out low (e ∷ es) n r = by_test (e.number == n) refl (taken_out (e.number + 1) es n r.1)
    where
      all_left : (low : ℕ) (ys : List Element) → n < low → Rises low ys → left n (map g ys) ≡ map g ys
      all_left low [] h q = refl
      all_left low (y ∷ ys) h q = rw (ap (λ m. m == n) (g_number y), ne_eqb y.number n (λ p. absurd (omega (arith, p, h, q.0)))) (ap (λ (l : List Shown). g y ∷ l) (all_left (y.number + 1) ys (omega (arith, h, q.0)) q.1))

      by_test : (t : Bool) → (e.number == n) ≡ t → left n (map g es) ≡ map g (without es n) → left n (map g (e ∷ es)) ≡ map g (without (e ∷ es) n)
      by_test true t rest = rw (ap (λ m. m == n) (g_number e), t) (all_left (e.number + 1) es (omega (arith, eqb-true e.number n t)) r.1)
      by_test false t rest = rw (ap (λ m. m == n) (g_number e), t) (ap (λ (l : List Shown). g e ∷ l) rest)
