-- What the first changes of a list make, change by change.
use Rattle.std.proofs.Common.{◌≡◌, ◌∙◌, sym, ap, subst, refl, ℕ, ◌+◌, ◌-◌, ◌<◌, ◌≤◌, ◌≢◌, ◌++◌, List, [], ◌∷◌, length, get_or, take, drop, arith}
use Rattle.std.proofs.lemmas.List.{drop_more, take-append-drop, take_more}
use Rattle.geo_sketch.specs.declared.changes.Delta.{Delta}
use Rattle.geo_sketch.specs.Changes.{applied, AllLead, LeadsFrom, LeadsTo, made_of, taken_back}
use Rattle.geo_sketch.specs.Sketches.{blank, Drawing, IsDrawn}
use Rattle.geo_undo.specs.Timelines.{IsSound, Timeline}
use Rattle.geo_sketch.proofs.ChangeLaws.{blank_drawn, lead_both, lead_front, lead_rest, made_both, made_drawn, taken_applied}

-- the first i changes lead
front_leads : (xs : List Delta) (i : ℕ) → AllLead blank xs → AllLead blank (take i xs)
front_leads xs i h = lead_front blank (take i xs) (drop i xs) (subst (λ (ys : List Delta). AllLead blank ys) (sym (take-append-drop i xs)) h)

-- and what they make is a well-formed sketch
pub front_drawn : (k : Drawing) (xs : List Delta) (i : ℕ) → k ≡ made_of (take i xs) → AllLead blank xs → IsDrawn k
front_drawn k xs i here h = subst (λ (l : Drawing). IsDrawn l) (sym here) (made_drawn blank (take i xs) blank_drawn (front_leads xs i h))

-- as is what the done changes of a sound timeline make
pub done_drawn : (timeline : Timeline) → IsSound timeline → IsDrawn (made_of timeline.done)
done_drawn timeline sound = made_drawn blank timeline.done blank_drawn (lead_front blank timeline.done timeline.undone sound)

-- in place of the later ones may stand a change that leads from what the first i make
pub lead_on : (xs : List Delta) (i : ℕ) (d : Delta) → AllLead blank xs → LeadsFrom (made_of (take i xs)) d → AllLead blank (take i xs ++ d ∷ [])
lead_on xs i d h leads = lead_both blank (take i xs) (d ∷ []) (front_leads xs i h) (leads, tt)

-- the change at place i leads from the sketch that those before it make
pub next_leads : (k : Drawing) (xs : List Delta) (i : ℕ) (d : Delta) → k ≡ made_of (take i xs) → AllLead blank xs → i < length xs → d ≡ get_or xs i d → LeadsFrom k d
next_leads k xs i d here h within at =
    let parts : xs ≡ take i xs ++ d ∷ drop (i + 1) xs = sym (take-append-drop i xs) ∙ ap (λ (ys : List Delta). take i xs ++ ys) (drop_more xs i d within ∙ ap (λ (x : Delta). x ∷ drop (i + 1) xs) (sym at)) in
    subst (λ (l : Drawing). LeadsFrom l d) (sym here) (lead_rest blank (take i xs) (d ∷ drop (i + 1) xs) (subst (λ (ys : List Delta). AllLead blank ys) parts h)).0

-- and with it they make what it makes of that sketch
pub next_makes : (k : Drawing) (xs : List Delta) (i : ℕ) (d : Delta) → k ≡ made_of (take i xs) → i < length xs → d ≡ get_or xs i d → applied k d ≡ made_of (take (i + 1) xs)
next_makes k xs i d here within at =
    ap (λ (l : Drawing). applied l d) here ∙ sym (made_both blank (take i xs) (d ∷ [])) ∙ ap (λ (ys : List Delta). made_of ys) (ap (λ (x : Delta). take i xs ++ x ∷ []) at ∙ sym (take_more xs i d within))

-- of the first n changes the last one led to what they make, from what the others make
module _ (k : Drawing) (xs : List Delta) (n : ℕ) (d : Delta) (here : k ≡ made_of (take n xs)) (h : (n ≤ length xs) × AllLead blank xs) (some : n ≢ 0) (at : d ≡ get_or xs (n - 1) d) where
  within : n - 1 < length xs
  within = omega (arith, h.0, some)

  drawn : IsDrawn (made_of (take (n - 1) xs))
  drawn = front_drawn (made_of (take (n - 1) xs)) xs (n - 1) refl h.1

  leads : LeadsFrom (made_of (take (n - 1) xs)) d
  leads = next_leads (made_of (take (n - 1) xs)) xs (n - 1) d refl h.1 within at

  gives : applied (made_of (take (n - 1) xs)) d ≡ k
  gives =
      let last : n - 1 + 1 ≡ n = omega (arith, some) in
      next_makes (made_of (take (n - 1) xs)) xs (n - 1) d refl within at ∙ ap (λ (m : ℕ). made_of (take m xs)) last ∙ sym here

  pub last_led : LeadsTo k d
  last_led = record { before = made_of (take (n - 1) xs); drawn = drawn; leads = leads; gives = gives }

  pub last_taken : taken_back k d ≡ made_of (take (n - 1) xs)
  last_taken = ap (λ (l : Drawing). taken_back l d) (sym gives) ∙ taken_applied (made_of (take (n - 1) xs)) d drawn leads
