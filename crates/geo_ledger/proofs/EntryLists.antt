-- A ledger is made entry by entry.
-- lemmas for other crates
use Rattle.std.proofs.Common.{◌≡◌, ◌∙◌, true, false, sym, ap, refl, Bool, ℕ, zero, suc, ◌+◌, ◌<◌, ◌≤◌, List, [], ◌∷◌, ◌++◌, length, map, take, get_or, arith, append_assoc}
use Rattle.std.specs.Prelude.{All, Contains, filter, not}
use Rattle.std.proofs.lemmas.List.{get_or-map, length-map, map-append, take_all, take_more}
use Rattle.std.proofs.lemmas.List.Elements.{All-append, All-contains_itself, All-filter, All-map, All-weaker, Contains-append_left}
use Rattle.geo_sketch.specs.declared.elements.Element.{Element}
use Rattle.geo_sketch.specs.declared.statements.Statement.{Statement}
use Rattle.geo_sketch.specs.Claims.{is_claimed}
use Rattle.geo_sketch.specs.Sketches.{ArePosed, Drawing, IsDrawn, IsPosed}
use Rattle.geo_guess.specs.Conjectures.{conjectures_of}
use Rattle.geo_guess.proofs.ListedLaws.{listed_posed}
use Rattle.geo_ledger.specs.declared.entry.Entry.{Entry}
use Rattle.geo_ledger.specs.Ledgers.{entry_in, further_claims, ledger_of, listed}

-- what holds of all members holds at each place
pub all_members : {X : Type 0} (P : X → Type 0) (xs : List X) → ((x : X) → Contains xs x → P x) → All P xs
all_members P xs h = All-weaker (Contains xs) P h xs (All-contains_itself xs)

pub posed_all : (es : List Element) (cs : List Statement) → ArePosed es cs → All (IsPosed es) cs
posed_all es [] h k d l = absurd (omega (arith, l))
posed_all es (c ∷ cs) h zero d l = h.0
posed_all es (c ∷ cs) h (suc k) d l = posed_all es cs h.1 k d (omega (arith, l))

-- what the ledger says of a statement that was guessed, and of one that was not
abbrev pub entry_for : Drawing → Bool → Statement → Entry
entry_for drawing guessed s = entry_in drawing (s, guessed)

-- one entry more
pub next_entry : (drawing : Drawing) (guessed : Bool) (statements : List Statement) (i : ℕ) (d : Statement) (before entries more : List Entry) → i < length statements → entries ≡ before ++ map (entry_for drawing guessed) (take i statements) → more ≡ entries ++ entry_for drawing guessed (get_or statements i d) ∷ [] → more ≡ before ++ map (entry_for drawing guessed) (take (i + 1) statements)
next_entry drawing guessed statements i d before entries more within so_far is =
    let entry = entry_for drawing guessed in
    is ∙ ap (λ (l : List Entry). l ++ entry (get_or statements i d) ∷ []) so_far
    ∙ append_assoc before (map entry (take i statements)) (entry (get_or statements i d) ∷ [])
    ∙ ap (λ (l : List Entry). before ++ l) (sym (ap (map entry) (take_more statements i d within) ∙ map-append entry (take i statements) (get_or statements i d ∷ [])))

pub all_entries : (drawing : Drawing) (guessed : Bool) (statements : List Statement) (i : ℕ) (before entries : List Entry) → length statements ≤ i → entries ≡ before ++ map (entry_for drawing guessed) (take i statements) → entries ≡ before ++ map (entry_for drawing guessed) statements
all_entries drawing guessed statements i before entries past so_far = so_far ∙ ap (λ (ss : List Statement). before ++ map (entry_for drawing guessed) ss) (take_all i statements past)

each_entry : (drawing : Drawing) (guessed : Bool) (statements : List Statement) → map (entry_for drawing guessed) statements ≡ map (entry_in drawing) (map (λ s. (s, guessed)) statements)
each_entry drawing guessed [] = refl
each_entry drawing guessed (s ∷ statements) = ap (λ (es : List Entry). entry_for drawing guessed s ∷ es) (each_entry drawing guessed statements)

-- the whole ledger
pub ledger_made : (drawing : Drawing) (noticed entries : List Entry) → noticed ≡ map (entry_for drawing true) (conjectures_of drawing.elements) → entries ≡ noticed ++ map (entry_for drawing false) (further_claims drawing) → entries ≡ ledger_of drawing
ledger_made drawing noticed entries first second =
    second
    ∙ (λ i. (first ∙ each_entry drawing true (conjectures_of drawing.elements)) i ++ each_entry drawing false (further_claims drawing) i)
    ∙ sym (map-append (entry_in drawing) (map (λ s. (s, true)) (conjectures_of drawing.elements)) (map (λ s. (s, false)) (further_claims drawing)))

-- what stands in a list stands in its image
contains_mapped : {X : Type 0} {Y : Type 0} (f : X → Y) (xs : List X) (x : X) → Contains xs x → Contains (map f xs) (f x)
contains_mapped f xs x h = (h.0, omega (arith, h.1, length-map xs f), get_or-map f xs h.0 x (f x) h.1 ∙ ap f h.2)

-- a conjecture has its entry
pub guess_listed : (drawing : Drawing) (s : Statement) → Contains (conjectures_of drawing.elements) s → Contains (ledger_of drawing) (entry_in drawing (s, true))
guess_listed drawing s h =
    contains_mapped (entry_in drawing) (listed drawing) (s, true)
    (Contains-append_left (map (λ t. (t, true)) (conjectures_of drawing.elements)) (map (λ t. (t, false)) (further_claims drawing)) (s, true) (contains_mapped (λ t. (t, true)) (conjectures_of drawing.elements) s h))

-- each line is about live elements of fitting kinds
pub lines_posed : (drawing : Drawing) → IsDrawn drawing → All (λ (line : Statement × Bool). IsPosed drawing.elements line.0) (listed drawing)
lines_posed drawing drawn =
    let es = drawing.elements in
    let P : Statement × Bool → Type 0 = λ line. IsPosed es line.0 in
    All-append P (map (λ s. (s, true)) (conjectures_of es)) (map (λ s. (s, false)) (further_claims drawing))
    (All-map P (λ s. (s, true)) (conjectures_of es) (all_members (IsPosed es) (conjectures_of es) (listed_posed es)))
    (All-map P (λ s. (s, false)) (further_claims drawing) (All-filter (λ s. not (is_claimed (conjectures_of es) s)) (IsPosed es) drawing.claims (posed_all es drawing.claims drawn.posed)))
