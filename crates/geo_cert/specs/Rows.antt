-- Reading the values of a row one after another.
use Rattle.std.specs.Prelude.{ℕ, ◌^◌, ◌∷◌, nat_lt, if◌then◌else◌, ℤ, pos, negsuc, List, [], Option, Some, None, option_and_then, option_map}
use Rattle.serde_json.specs.Data.{Num, unsigned, negative, float, Data, null, boolean, number, string, array, object, Items, no_items, item}
use Rattle.serde_json.specs.Find.{as_array, as_number}

-- ---- numbers
-- a whole number from -2^31 to 2^31 - 1
abbrev pub whole_number : Num → Option ℤ
whole_number (unsigned n) = if nat_lt n (2 ^ 31) then Some (pos n) else None
whole_number (negative (pos n)) = None
whole_number (negative (negsuc n)) = if nat_lt n (2 ^ 31) then Some (negsuc n) else None
whole_number (float x) = None

abbrev pub whole : Data → Option ℤ
whole d = option_and_then whole_number (as_number d)

-- one that is not negative
abbrev pub count_number : Num → Option ℕ
count_number (unsigned n) = if nat_lt n (2 ^ 31) then Some n else None
count_number (negative z) = None
count_number (float x) = None

abbrev pub count : Data → Option ℕ
count d = option_and_then count_number (as_number d)

-- ---- rows
-- what the first value reads as, and the values behind it
abbrev pub next : {A : Type 0} → (Data → Option A) → Items → Option (A × Items)
next read no_items = None
next read (item d ds) = option_map (λ a. (a, ds)) (read d)

-- the first value is read, and then one goes on with the others
abbrev pub then_next : {A B : Type 0} → (Data → Option A) → Items → (A → Items → Option B) → Option B
then_next read ds go = option_and_then (λ p. go p.0 p.1) (next read ds)

-- nothing is left
abbrev pub ended : {A : Type 0} → A → Items → Option A
ended a no_items = Some a
ended a (item d ds) = None

-- a row in which all values read
abbrev pub row_in : {A : Type 0} → (Items → Option A) → Data → Option A
row_in read d = option_and_then read (as_array d)

abbrev pub all_in : {A : Type 0} → (Data → Option A) → Items → Option (List A)
all_in read no_items = Some []
all_in read (item d ds) = option_and_then (λ a. option_map (λ xs. a ∷ xs) (all_in read ds)) (read d)

-- a row of rows
abbrev pub rows_in : {A : Type 0} → (Items → Option A) → Data → Option (List A)
rows_in read d = row_in (all_in (row_in read)) d

-- a row of whole numbers
abbrev pub wholes : Items → Option (List ℤ)
wholes ds = all_in whole ds
