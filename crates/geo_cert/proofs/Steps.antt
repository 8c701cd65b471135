-- What a step of reading found, from its answer.
use Rattle.std.proofs.Common.{◌≡◌, ℕ, List, Bool, true, false, Option, Some, None, refl, ap}
use Rattle.std.specs.Prelude.{if◌then◌else◌, ◌&&◌, option_and_then, option_map}
use Rattle.std.specs.Str.{bytes_eq}
use Rattle.std.proofs.Common.{arith}
use Rattle.std.proofs.lemmas.Slice.Eq.{bytes_eq-Decides}
use Rattle.serde_json.specs.Data.{Data, null, boolean, number, string, array, object, Items, no_items, item, Members, no_members, member}
use Rattle.serde_json.specs.Find.{as_array, as_object, as_str}
use Rattle.geo_cert.specs.Objects.{all_taken, next_member, then_member}
use Rattle.geo_cert.specs.Rows.{ended, next, then_next}

-- ---- rows
first_some : {A B P : Type 0} (o : Option A) (ds : Items) (go : A → Items → Option B) (b : B) → option_and_then (λ (p : A × Items). go p.0 p.1) (option_map (λ a. (a, ds)) o) ≡ Some b → ((a : A) → o ≡ Some a → go a ds ≡ Some b → P) → P
first_some None ds go b e k = absurd (cc)
first_some (Some a) ds go b e k = k a refl e

pub then_next_some : {A B P : Type 0} (read : Data → Option A) (ds : Items) (go : A → Items → Option B) (b : B) → then_next read ds go ≡ Some b → ((d : Data) (a : A) (rest : Items) → ds ≡ item d rest → read d ≡ Some a → go a rest ≡ Some b → P) → P
then_next_some read no_items go b e k = absurd (cc)
then_next_some read (item d ds) go b e k = first_some (read d) ds go b e (λ a h f. k d a ds refl h f)

pub ended_some : {A P : Type 0} (a : A) (ds : Items) (b : A) → ended a ds ≡ Some b → (ds ≡ no_items → a ≡ b → P) → P
ended_some a no_items b e k = k refl (cc)
ended_some a (item d ds) b e k = absurd (cc)

pub option_map_some : {A B P : Type 0} (f : A → B) (o : Option A) (b : B) → option_map f o ≡ Some b → ((a : A) → o ≡ Some a → f a ≡ b → P) → P
option_map_some f None b e k = absurd (cc)
option_map_some f (Some a) b e k = k a refl (cc)

next_of : {A P : Type 0} (o : Option A) (ds : Items) (x : A × Items) → option_map (λ a. (a, ds)) o ≡ Some x → (ds ≡ x.1 → o ≡ Some x.0 → P) → P
next_of {A} o ds x e k = option_map_some (λ a. (a, ds)) o x e (λ a h i. k (ap (λ (y : A × Items). y.1) i) (rw h (ap (λ (y : A × Items). Some y.0) i)))

pub next_some : {A P : Type 0} (read : Data → Option A) (ds : Items) (x : A × Items) → next read ds ≡ Some x → ((d : Data) → ds ≡ item d x.1 → read d ≡ Some x.0 → P) → P
next_some read no_items x e k = absurd (cc)
next_some read (item d ds) x e k = next_of (read d) ds x e (λ h f. k d (ap (item d) h) f)

-- ---- tests
pub if_some : {A P : Type 0} (t : Bool) (a b : A) → (if t then Some a else None) ≡ Some b → (t ≡ true → a ≡ b → P) → P
if_some true a b e k = k refl (cc)
if_some false a b e k = absurd (cc)

pub by_test : {A P : Type 0} (t : Bool) (a b : Option A) (c : A) → (if t then a else b) ≡ Some c → (a ≡ Some c → P) → (b ≡ Some c → P) → P
by_test true a b c e f g = f e
by_test false a b c e f g = g e

pub both_true : {P : Type 0} (a b : Bool) → (a && b) ≡ true → (a ≡ true → b ≡ true → P) → P
both_true true b e k = k refl e
both_true false b e k = absurd (cc)

pub bytes_are : (k key : List ℕ) → bytes_eq k key ≡ true → k ≡ key
bytes_are k key t = grind (arith, bytes_eq-Decides)

-- ---- values
pub string_only : (d : Data) (w : List ℕ) → as_str d ≡ Some w → d ≡ string w
string_only null w e = absurd (cc)
string_only (boolean b) w e = absurd (cc)
string_only (number n) w e = absurd (cc)
string_only (string s) w e = ap string (cc)
string_only (array ds) w e = absurd (cc)
string_only (object ms) w e = absurd (cc)

pub array_only : (d : Data) (ds : Items) → as_array d ≡ Some ds → d ≡ array ds
array_only null ds e = absurd (cc)
array_only (boolean b) ds e = absurd (cc)
array_only (number n) ds e = absurd (cc)
array_only (string s) ds e = absurd (cc)
array_only (array cs) ds e = ap array (cc)
array_only (object ms) ds e = absurd (cc)

pub object_only : (d : Data) (ms : Members) → as_object d ≡ Some ms → d ≡ object ms
object_only null ms e = absurd (cc)
object_only (boolean b) ms e = absurd (cc)
object_only (number n) ms e = absurd (cc)
object_only (string s) ms e = absurd (cc)
object_only (array ds) ms e = absurd (cc)
object_only (object ns) ms e = ap object (cc)

-- ---- members
test_some : {B P : Type 0} (t : Bool) (d : Data) (ms : Members) (go : Data → Members → Option B) (b : B) → option_and_then (λ (p : Data × Members). go p.0 p.1) (if t then Some (d, ms) else None) ≡ Some b → (t ≡ true → go d ms ≡ Some b → P) → P
test_some true d ms go b e k = k refl e
test_some false d ms go b e k = absurd (cc)

pub then_member_some : {B P : Type 0} (key : List ℕ) (ms : Members) (go : Data → Members → Option B) (b : B) → then_member key ms go ≡ Some b → ((d : Data) (rest : Members) → ms ≡ member key d rest → go d rest ≡ Some b → P) → P
then_member_some key no_members go b e k = absurd (cc)
then_member_some key (member l d ms) go b e k = test_some (bytes_eq l key) d ms go b e (λ t g. k d ms (ap (λ x. member x d ms) (bytes_are l key t)) g)

pub all_taken_some : {B P : Type 0} (a : B) (ms : Members) (b : B) → all_taken a ms ≡ Some b → (ms ≡ no_members → a ≡ b → P) → P
all_taken_some a no_members b e k = k refl (cc)
all_taken_some a (member l d ms) b e k = absurd (cc)
