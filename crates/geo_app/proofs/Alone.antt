-- A script that is carried out on its own, as far as some line.
use Rattle.std.proofs.Common.{◌≡◌, ◌∙◌, sym, ap, refl, ℕ, suc, ◌+◌, ◌<◌, ◌≤◌, ◌++◌, Bool, false, ◌||◌, Option, List, [], ◌∷◌, length, drop, get_or, append-nil, append_assoc}
use Rattle.std.proofs.Math.ListN.{drop_of_length-le}
use Rattle.std.proofs.Math.Numerals.{add-one}
use Rattle.std.proofs.Math.Seq.{drop-cons}
use Rattle.geo_view.specs.Sights.{Sight}
use Rattle.geo_session.specs.Printed.{text_of}
use Rattle.geo_session.specs.Standing.{StandsFor}
use Rattle.geo_script.specs.declared.script.Script.{Script}
use Rattle.geo_script.specs.Places.{AreCarriedOut, Place, StandsAt, beginning, given_at, place_after, printed_at, refuses_at}
use Rattle.geo_script.proofs.PlaceLaws.{refuses_next}
use Rattle.geo_app.specs.Steps.{reply_text, reply_refuses}
use Rattle.geo_app.proofs.PlaceTexts.{no_reply, none_refused, or_assoc, or_false, reply_first}

-- the first of those that are left
pub left_first : {X : Type 0} (xs : List X) (i : ℕ) (x : X) → i < length xs → x ≡ get_or xs i x → drop i xs ≡ x ∷ drop (i + 1) xs
left_first xs i x within same = drop-cons xs i x within ∙ ap (λ y. y ∷ drop (suc i) xs) (sym same) ∙ ap (λ k. x ∷ drop k xs) (sym (add-one i))

pub none_left : {X : Type 0} (xs : List X) (i : ℕ) → length xs ≤ i → drop i xs ≡ []
none_left xs i past = drop_of_length-le xs past

-- of all the lines these are left
pub record Alone {W : Type 0} (shows : W → List (Option Sight)) (script : Script W) (refused : Bool) (left all : List (List ℕ)) (before held : List ℕ) : Type 0 where
  pub place : Place
  pub stands : StandsAt shows script place
  pub written : held ++ text_of (printed_at place left) ≡ before ++ text_of (printed_at (beginning []) all)
  pub refuses : (refused || refuses_at place left) ≡ refuses_at (beginning []) all

pub alone_begun : {W : Type 0} (shows : W → List (Option Sight)) (script : Script W) (all : List (List ℕ)) (before : List ℕ) → StandsAt shows script (beginning []) → Alone shows script false all all before before
alone_begun shows script all before stands = record { place = beginning []; stands = stands; written = refl; refuses = refl }

-- one line more
pub alone_next : {W : Type 0} (shows : W → List (Option Sight)) (script script' : Script W) (refused more refused' : Bool) (line : List ℕ) (lines left all : List (List ℕ)) (before held held' : List ℕ) → Alone shows script refused lines all before held → lines ≡ line ∷ left
    → ((place : Place) → StandsAt shows script place → AreCarriedOut place.state (given_at place line) more held held' (StandsFor shows script'.session)) → ((place : Place) → StandsAt shows script place → StandsAt shows script' (place_after place line)) → refused' ≡ (refused || more)
    → Alone shows script' refused' left all before held'
alone_next shows script script' refused more refused' line lines left all before held held' a first carried stands either =
    let place = a.place in
    let done = carried place a.stands in
    let next = place_after place line in
    let later = text_of (printed_at next left) in record {
      place = next;
      stands = stands place a.stands;
      written = ap (λ l. l ++ later) done.appends ∙ append_assoc held (reply_text place line) later ∙ ap (λ l. held ++ l) (sym (reply_first place line left)) ∙ ap (λ l. held ++ text_of (printed_at place l)) (sym first) ∙ a.written;
      refuses = ap (λ b. b || refuses_at next left) (either ∙ ap (λ b. refused || b) done.refuses) ∙ sym (or_assoc refused (reply_refuses place line) (refuses_at next left))
          ∙ ap (λ b. refused || b) (sym (refuses_next place line left)) ∙ ap (λ l. refused || refuses_at place l) (sym first) ∙ a.refuses;
    }

pub alone_over : {W : Type 0} (shows : W → List (Option Sight)) (script : Script W) (refused : Bool) (all : List (List ℕ)) (before held : List ℕ) → Alone shows script refused [] all before held → (held ≡ before ++ text_of (printed_at (beginning []) all)) × (refused ≡ refuses_at (beginning []) all)
alone_over shows script refused all before held a = (
  sym (append-nil held) ∙ ap (λ l. held ++ l) (sym (no_reply a.place)) ∙ a.written,
  sym (or_false refused) ∙ ap (λ b. refused || b) (sym (none_refused a.place)) ∙ a.refuses,
)
