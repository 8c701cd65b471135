-- The outputs of jobs one after the other, as far as some job.
use Rattle.std.proofs.Common.{◌≡◌, ◌∙◌, sym, ap, refl, ℕ, ◌++◌, Bool, false, ◌||◌, List, [], ◌∷◌, append-nil, append_assoc}
use Rattle.geo_app.specs.Sheets.{Sheet, sheets_text, some_refused}
use Rattle.geo_app.proofs.PlaceTexts.{or_assoc, or_false}

-- of all the jobs these are left
pub record Written (refused : Bool) (left all : List Sheet) (before held : List ℕ) : Type 0 where
  pub text : held ++ sheets_text left ≡ before ++ sheets_text all
  pub refuses : (refused || some_refused left) ≡ some_refused all

pub writing_begun : (all : List Sheet) (before : List ℕ) → Written false all all before before
writing_begun all before = record { text = refl; refuses = refl }

-- one job more
pub written_next : (refused refused' : Bool) (sheet : Sheet) (sheets left all : List Sheet) (before held held' : List ℕ) → Written refused sheets all before held → sheets ≡ sheet ∷ left → held' ≡ held ++ sheet.text → refused' ≡ (refused || sheet.refused) → Written refused' left all before held'
written_next refused refused' sheet sheets left all before held held' w first appends either = record {
  text = ap (λ l. l ++ sheets_text left) appends ∙ append_assoc held sheet.text (sheets_text left) ∙ ap (λ l. held ++ sheets_text l) (sym first) ∙ w.text;
  refuses = ap (λ b. b || some_refused left) either ∙ sym (or_assoc refused sheet.refused (some_refused left)) ∙ ap (λ l. refused || some_refused l) (sym first) ∙ w.refuses;
}

pub written_over : (refused : Bool) (all : List Sheet) (before held : List ℕ) → Written refused [] all before held → (held ≡ before ++ sheets_text all) × (refused ≡ some_refused all)
written_over refused all before held w = (sym (append-nil held) ∙ w.text, sym (or_false refused) ∙ w.refuses)
