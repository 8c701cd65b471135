-- What a line reads as: its first refusal, nothing, or the one command that it spells.
use Rattle.std.proofs.Common.{◌≡◌, ◌↔◌, ℕ, ◌<◌, ◌≤◌, Bool, true, false, List, length, take, Option, Some, None, is_none, Result, Ok, Err, nat_lt, refl, sym, ap, subst, ◌∙◌, arith, if◌then◌else◌}
use Rattle.std.specs.List.{list_all}
use Rattle.std.proofs.lemmas.Bool.Decides.{Decides-ltb, nat_tests}
use Rattle.geo_sketch.specs.declared.changes.Refusal.{Refusal}
use Rattle.geo_sketch.specs.declared.changes.Refusal.TheVariants as refusal
use Rattle.geo_parse.specs.declared.commands.Command.{Command}
use Rattle.geo_parse.specs.Words.{words}
use Rattle.geo_parse.specs.Grammar.{parts, FillAll, IsLine, IsSpelling, IsQuiet, is_plain, is_silent}
use Rattle.geo_parse.specs.Refusals.{Form, form_of, breaks, has_wrong_count, has_bad_name, has_bad_number, applies, refusal_of}
use Rattle.geo_parse.specs.Readers.{misfit, refusal_by, refusal_of_words, Reads}
use Rattle.geo_parse.specs.Reading.{read_of}
use Rattle.geo_parse.proofs.RoomLemmas.{six_spell, six_refused, six_silent}
use Rattle.geo_parse.proofs.SpellLemmas.{command_tells, silent_spells}

-- a line that is too long
pub refused_long : (line : List ℕ) → 200 < length line → refusal_of line ≡ Some refusal.Long
unfolding refusal_of applies
refused_long line h = rw ((Decides-ltb 200 (length line)).1 h) refl

short : (line : List ℕ) → length line ≤ 200 → nat_lt 200 (length line) ≡ false
short line h = grind (arith, nat_tests)

-- a line with a byte that is not plain
pub refused_ascii : (line : List ℕ) → length line ≤ 200 → list_all is_plain line ≡ false → refusal_of line ≡ Some refusal.Ascii
unfolding refusal_of applies
refused_ascii line h bad = rw (short line h, bad) refl

-- what is judged of a form is the first refusal by it
by_form : (o : Option Form) → (if is_none o then Some refusal.Command else if breaks (λ f. has_wrong_count f.names f.numbers f.operands) o then Some refusal.Arity else
    if breaks (λ f. has_bad_name f.names f.operands) o then Some refusal.Name else if breaks (λ f. has_bad_number f.names f.operands) o then Some refusal.Number else None) ≡ refusal_by o
unfolding misfit
by_form None = refl
by_form (Some f) = refl

-- a line that says something is refused as its words are
pub refused_words : (line : List ℕ) → IsLine line → is_silent (words line) ≡ false → refusal_of line ≡ refusal_of_words (words line)
unfolding refusal_of applies
refused_words line fits h = rw (short line fits.short, fits.plain, h) (by_form (form_of (words line)))

-- a blank line or a comment is not refused
quiet_fine : (line : List ℕ) → IsQuiet line → refusal_of line ≡ None
unfolding refusal_of applies
quiet_fine line q = rw (short line q.fits.short, q.fits.plain, q.silent) refl

-- a spelling is not refused
spelling_fine : (line : List ℕ) (c : Command) → IsSpelling line c → refusal_of line ≡ None
spelling_fine line c s = said (is_silent (words line)) refl
  where
    said : (b : Bool) → is_silent (words line) ≡ b → refusal_of line ≡ None
    said true h = quiet_fine line (record { fits = s.fits; silent = h })
    said false h = refused_words line s.fits h ∙ (command_tells c (words line) s.filled).fine

-- what a reader answers is what the line reads as
pub reads_is : (line : List ℕ) (r : Result (Option Command) Refusal) → Reads line r → r ≡ read_of line
unfolding read_of
reads_is line (Ok None) h = rw (quiet_fine line h, silent_spells (words line) h.silent) refl
reads_is line (Ok (Some c)) h = rw (spelling_fine line c h, (command_tells c (words line) h.filled).only) refl
reads_is line (Err r) h = rw h refl

-- what a line reads as, it reads as alone
reads_once : (line : List ℕ) (r s : Result (Option Command) Refusal) → Reads line r → Reads line s → r ≡ s
reads_once line r s h k = reads_is line r h ∙ sym (reads_is line s k)

-- a reader answers so exactly where the line is read so
pub exact : (line : List ℕ) (r s : Result (Option Command) Refusal) → Reads line r → (r ≡ s) ↔ Reads line s
exact line r s h = (λ e. subst (Reads line) e h, λ k. reads_once line r s h k)

-- a line spells at most one command
pub spells_once : (line : List ℕ) (c d : Command) → IsSpelling line c → IsSpelling line d → c ≡ d
spells_once line c d h k = let e : Some c ≡ Some d = sym (command_tells c (words line) h.filled).only ∙ (command_tells d (words line) k.filled).only in cc

-- a quiet line, told from its first six words
pub six_quiet : (line : List ℕ) (room : ℕ) (ws : List (List ℕ)) → IsLine line → room ≡ 6 → ws ≡ take room (words line) → is_silent ws ≡ true → IsQuiet line
six_quiet line room ws fits six e h = record { fits = fits; silent = sym (six_silent (words line)) ∙ ap (λ k. is_silent (take k (words line))) (sym six) ∙ ap is_silent (sym e) ∙ h }

-- a spelling, told from its first six words
pub six_spelling : (line : List ℕ) (room : ℕ) (ws : List (List ℕ)) (c : Command) → IsLine line → room ≡ 6 → ws ≡ take room (words line) → FillAll (parts c) ws → IsSpelling line c
six_spelling line room ws c fits six e h =
    record { fits = fits; filled = six_spell c (words line) (subst (FillAll (parts c)) (e ∙ ap (λ k. take k (words line)) six) h) }

-- the first refusal, told from the first six words
pub six_refusal : (line : List ℕ) (room : ℕ) (ws : List (List ℕ)) (r : Refusal) → IsLine line → room ≡ 6 → ws ≡ take room (words line) → is_silent ws ≡ false
    → refusal_of_words ws ≡ Some r → refusal_of line ≡ Some r
six_refusal line room ws r fits six e said h =
    let whole : ws ≡ take 6 (words line) = e ∙ ap (λ k. take k (words line)) six in
    refused_words line fits (sym (six_silent (words line)) ∙ ap is_silent (sym whole) ∙ said)
    ∙ sym (six_refused (words line)) ∙ ap refusal_of_words (sym whole) ∙ h
