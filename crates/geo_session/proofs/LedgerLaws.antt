-- The ledger's text grows by the line of the next entry.
use Rattle.std.proofs.Common.{◌≡◌, ◌∙◌, ap, refl, ℕ, ◌+◌, ◌<◌, ◌++◌, List, [], ◌∷◌, length, get_or, map, take, append_assoc}
use Rattle.std.specs.Prelude.{flat_map}
use Rattle.std.proofs.lemmas.List.{take_more, append-nil}
use Rattle.std.proofs.lemmas.Grind.{flat_map-append}
use Rattle.geo_sketch.specs.declared.elements.Element.{Element}
use Rattle.geo_sketch.specs.Sketches.{Drawing}
use Rattle.geo_ledger.specs.declared.entry.Entry.{Entry}
use Rattle.geo_ledger.specs.Ledgers.{ledger_of}
use Rattle.geo_session.specs.LedgerTexts.{ledger_line}
use Rattle.geo_session.specs.Printed.{LedgerLine, ledger_lines, text_of}

abbrev pub entry_line : List Element → Entry → List ℕ
entry_line es e = ledger_line es e.statement e.verdict

-- a text that is made of one for each item
pub texts_more : {X : Type 0} (text : X → List ℕ) (xs : List X) (i : ℕ) (x : X) (before out after : List ℕ) → i < length xs → out ≡ before ++ flat_map text (take i xs) → after ≡ out ++ text (get_or xs i x) → after ≡ before ++ flat_map text (take (i + 1) xs)
texts_more {X} text xs i x before out after within so_far more =
    let one_more : flat_map text (take (i + 1) xs) ≡ flat_map text (take i xs) ++ text (get_or xs i x) =
    ap (flat_map text) (take_more xs i x within) ∙ flat_map-append text (take i xs) (get_or xs i x ∷ []) ∙ ap (λ l. flat_map text (take i xs) ++ l) (append-nil (text (get_or xs i x))) in
    rw (more, so_far, one_more) (append_assoc before (flat_map text (take i xs)) (text (get_or xs i x)))

-- the lines of all entries, as pieces
lines_are : (es : List Element) (entries : List Entry) → flat_map (entry_line es) entries ≡ text_of (map (λ (e : Entry). LedgerLine es e.statement e.verdict) entries)
lines_are es [] = refl
lines_are es (e ∷ entries) = ap (λ (bytes : List ℕ). entry_line es e ++ bytes) (lines_are es entries)

-- the lines of all entries are what the ledger prints
pub ledger_written : (drawing : Drawing) (es : List Element) (entries : List Entry) → es ≡ drawing.elements → entries ≡ ledger_of drawing → flat_map (entry_line es) entries ≡ text_of (ledger_lines drawing)
ledger_written drawing es entries same all = (λ i. flat_map (entry_line (same i)) (all i)) ∙ lines_are drawing.elements (ledger_of drawing)
