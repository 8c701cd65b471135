-- Short words with one space between are the words of their line, and few bytes.
use Rattle.std.proofs.Common.{◌≡◌, ℕ, zero, suc, ◌*◌, ◌<◌, ◌≤◌, true, false, ◌&&◌, List, [], ◌∷◌, ◌++◌, length, map, drop, get_or, leb, refl, sym, ap, subst, ◌∙◌, arith, length-append}
use Rattle.std.proofs.Math.ListN.{get_or-append}
use Rattle.std.proofs.Math.Seq.{take-append_seam, drop-append_seam}
use Rattle.std.specs.List.{list_all, join_with_byte}
use Rattle.std.proofs.lemmas.Bool.{leb-true}
use Rattle.std.proofs.lemmas.Bool.Decides.{nat_tests}
use Rattle.std.proofs.lemmas.List.{append-nil, length-map}
use Rattle.std.proofs.lemmas.List.Folds.{list_all-append}
use Rattle.geo_sketch.specs.Names.{is_name}
use Rattle.geo_sketch.specs.declared.elements.Kind.TheVariants.{Point, Line}
use Rattle.geo_sketch.specs.declared.elements.Spec.TheVariants.{Free, Fixed, Cut, Blend, Cross}
use Rattle.geo_sketch.specs.declared.elements.Setting.TheVariants as to
use Rattle.geo_sketch.specs.declared.statements.Said.{Said}
use Rattle.geo_sketch.specs.declared.statements.Said.TheVariants.{Null, Same, On, Collinear, Concurrent}
use Rattle.geo_parse.specs.declared.commands.Command.{Command}
use Rattle.geo_parse.specs.declared.commands.Command.TheVariants.{Add, Drag, Drop, Claim, Dual, Undo, Redo, Screen, Conjectures, Ledger, Certify, Svg, Show, Close}
use Rattle.geo_parse.specs.Words.{is_blank, words}
use Rattle.geo_parse.specs.Grammar.{parts, statement_parts, FillAll, IsSpelling, is_plain}
use Rattle.geo_parse.specs.Printing.{written, canonical, IsWritable}
use Rattle.geo_parse.specs.Writers.{names_of}
use Rattle.geo_parse.proofs.WordLemmas.{words-front}
use Rattle.geo_parse.proofs.RoomLemmas.{parts_few}
use Rattle.geo_parse.proofs.WrittenLemmas.{is_dark, is_short, both, first_of_both, second_of_both, texts_of, Stand, filled_written, short_written}

-- a byte of a word is no blank
dark_at : (t : List ℕ) (k : ℕ) → list_all is_dark t ≡ true → k < length t → is_blank (get_or t k 0) ≡ false
dark_at [] k dark h = absurd (omega arith)
dark_at (b ∷ bs) zero dark h = let d : is_dark b ≡ true = first_of_both (is_dark b) (list_all is_dark bs) dark in grind (arith, nat_tests)
dark_at (b ∷ bs) (suc k) dark h = dark_at bs k (second_of_both (is_dark b) (list_all is_dark bs) dark) (omega arith)

-- what stands behind the first of two lists
at_seam : (t rest : List ℕ) → get_or (t ++ rest) (length t) 0 ≡ get_or rest 0 0
at_seam [] rest = refl
at_seam (b ∷ bs) rest = at_seam bs rest

-- a short word before a blank, or at the end, is the first word
word_joined : (t rest : List ℕ) → is_short t ≡ true → (0 < length rest → is_blank (get_or rest 0 0) ≡ true) → words (t ++ rest) ≡ t ∷ words rest
word_joined t rest short blank =
    let inner = second_of_both (leb 1 (length t)) (leb (length t) 11 && list_all is_dark t) short in
    let some : 1 ≤ length t = leb-true 1 (length t) (first_of_both (leb 1 (length t)) (leb (length t) 11 && list_all is_dark t) short) in
    let dark : list_all is_dark t ≡ true = second_of_both (leb (length t) 11) (list_all is_dark t) inner in
    words-front (t ++ rest) (length t) some (omega (arith, length-append t rest))
    (λ k h. ap is_blank (get_or-append t rest 0 k h) ∙ dark_at t k dark h)
    (λ h. ap is_blank (at_seam t rest) ∙ blank (omega (arith, length-append t rest)))
    ∙ ap (λ w. w ∷ words (drop (length t) (t ++ rest))) (take-append_seam t rest) ∙ ap (λ behind. t ∷ words behind) (drop-append_seam t rest)

-- short words with one space between are the words of their line
pub words_joined : (ts : List (List ℕ)) → list_all is_short ts ≡ true → words (join_with_byte 32 ts) ≡ ts
words_joined [] h = refl
words_joined (t ∷ []) h = ap words (sym (append-nil t)) ∙ word_joined t [] (first_of_both (is_short t) true h) (λ none. absurd (omega arith))
words_joined (t ∷ u ∷ ts) h =
    word_joined t (32 ∷ join_with_byte 32 (u ∷ ts)) (first_of_both (is_short t) (list_all is_short (u ∷ ts)) h) (λ _. refl)
    ∙ ap (λ others. t ∷ others) (words_joined (u ∷ ts) (second_of_both (is_short t) (list_all is_short (u ∷ ts)) h))

dark_plain : (b : ℕ) → is_dark b ≡ true → is_plain b ≡ true
dark_plain b h = grind (arith, nat_tests)

all_plain : (t : List ℕ) → list_all is_dark t ≡ true → list_all is_plain t ≡ true
all_plain [] h = refl
all_plain (b ∷ bs) h =
    both (is_plain b) (list_all is_plain bs) (dark_plain b (first_of_both (is_dark b) (list_all is_dark bs) h)) (all_plain bs (second_of_both (is_dark b) (list_all is_dark bs) h))

-- a short word
record IsShort (t : List ℕ) : Type 0 where
  few : length t ≤ 11
  plain : list_all is_plain t ≡ true

short_is : (t : List ℕ) → is_short t ≡ true → IsShort t
short_is t h =
    let inner = second_of_both (leb 1 (length t)) (leb (length t) 11 && list_all is_dark t) h in
    record {
      few = leb-true (length t) 11 (first_of_both (leb (length t) 11) (list_all is_dark t) inner);
      plain = all_plain t (second_of_both (leb (length t) 11) (list_all is_dark t) inner);
    }

plain_joined : (ts : List (List ℕ)) → list_all is_short ts ≡ true → list_all is_plain (join_with_byte 32 ts) ≡ true
plain_joined [] h = refl
plain_joined (t ∷ []) h = (short_is t (first_of_both (is_short t) true h)).plain
plain_joined (t ∷ u ∷ ts) h =
    list_all-append is_plain t (32 ∷ join_with_byte 32 (u ∷ ts))
    ∙ both (list_all is_plain t) (list_all is_plain (join_with_byte 32 (u ∷ ts))) (short_is t (first_of_both (is_short t) (list_all is_short (u ∷ ts)) h)).plain
    (plain_joined (u ∷ ts) (second_of_both (is_short t) (list_all is_short (u ∷ ts)) h))

length-joined : (ts : List (List ℕ)) → list_all is_short ts ≡ true → length (join_with_byte 32 ts) ≤ 12 * length ts
length-joined [] h = omega arith
length-joined (t ∷ []) h = let s = short_is t (first_of_both (is_short t) true h) in omega (arith, s.few)
length-joined (t ∷ u ∷ ts) h =
    let s = short_is t (first_of_both (is_short t) (list_all is_short (u ∷ ts)) h) in
    let others = length-joined (u ∷ ts) (second_of_both (is_short t) (list_all is_short (u ∷ ts)) h) in
    omega (arith, s.few, others, length-append t (32 ∷ join_with_byte 32 (u ∷ ts)))

statement_fixed : (s : Said) → list_all is_short (texts_of (statement_parts s)) ≡ true
statement_fixed (Null n) = refl
statement_fixed (Same n m) = refl
statement_fixed (On n m) = refl
statement_fixed (Collinear n m k) = refl
statement_fixed (Concurrent n m k) = refl

-- the fixed texts of a command are short words
fixed : (c : Command) → list_all is_short (texts_of (parts c)) ≡ true
fixed (Add n Point (Free x y)) = refl
fixed (Add n Line (Free x y)) = refl
fixed (Add n Point (Fixed a b c)) = refl
fixed (Add n Line (Fixed a b c)) = refl
fixed (Add n Point (Cut l t)) = refl
fixed (Add n Line (Cut p t)) = refl
fixed (Add n Point (Blend p q t)) = refl
fixed (Add n Line (Blend l m t)) = refl
fixed (Add n Point (Cross p q)) = refl
fixed (Add n Line (Cross l m)) = refl
fixed (Drag n to.None) = refl
fixed (Drag n (to.One x)) = refl
fixed (Drag n (to.Two x y)) = refl
fixed (Drop n) = refl
fixed (Claim s) = statement_fixed s
fixed (Certify s) = statement_fixed s
fixed Dual = refl
fixed Undo = refl
fixed Redo = refl
fixed Screen = refl
fixed Conjectures = refl
fixed Ledger = refl
fixed Svg = refl
fixed (Show k) = refl
fixed (Close k) = refl

-- the canonical spelling of a command that can be written is a spelling of it
pub canonical_spells : (c : Command) → IsWritable c → list_all is_name (names_of (parts c)) ≡ true → IsSpelling (canonical c) c
canonical_spells c can named =
    let stand : Stand (parts c) = record { can = can; named = named; fixed = fixed c } in
    let short = short_written (parts c) stand in
    record {
      fits = record {
        short = omega (arith, length-joined (map written (parts c)) short, length-map (parts c) written, parts_few c);
        plain = plain_joined (map written (parts c)) short;
      };
      filled = subst (FillAll (parts c)) (sym (words_joined (map written (parts c)) short)) (filled_written (parts c) stand);
    }
