-- What the reads of one call leave.
use Rattle.std.proofs.Common.{◌≡◌, ◌∙◌, sym, ap, subst, refl, inl, inr, ◌⊎◌, ℕ, ◌+◌, ◌^◌, ◌≤◌, Bool, true, false, Option, List, [], ◌++◌, length, take, append_assoc, arith}
use Rattle.std.specs.Io.KnownBytes.{Consumes, IsAtEnd}
use Rattle.std.proofs.KnownBytes.{Consumes-nil, Consumes-trans}
use Rattle.std.proofs.lemmas.List.{append-nil}
use Rattle.std.proofs.lemmas.Grind.{common_steps}
use Rattle.geo_io.specs.Lines.{has_line_feed, cut_lines_of}
use Rattle.geo_io.specs.Pieces.{Takes as TakesBytes}
use Rattle.geo_io.specs.Taking.{Taking, lines_left, IsAskedFor, Takes, StopsBetween, IsRead, IsKept}
use Rattle.geo_io.proofs.LineFeeds.{none_in_both, none_in_each}
use Rattle.geo_io.proofs.CutLines.{kept_alike}

-- what was taken so far in a call: whatever follows, the lines that are left are the same
pub record Asked (before now : Taking) (left_before left : Option (List ℕ)) : Type 0 where
  pub bytes : List ℕ
  pub consumes : Consumes left_before left bytes
  pub limit : now.limit ≡ before.limit
  pub counted : now.taken ≡ before.taken + length bytes
  pub few : now.taken ≤ 2 ^ 24
  pub asked : (bytes ≡ []) ⊎ IsAskedFor before bytes
  pub no_line : has_line_feed now.held ≡ false → has_line_feed (before.held ++ bytes) ≡ false
  pub same : (rest : List ℕ) → lines_left before (bytes ++ rest) ≡ lines_left now rest
  pub goes_on : now.ended ≡ false → before.ended ≡ false
  pub stays : before.ended ≡ true → now.ended ≡ true
  pub end : now.ended ≡ true → (before.ended ≡ true) ⊎ IsAtEnd left
  pub shorter : length now.held + before.taken ≤ length before.held + now.taken

pub nothing_asked : (now : Taking) (left : Option (List ℕ)) → now.taken ≤ 2 ^ 24 → Asked now now left left
nothing_asked now left few = record {
  bytes = [];
  consumes = Consumes-nil left;
  limit = refl;
  counted = omega arith;
  few = few;
  asked = inl refl;
  no_line = λ none. ap has_line_feed (append-nil now.held) ∙ none;
  same = λ rest. refl;
  goes_on = λ e. e;
  stays = λ e. e;
  end = λ e. inl e;
  shorter = omega arith;
}

both_not : (b : Bool) → b ≡ true → b ≡ false → ⊥
both_not b is other = grind (arith, is, other)

-- one more read was asked for
pub asked_more : (before now : Taking) (left_before left : Option (List ℕ)) (p : Asked before now left_before left) (more : List ℕ) → has_line_feed now.held ≡ false → now.ended ≡ false → length more ≤ 4096 → IsAskedFor before (p.bytes ++ more)
asked_more before now left_before left p more none going one_read = record {
  front = p.bytes;
  last = more;
  cut = refl;
  one_read = one_read;
  no_line = p.no_line none;
  few = omega (arith, p.counted, p.few);
  not_ended = p.goes_on going;
}

pub takes_more : (before now after : Taking) (left_before left left_after : Option (List ℕ)) (p : Asked before now left_before left) (more : List ℕ) → has_line_feed now.held ≡ false → now.ended ≡ false → IsRead now after more → Takes before after (p.bytes ++ more)
takes_more before now after left_before left left_after p more none going read = record {
  limit = read.limit ∙ p.limit;
  counted = count before.taken now.taken after.taken p.bytes more p.counted read.counted;
  asked = inr (asked_more before now left_before left p more none going read.one_read);
  ended = λ e. absurd (both_not before.ended e (p.goes_on going));
}
  where
    count : (a b c : ℕ) (xs ys : List ℕ) → b ≡ a + length xs → c ≡ b + length ys → c ≡ a + length (xs ++ ys)
    count a b c xs ys e f = grind (arith, common_steps)

-- and it was kept
pub kept_more : (before now after : Taking) (left_before left left_after : Option (List ℕ)) (p : Asked before now left_before left) (more : List ℕ) → has_line_feed now.held ≡ false → now.ended ≡ false → Consumes left left_after more → IsRead now after more → IsKept now after more → after.taken ≤ 2 ^ 24 → (after.ended ≡ true → IsAtEnd left_after) → Asked before after left_before left_after
kept_more before now after left_before left left_after p more none going consumes read kept few end =
    let takes = takes_more before now after left_before left left_after p more none going read in record {
      bytes = p.bytes ++ more;
      consumes = Consumes-trans left_before left left_after p.bytes more p.consumes consumes;
      limit = takes.limit;
      counted = takes.counted;
      few = few;
      asked = takes.asked;
      no_line = λ still. ap has_line_feed (sym (append_assoc before.held p.bytes more)) ∙ none_in_both (before.held ++ p.bytes) more (p.no_line none) (none_in_each (take (now.limit + 1) now.held) more (ap has_line_feed (sym kept.held) ∙ still)).1;
      same = λ rest. ap (lines_left before) (append_assoc p.bytes more rest) ∙ p.same (more ++ rest) ∙ sym (kept_alike now.limit now.held (more ++ rest) none) ∙ sym (ap (cut_lines_of now.limit) (append_assoc (take (now.limit + 1) now.held) more rest)) ∙ sym (ap (λ l. cut_lines_of now.limit (l ++ rest)) kept.held) ∙ sym (ap (λ n. cut_lines_of n (after.held ++ rest)) read.limit);
      goes_on = λ e. p.goes_on going;
      stays = takes.ended;
      end = λ e. inr (end e);
      shorter = keeps_short before.taken now.taken after.taken before.held now.held after.held more (now.limit + 1) p.shorter read.counted kept.held;
    }
  where
    keeps_short : (a b c : ℕ) (xs ys zs more : List ℕ) (n : ℕ) → length ys + a ≤ length xs + b → c ≡ b + length more → zs ≡ take n ys ++ more → length zs + a ≤ length xs + c
    keeps_short a b c xs ys zs more n short counted is = rw is (grind (arith, common_steps))

-- one more read, as the loop makes it: `took` is what is held after a look for a whole line, which found none
pub next_asked : (before now took after : Taking) (left_before left left_after : Option (List ℕ)) → Asked before now left_before left → took ≡ now → has_line_feed now.held ≡ false → took.ended ≡ false
    → TakesBytes left left_after (λ more. IsRead took after more × IsKept took after more) → after.taken ≤ 2 ^ 24 → (after.ended ≡ true → IsAtEnd left_after) → Asked before after left_before left_after
next_asked before now took after left_before left left_after p same none going read few end =
    let q : Asked before took left_before left = subst (λ (t : Taking). Asked before t left_before left) (sym same) p in
    kept_more before took after left_before left left_after q read.0 (ap (λ (t : Taking). has_line_feed t.held) same ∙ none) going read.1 read.2.0 read.2.1 few end

-- one more read, after which the call stops; P where no byte came
pub next_stopped : (before now took after : Taking) (left_before left left_after : Option (List ℕ)) (P : Type 0) → Asked before now left_before left → took ≡ now → has_line_feed now.held ≡ false → took.ended ≡ false
    → TakesBytes left left_after (λ more. IsRead took after more × (P → more ≡ [])) → TakesBytes left_before left_after (λ bytes. Takes before after bytes × (P → StopsBetween before bytes))
next_stopped before now took after left_before left left_after P p same none going read =
    let q : Asked before took left_before left = subst (λ (t : Taking). Asked before t left_before left) (sym same) p in
    let no_line : has_line_feed took.held ≡ false = ap (λ (t : Taking). has_line_feed t.held) same ∙ none in (
      q.bytes ++ read.0,
      Consumes-trans left_before left left_after q.bytes read.0 q.consumes read.1,
      (
        takes_more before took after left_before left left_after q read.0 no_line going read.2.0,
        λ failed. record {
          no_line = ap (λ l. has_line_feed (before.held ++ (q.bytes ++ l))) (read.2.1 failed) ∙ ap (λ l. has_line_feed (before.held ++ l)) (append-nil q.bytes) ∙ q.no_line no_line;
          not_ended = q.goes_on going;
        },
      ),
    )

-- where the source is asked, no whole line was held at first
pub asked_from_the_start : (before now took : Taking) (left_before left : Option (List ℕ)) → Asked before now left_before left → took ≡ now → has_line_feed now.held ≡ false → took.ended ≡ false → ¬ ((before.ended ≡ true) ⊎ (has_line_feed before.held ≡ true))
asked_from_the_start before now took left_before left p same none going (inl ended) = both_not before.ended ended (p.goes_on (ap (λ (t : Taking). t.ended) (sym same) ∙ going))
asked_from_the_start before now took left_before left p same none going (inr whole) = both_not (has_line_feed before.held) whole (none_in_each before.held p.bytes (p.no_line none)).0
