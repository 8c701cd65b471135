-- Lines that were carried out, as far as some line.
use Rattle.std.proofs.Common.{◌≡◌, ◌∙◌, sym, ap, subst, refl, inl, inr, ◌⊎◌, ℕ, ◌+◌, ◌++◌, Bool, true, false, ◌||◌, Option, List, [], ◌∷◌, length, take, map, append_assoc, arith}
use Rattle.std.specs.Io.KnownBytes.{Appends, Consumes}
use Rattle.std.proofs.KnownBytes.{Appends-nil, Appends-trans, Consumes-nil, Consumes-trans}
use Rattle.std.proofs.lemmas.List.{append-nil}
use Rattle.std.proofs.lemmas.Grind.{common_steps}
use Rattle.geo_io.specs.Lines.{cut_lines_of, whole_lines_of}
use Rattle.geo_io.specs.Pieces.{AppendsFront}
use Rattle.geo_io.specs.Taking.{Taking, first_taking, lines_left, CanFollow, IsRightOnEnd, IsAskedFor, GivesLine, GivesNone, StopsBetween}
use Rattle.geo_io.specs.Taking as taking
use Rattle.geo_io.proofs.WholeLines.{whole_lines_given}
use Rattle.geo_app.specs.Courses.{Course, Takes}
use Rattle.geo_app.proofs.PlaceTexts.{or_assoc}

-- these lines were given of the bytes that were taken, these bytes were written for them, it is told whether something in
-- these is a refusal, and what is to come is the rest
pub record Progress (course : Course) (limit : ℕ) (lines : Taking) (Goes : Course → Type 0) (refused : Bool) (first left before held : Option (List ℕ)) : Type 0 where
  pub next : Course
  pub goes : Goes next
  pub taken : List ℕ
  pub consumes : Consumes first left taken
  pub counted : lines.taken ≡ length taken
  pub limit_is : lines.limit ≡ limit
  pub given : List (List ℕ)
  pub gives : (rest : List ℕ) → CanFollow lines rest → cut_lines_of limit (taken ++ rest) ≡ given ++ lines_left lines rest
  pub written : List ℕ
  pub writes : Appends before held written
  pub text : (more : List (List ℕ)) → course.text (given ++ more) ≡ written ++ next.text more
  pub meanwhile : (more : List (List ℕ)) → course.meanwhile (given ++ more) ≡ written ++ next.meanwhile more
  pub refuses : (more : List (List ℕ)) → course.refuses (given ++ more) ≡ (refused || next.refuses more)
  pub silent : next.meanwhile [] ≡ []

pub begun : (course : Course) (limit : ℕ) (Goes : Course → Type 0) (first before : Option (List ℕ)) → Goes course → course.meanwhile [] ≡ [] → Progress course limit (first_taking limit) Goes false first first before before
begun course limit Goes first before goes silent = record {
  next = course;
  goes = goes;
  taken = [];
  consumes = Consumes-nil first;
  counted = refl;
  limit_is = refl;
  given = [];
  gives = λ rest can. refl;
  written = [];
  writes = Appends-nil before;
  text = λ more. refl;
  meanwhile = λ more. refl;
  refuses = λ more. refl;
  silent = silent;
}

-- the source may give what a call took of it
pub can_take : (lines : Taking) (bytes : List ℕ) → (bytes ≡ []) ⊎ IsAskedFor lines bytes → CanFollow lines bytes
can_take lines bytes (inl none) = λ ended. none
can_take lines bytes (inr asked) = λ ended. absurd (both lines.ended ended asked.not_ended)
  where
    both : (b : Bool) → b ≡ true → b ≡ false → ⊥
    both b is other = grind (arith, is, other)

module _ (course : Course) (limit : ℕ) (lines after : Taking) (Goes : Course → Type 0) (refused : Bool) (first left left_after before held : Option (List ℕ)) (p : Progress course limit lines Goes refused first left before held) (bytes : List ℕ) (consumes : Consumes left left_after bytes) (takes : taking.Takes lines after bytes) where
  -- what was taken in all
  pub all_taken : List ℕ
  all_taken = p.taken ++ bytes

  pub all_consumed : Consumes first left_after all_taken
  unfolding all_taken
  all_consumed = Consumes-trans first left left_after p.taken bytes p.consumes consumes

  pub all_counted : after.taken ≡ length all_taken
  unfolding all_taken
  all_counted = count lines.taken after.taken p.taken bytes p.counted takes.counted
    where
      count : (a b : ℕ) (xs ys : List ℕ) → a ≡ length xs → b ≡ a + length ys → b ≡ length (xs ++ ys)
      count a b xs ys e f = grind (arith, common_steps)

  -- the lines of what was taken are those that were given and those that were left
  pub all_lines : cut_lines_of limit all_taken ≡ p.given ++ lines_left lines bytes
  unfolding all_taken
  all_lines = p.gives bytes (can_take lines bytes takes.asked)

  -- nothing more was written
  pub stopped_reading : AppendsFront before held (course.text (cut_lines_of limit all_taken))
  stopped_reading = (p.written, p.next.text (lines_left lines bytes), ap course.text all_lines ∙ p.text (lines_left lines bytes), p.writes)

  -- a fault of the source while no whole line was held
  pub stopped_between : StopsBetween lines bytes → Appends before held (course.meanwhile (map (take limit) (whole_lines_of all_taken)))
  unfolding all_taken
  stopped_between stop =
      let follows : (rest : List ℕ) → cut_lines_of limit (p.taken ++ rest) ≡ p.given ++ cut_lines_of limit (lines.held ++ rest) = λ rest. p.gives rest (λ ended. absurd (both lines.ended ended stop.not_ended)) ∙ ap (λ n. p.given ++ cut_lines_of n (lines.held ++ rest)) p.limit_is in
      let whole = whole_lines_given limit p.taken lines.held bytes p.given follows stop.no_line in
      subst (λ (l : List ℕ). Appends before held l) (sym (ap course.meanwhile (sym whole ∙ sym (append-nil p.given)) ∙ p.meanwhile [] ∙ ap (λ l. p.written ++ l) p.silent ∙ append-nil p.written)) p.writes
    where
      both : (b : Bool) → b ≡ true → b ≡ false → ⊥
      both b is other = grind (arith, is, other)

  -- no line is left, and the rest is what is written at the end
  end_text : GivesNone lines after bytes → course.text (cut_lines_of limit all_taken) ≡ p.written ++ p.next.text []
  end_text none = ap course.text (all_lines ∙ ap (λ l. p.given ++ l) none.none) ∙ p.text []

  pub end_written : (held_after : Option (List ℕ)) → GivesNone lines after bytes → Appends held held_after (p.next.text []) → Appends before held_after (course.text (cut_lines_of limit all_taken))
  end_written held_after none appends = subst (λ (l : List ℕ). Appends before held_after l) (sym (end_text none)) (Appends-trans before held held_after p.written (p.next.text []) p.writes appends)

  pub end_refused : GivesNone lines after bytes → course.refuses (cut_lines_of limit all_taken) ≡ (refused || p.next.refuses [])
  end_refused none = ap course.refuses (all_lines ∙ ap (λ l. p.given ++ l) none.none) ∙ p.refuses []

  pub end_stopped : (held_after : Option (List ℕ)) → GivesNone lines after bytes → AppendsFront held held_after (p.next.text []) → AppendsFront before held_after (course.text (cut_lines_of limit all_taken))
  end_stopped held_after none (front, more, is, appends) = (
    p.written ++ front,
    more,
    end_text none ∙ ap (λ l. p.written ++ l) is ∙ sym (append_assoc p.written front more),
    Appends-trans before held held_after p.written front p.writes appends,
  )

  -- a line was given, and its reply was written in part
  pub line_stopped : (held_after : Option (List ℕ)) (line : List ℕ) → GivesLine lines after bytes line → AppendsFront held held_after (p.next.text (line ∷ lines_left after [])) → AppendsFront before held_after (course.text (cut_lines_of limit all_taken))
  line_stopped held_after line gives (front, more, is, appends) =
      let left_lines : lines_left lines bytes ≡ line ∷ lines_left after [] = ap (lines_left lines) (sym (append-nil bytes)) ∙ gives [] (λ ended. refl) in (
        p.written ++ front,
        more,
        ap course.text (all_lines ∙ ap (λ l. p.given ++ l) left_lines) ∙ p.text (line ∷ lines_left after []) ∙ ap (λ l. p.written ++ l) is ∙ sym (append_assoc p.written front more),
        Appends-trans before held held_after p.written front p.writes appends,
      )

  -- a line was given, and its reply was written
  pub line_done : (GoesOn : Course → Type 0) (more refused' : Bool) (held_after : Option (List ℕ)) (line : List ℕ) (next : Course) (written : List ℕ) → GivesLine lines after bytes line → refused' ≡ (refused || more) → GoesOn next → Appends held held_after written → Takes p.next next line more written
      → Progress course limit after GoesOn refused' first left_after before held_after
  unfolding all_taken
  line_done GoesOn more refused' held_after line next written gives either goes appends took = record {
    next = next;
    goes = goes;
    taken = all_taken;
    consumes = all_consumed;
    counted = all_counted;
    limit_is = takes.limit ∙ p.limit_is;
    given = p.given ++ (line ∷ []);
    gives = λ rest can. ap (cut_lines_of limit) (append_assoc p.taken bytes rest) ∙ p.gives (bytes ++ rest) (can_more rest can) ∙ ap (λ l. p.given ++ l) (gives rest can) ∙ sym (append_assoc p.given (line ∷ []) (lines_left after rest));
    written = p.written ++ written;
    writes = Appends-trans before held held_after p.written written p.writes appends;
    text = λ lines. ap course.text (append_assoc p.given (line ∷ []) lines) ∙ p.text (line ∷ lines) ∙ ap (λ l. p.written ++ l) (took.text lines) ∙ sym (append_assoc p.written written (next.text lines));
    meanwhile = λ lines. ap course.meanwhile (append_assoc p.given (line ∷ []) lines) ∙ p.meanwhile (line ∷ lines) ∙ ap (λ l. p.written ++ l) (took.meanwhile lines) ∙ sym (append_assoc p.written written (next.meanwhile lines));
    refuses = λ lines.
        ap course.refuses (append_assoc p.given (line ∷ []) lines) ∙ p.refuses (line ∷ lines) ∙ ap (λ b. refused || b) (took.refuses lines) ∙ or_assoc refused more (next.refuses lines)
        ∙ ap (λ b. b || next.refuses lines) (sym either);
    silent = took.silent;
  }
    where
      can_more : (rest : List ℕ) → CanFollow after rest → CanFollow lines (bytes ++ rest)
      can_more rest can ended = ap (λ l. l ++ rest) (can_take lines bytes takes.asked ended) ∙ can (takes.ended ended)
