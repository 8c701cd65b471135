-- How the carrying out of lines ends.
use Rattle.std.proofs.Common.{◌≡◌, ◌∙◌, sym, subst, refl, inl, inr, ap, ℕ, ◌^◌, ◌<◌, ◌≤◌, Bool, true, false, ◌||◌, Option, List, [], ◌∷◌, length, take, map, arith}
use Rattle.std.specs.Prelude.{◌↔◌, Result, Ok, Err, MatchResult, MatchBool, IfOk, OnErr}
use Rattle.std.specs.Io.KnownBytes.{Appends, Consumes, IsAtEnd}
use Rattle.std.proofs.KnownBytes.{Appends-nil, Consumes-nil}
use Rattle.geo_io.specs.declared.ends.LineEnd.{LineEnd}
use Rattle.geo_io.specs.declared.ends.LineEnd.TheVariants as source
use Rattle.geo_io.specs.declared.ends.SinkEnd.{SinkEnd}
use Rattle.geo_io.specs.declared.ends.SinkEnd.TheVariants as sink
use Rattle.geo_io.specs.Lines.{cut_lines_of, whole_lines_of}
use Rattle.geo_io.specs.Pieces.{AppendsFront, Takes as TakesBytes}
use Rattle.geo_io.specs.Taking.{Taking, lines_left, IsRightOnEnd, GivesLine, GivesNone, StopsBetween}
use Rattle.geo_io.specs.Taking as taking
use Rattle.geo_app.specs.declared.program.Outcome.{Outcome}
use Rattle.geo_app.specs.declared.program.Outcome.TheVariants.{Done, SomeRefused, ReadFault, WriteFault, TooLong, NoMemory}
use Rattle.geo_app.specs.Courses.{Course, IsCarriedOut, outcome_of_source, outcome_of_sink}
use Rattle.geo_app.specs.Outcomes.{IsAnswered, IsStopped}
use Rattle.geo_app.proofs.Progress.{Progress, all_taken, all_consumed, all_counted, stopped_reading, stopped_between, end_written, end_refused, end_stopped, line_stopped}

pub same_end : {T : Type 0} {a b : LineEnd} → ◌≡◌ {A = Result T LineEnd} (Err a) (Err b) → a ≡ b
same_end e = cc

-- no line was carried out yet
pub none_carried : (course : Course) (limit : ℕ) (left before : Option (List ℕ)) → TakesBytes left left (λ taken. IsCarriedOut course limit NoMemory taken left before before)
none_carried course limit left before = (
  [],
  Consumes-nil left,
  record {
    answered = λ a. absurd (no_answer a);
    stopped = λ s. ([], course.text [], refl, Appends-nil before);
    read_fault = λ e. absurd (cc);
    too_long = (λ e. absurd (cc), λ more. absurd (omega (arith, more)));
  },
)
  where
    no_answer : IsAnswered NoMemory → ⊥
    no_answer (inl e) = cc
    no_answer (inr e) = cc

-- an end of the source
source_end : (course : Course) (limit : ℕ) (taken : List ℕ) (left before after : Option (List ℕ)) (end : LineEnd) → AppendsFront before after (course.text (cut_lines_of limit taken)) → (end ≡ source.Failed → Appends before after (course.meanwhile (map (take limit) (whole_lines_of taken)))) → ((end ≡ source.TooLong) ↔ (2 ^ 24 < length taken)) → IsCarriedOut course limit (outcome_of_source end) taken left before after
source_end course limit taken left before after source.Failed front fault long = record {
  answered = λ a. absurd (no_answer a);
  stopped = λ s. front;
  read_fault = λ e. fault refl;
  too_long = (λ e. absurd (cc), λ more. absurd (other (long.1 more)));
}
  where
    no_answer : IsAnswered ReadFault → ⊥
    no_answer (inl e) = cc
    no_answer (inr e) = cc

    other : source.Failed ≡ source.TooLong → ⊥
    other e = cc
source_end course limit taken left before after source.TooLong front fault long = record {
  answered = λ a. absurd (no_answer a);
  stopped = λ s. front;
  read_fault = λ e. absurd (cc);
  too_long = (λ e. long.0 refl, λ more. refl);
}
  where
    no_answer : IsAnswered TooLong → ⊥
    no_answer (inl e) = cc
    no_answer (inr e) = cc
source_end course limit taken left before after source.NoMemory front fault long = record {
  answered = λ a. absurd (no_answer a);
  stopped = λ s. front;
  read_fault = λ e. absurd (cc);
  too_long = (λ e. absurd (cc), λ more. absurd (other (long.1 more)));
}
  where
    no_answer : IsAnswered NoMemory → ⊥
    no_answer (inl e) = cc
    no_answer (inr e) = cc

    other : source.NoMemory ≡ source.TooLong → ⊥
    other e = cc

-- an end of the sink
sink_end : (course : Course) (limit : ℕ) (taken : List ℕ) (left before after : Option (List ℕ)) (end : SinkEnd) → AppendsFront before after (course.text (cut_lines_of limit taken)) → length taken ≤ 2 ^ 24 → IsCarriedOut course limit (outcome_of_sink end) taken left before after
sink_end course limit taken left before after sink.Failed front few = record {
  answered = λ a. absurd (no_answer a);
  stopped = λ s. front;
  read_fault = λ e. absurd (cc);
  too_long = (λ e. absurd (cc), λ more. absurd (omega (arith, more, few)));
}
  where
    no_answer : IsAnswered WriteFault → ⊥
    no_answer (inl e) = cc
    no_answer (inr e) = cc
sink_end course limit taken left before after sink.NoMemory front few = record {
  answered = λ a. absurd (no_answer a);
  stopped = λ s. front;
  read_fault = λ e. absurd (cc);
  too_long = (λ e. absurd (cc), λ more. absurd (omega (arith, more, few)));
}
  where
    no_answer : IsAnswered NoMemory → ⊥
    no_answer (inl e) = cc
    no_answer (inr e) = cc

-- the outcome by whether something was refused
outcome_by : (refused : Bool) (outcome : Outcome) → MatchBool refused (outcome ≡ SomeRefused) (outcome ≡ Done) → (refused ≡ true → outcome ≡ SomeRefused) × (refused ≡ false → outcome ≡ Done)
outcome_by true outcome is = (λ e. is, λ e. absurd (cc))
outcome_by false outcome is = (λ e. absurd (cc), λ e. is)

-- the end of the input
input_end : (course : Course) (limit : ℕ) (taken : List ℕ) (left before after : Option (List ℕ)) (refused : Bool) (outcome : Outcome) → (refused ≡ true → outcome ≡ SomeRefused) → (refused ≡ false → outcome ≡ Done) → IsAtEnd left → Appends before after (course.text (cut_lines_of limit taken)) → refused ≡ course.refuses (cut_lines_of limit taken) → length taken ≤ 2 ^ 24 → IsCarriedOut course limit outcome taken left before after
input_end course limit taken left before after true outcome yes' no' ended appends refuses few =
    subst (λ (o : Outcome). IsCarriedOut course limit o taken left before after) (sym (yes' refl)) (record {
      answered = λ a. (ended, appends, (λ e. sym refuses, λ e. refl));
      stopped = λ s. absurd (no_stop s);
      read_fault = λ e. absurd (cc);
      too_long = (λ e. absurd (cc), λ more. absurd (omega (arith, more, few)));
    })
  where
    no_stop : IsStopped SomeRefused → ⊥
    no_stop (inl e) = cc
    no_stop (inr (inl e)) = cc
    no_stop (inr (inr (inl e))) = cc
    no_stop (inr (inr (inr e))) = cc
input_end course limit taken left before after false outcome yes' no' ended appends refuses few =
    subst (λ (o : Outcome). IsCarriedOut course limit o taken left before after) (sym (no' refl)) (record {
      answered = λ a. (ended, appends, (λ e. absurd (cc), λ e. absurd (both (course.refuses (cut_lines_of limit taken)) e (sym refuses))));
      stopped = λ s. absurd (no_stop s);
      read_fault = λ e. absurd (cc);
      too_long = (λ e. absurd (cc), λ more. absurd (omega (arith, more, few)));
    })
  where
    both : (b : Bool) → b ≡ true → b ≡ false → ⊥
    both b is other = grind (arith, is, other)

    no_stop : IsStopped Done → ⊥
    no_stop (inl e) = cc
    no_stop (inr (inl e)) = cc
    no_stop (inr (inr (inl e))) = cc
    no_stop (inr (inr (inr e))) = cc

module _ (course : Course) (limit : ℕ) (lines after : Taking) (Goes : Course → Type 0) (refused : Bool) (first left left_after before held : Option (List ℕ)) (p : Progress course limit lines Goes refused first left before held) (bytes : List ℕ) (consumes : Consumes left left_after bytes) (takes : taking.Takes lines after bytes) where
  pub source_ended : (end : LineEnd) → (end ≡ source.Failed → StopsBetween lines bytes) → ((end ≡ source.TooLong) ↔ (2 ^ 24 < after.taken)) → TakesBytes first left_after (λ taken. IsCarriedOut course limit (outcome_of_source end) taken left_after before held)
  source_ended end between long =
      let taken = all_taken course limit lines after Goes refused first left left_after before held p bytes consumes takes in
      let count = all_counted course limit lines after Goes refused first left left_after before held p bytes consumes takes in (
        taken,
        all_consumed course limit lines after Goes refused first left left_after before held p bytes consumes takes,
        source_end course limit taken left_after before held end
            (stopped_reading course limit lines after Goes refused first left left_after before held p bytes consumes takes)
            (λ failed. stopped_between course limit lines after Goes refused first left left_after before held p bytes consumes takes (between failed))
            (λ e. subst (λ n. 2 ^ 24 < n) count (long.0 e), λ more. long.1 (subst (λ n. 2 ^ 24 < n) (sym count) more)),
      )

  pub sink_ended : (held_after : Option (List ℕ)) (line : List ℕ) (end : SinkEnd) → GivesLine lines after bytes line → AppendsFront held held_after (p.next.text (line ∷ lines_left after [])) → after.taken ≤ 2 ^ 24 → TakesBytes first left_after (λ taken. IsCarriedOut course limit (outcome_of_sink end) taken left_after before held_after)
  sink_ended held_after line end gives front few =
      let taken = all_taken course limit lines after Goes refused first left left_after before held p bytes consumes takes in
      let count = all_counted course limit lines after Goes refused first left left_after before held p bytes consumes takes in (
        taken,
        all_consumed course limit lines after Goes refused first left left_after before held p bytes consumes takes,
        sink_end course limit taken left_after before held_after end (line_stopped course limit lines after Goes refused first left left_after before held p bytes consumes takes held_after line gives front) (subst (λ n. n ≤ 2 ^ 24) count few),
      )

  pub end_failed : (held_after : Option (List ℕ)) (end : SinkEnd) → GivesNone lines after bytes → AppendsFront held held_after (p.next.text []) → after.taken ≤ 2 ^ 24 → TakesBytes first left_after (λ taken. IsCarriedOut course limit (outcome_of_sink end) taken left_after before held_after)
  end_failed held_after end none front few =
      let taken = all_taken course limit lines after Goes refused first left left_after before held p bytes consumes takes in
      let count = all_counted course limit lines after Goes refused first left left_after before held p bytes consumes takes in (
        taken,
        all_consumed course limit lines after Goes refused first left left_after before held p bytes consumes takes,
        sink_end course limit taken left_after before held_after end (end_stopped course limit lines after Goes refused first left left_after before held p bytes consumes takes held_after none front) (subst (λ n. n ≤ 2 ^ 24) count few),
      )

  pub input_ended : (held_after : Option (List ℕ)) (all : Bool) (outcome : Outcome) → (all ≡ true → outcome ≡ SomeRefused) → (all ≡ false → outcome ≡ Done) → GivesNone lines after bytes → IsAtEnd left_after → Appends held held_after (p.next.text []) → all ≡ (refused || p.next.refuses []) → after.taken ≤ 2 ^ 24 → TakesBytes first left_after (λ taken. IsCarriedOut course limit outcome taken left_after before held_after)
  input_ended held_after all outcome is other none ended appends refuses few =
      let taken = all_taken course limit lines after Goes refused first left left_after before held p bytes consumes takes in
      let count = all_counted course limit lines after Goes refused first left left_after before held p bytes consumes takes in (
        taken,
        all_consumed course limit lines after Goes refused first left left_after before held p bytes consumes takes,
        input_end course limit taken left_after before held_after all outcome is other ended
            (end_written course limit lines after Goes refused first left left_after before held p bytes consumes takes held_after none appends)
            (refuses ∙ sym (end_refused course limit lines after Goes refused first left left_after before held p bytes consumes takes none))
            (subst (λ n. n ≤ 2 ^ 24) count few),
      )

  pub input_over : (held_after : Option (List ℕ)) (end : Result Bool SinkEnd) (outcome : Outcome) → MatchResult end (λ more. MatchBool (refused || more) (outcome ≡ SomeRefused) (outcome ≡ Done)) (λ stop. outcome ≡ outcome_of_sink stop)
      → IfOk end (λ more. (next : Course) → Goes next → Appends held held_after (next.text []) × (more ≡ next.refuses [])) → OnErr end ((next : Course) → Goes next → AppendsFront held held_after (next.text []))
      → GivesNone lines after bytes → IsAtEnd left_after → after.taken ≤ 2 ^ 24 → TakesBytes first left_after (λ taken. IsCarriedOut course limit outcome taken left_after before held_after)
  input_over held_after (Ok more) outcome is all front none ended few =
      let wrote = all p.next p.goes in
      let either = outcome_by (refused || more) outcome is in
      input_ended held_after (refused || more) outcome either.0 either.1 none ended wrote.0 (ap (λ b. refused || b) wrote.1) few
  input_over held_after (Err stop) outcome is all front none ended few =
      subst (λ (o : Outcome). TakesBytes first left_after (λ taken. IsCarriedOut course limit o taken left_after before held_after)) (sym is) (end_failed held_after stop none (front p.next p.goes) few)
