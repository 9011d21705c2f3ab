-- What a session's answers are to the lines that it hears.
use Rattle.std.proofs.Common.{arith, nat_lt, ◌≡◌, ◌≤◌, ℕ, Bool, true, false, List, [], ◌∷◌, ◌++◌, length, drop, Option, None, Some, Ok, Err, refl, subst, sym, ap, ◌∙◌, inl, inr}
use Rattle.std.proofs.lemmas.Bool.Decides.{nat_tests}
use Rattle.ui_machine.specs.State.Tasks.{Event}
use Rattle.ui_machine.specs.Rules.Events.{Refusal, gone, clock_back, refusal}
use Rattle.builder_defs.specs.EventMeaning.{event_refusal, event_denoted, Fails}
use Rattle.definition_format.specs.declared.event_faults.EventError.{EventError}
use Rattle.definition_format.specs.declared.event_faults.EventError.TheVariants as errors
use Rattle.ui_machine.specs.Prefix.{IsPrefix}
use Rattle.native_peers.specs.Seen.{Relations, Seen}
use Rattle.engine_dispatches.specs.declared.courses.Progress.{Progress}
use Rattle.engine_dispatches.specs.declared.dispatches.Reply.{Reply}
use Rattle.engine_dispatches.specs.Ways.{tally_of}
use Rattle.ui_engine.specs.declared.faults.SessionFault.{SessionFault}
use Rattle.ui_engine.specs.declared.faults.SessionFault.TheVariants as ends
use Rattle.ui_engine.specs.SessionView.{SessionState, AnswersBy, AnswersEvent, BeginsBy, BeginsEvent, state_at}
use Rattle.ui_machine.specs.Limits.{most_line_bytes, most_lines}
use Rattle.event_lines.specs.EventFileRun as file_run
use Rattle.event_lines.specs.EventFileRun.{LineComesTo, Meets, Outcome, is_blank, sort_of_line}
use Rattle.event_lines.specs.LineOutcome.{outcome_of, reading_fault, dispatch_fault}
use Rattle.event_lines.specs.Events.{Says, event_replies}
use Rattle.event_lines.specs.LineStarts.{HasBegun, since}
use Rattle.event_lines.specs.Reading.{IsOf}
use Rattle.event_lines.specs.declared.line_reader.Found.{Found}
use Rattle.event_lines.specs.declared.line_reader.Found.TheVariants as founds

drop_front : {A : Type 0} (xs ys : List A) → drop (length xs) (xs ++ ys) ≡ ys
drop_front [] ys = refl
drop_front (x ∷ xs) ys = drop_front xs ys

drop_all : {A : Type 0} (xs : List A) → drop (length xs) xs ≡ []
drop_all [] = refl
drop_all (x ∷ xs) = drop_all xs

-- what grew is what it was and the rest
pub grown : {A : Type 0} (xs ys : List A) → IsPrefix xs ys → ys ≡ xs ++ drop (length xs) ys
grown xs ys longer =
    longer.whole ∙ ap (λ more. xs ++ more) (sym (ap (drop (length xs)) longer.whole ∙ drop_front xs longer.more))

-- ** what a session answers to the event of a line

module _ (may : Relations) (old : SessionState) (line : List ℕ) (event : Event) (denotes : event_denoted old.definition line ≡ Ok event)
    (new : SessionState) (longer : IsPrefix old.world.transcript new.world.transcript) where
  shows : new.world.transcript ≡ old.world.transcript ++ since old new
  shows = grown old.world.transcript new.world.transcript longer

  -- it was carried out
  pub answers_reply : (reply : Reply) → AnswersEvent may old.stopped (Ok reply) old event new → Says may old line (since old new) new
  answers_reply reply answers = by old.stopped answers
    where
      on : (why : Option Refusal) → AnswersBy may why (Ok reply) old event new → Says may old line (since old new) new
      on (Some gone) h = cc h.0
      on (Some clock_back) h = cc h.0
      on None h = record {
        event = event;
        tally = tally_of reply;
        denotes = denotes;
        serves = h.leads;
        shows = shows;
        definition = h.definition;
        goes_on = h.goes_on;
      }

      by : (b : Bool) → AnswersEvent may b (Ok reply) old event new → Says may old line (since old new) new
      by true h = cc h.0
      by false h = on (refusal old.world event) h

  -- it is refused, or no memory is found
  pub answers_fault : (fault : SessionFault) → AnswersEvent may old.stopped (Err fault) old event new
      → event_replies may old line (outcome_of {T = Unit {0}} (Err (dispatch_fault fault)) (since old new)) new
  answers_fault fault answers = by old.stopped fault answers
    where
      on : (why : Option Refusal) (fault : SessionFault) → refusal old.world event ≡ why → AnswersBy may why (Err fault) old event new
          → event_replies may old line (outcome_of {T = Unit {0}} (Err (dispatch_fault fault)) (since old new)) new
      on (Some gone) ends.Released why h = (inr (record { event = event; why = gone; denotes = denotes; refuses = why }, refl), h.1)
      on (Some gone) ends.ClockBack why h = cc h.0
      on (Some gone) ends.Stopped why h = cc h.0
      on (Some gone) ends.OutOfMemory why h = cc h.0
      on (Some clock_back) ends.ClockBack why h = (inr (record { event = event; why = clock_back; denotes = denotes; refuses = why }, refl), h.1)
      on (Some clock_back) ends.Released why h = cc h.0
      on (Some clock_back) ends.Stopped why h = cc h.0
      on (Some clock_back) ends.OutOfMemory why h = cc h.0
      on None ends.OutOfMemory why h = inl (record { event = event; denotes = denotes; breaks_off = h.breaks_off; shows = shows; definition = h.definition; stops = h.stops })
      on None ends.Stopped why h = absurd h
      on None ends.ClockBack why h = absurd h
      on None ends.Released why h = absurd h

      by : (b : Bool) (fault : SessionFault) → AnswersEvent may b (Err fault) old event new
          → event_replies may old line (outcome_of {T = Unit {0}} (Err (dispatch_fault fault)) (since old new)) new
      by true ends.Stopped h = inr (ap (since old) h.1 ∙ drop_all old.world.transcript, h.1)
      by true ends.OutOfMemory h = cc h.0
      by true ends.ClockBack h = cc h.0
      by true ends.Released h = cc h.0
      by false fault h = on (refusal old.world event) fault refl h

-- an event that does not begin is answered as it is where it is carried out at once
pub begun_badly : (may : Relations) (stopped : Bool) (fault : SessionFault) (pool : List Seen) (old : SessionState) (event : Event) (new : SessionState)
    → BeginsEvent may stopped (Err fault) pool old event new → AnswersEvent may stopped (Err fault) (state_at pool old) event (state_at pool new)
begun_badly may true fault pool old event new h = (cc h.0, ap (state_at pool) h.1)
begun_badly may false fault pool old event new h = by (refusal old.world event) h
  where
    by : (why : Option Refusal) → BeginsBy may why (Err fault) pool old event new → AnswersBy may why (Err fault) (state_at pool old) event (state_at pool new)
    by (Some gone) h = (cc h.0, ap (state_at pool) h.1)
    by (Some clock_back) h = (cc h.0, ap (state_at pool) h.1)
    by None h = h

module _ (may : Relations) (pool : List Seen) (old : SessionState) (line : List ℕ) where
  pub unread : (error : EventError) → Fails error (event_denoted old.definition line) → event_replies may (state_at pool old) line (outcome_of {T = Unit {0}} (Err (reading_fault error)) (since old old)) (state_at pool old)
  unread errors.OutOfMemory fails = inr (drop_all old.world.transcript, refl)
  unread (errors.Refused fault) fails = (inl (record { refusal = event_refusal fault; denotes = fails }, refl), refl)

  module _ (event : Event) (denotes : event_denoted old.definition line ≡ Ok event) where
    -- the event has come so far
    pub begun : (progress : Progress) (new : SessionState) → BeginsEvent may old.stopped (Ok progress) pool old event new → HasBegun may pool old line progress new
    begun progress new begins = by old.stopped begins
      where
        on : (why : Option Refusal) → BeginsBy may why (Ok progress) pool old event new → HasBegun may pool old line progress new
        on (Some gone) h = cc h.0
        on (Some clock_back) h = cc h.0
        on None h = record { event = event; denotes = denotes; so_far = h }

        by : (b : Bool) → BeginsEvent may b (Ok progress) pool old event new → HasBegun may pool old line progress new
        by true h = cc h.0
        by false h = on (refusal old.world event) h

    -- it is refused, or no memory is found
    pub halted : (new : SessionState) → IsPrefix old.world.transcript new.world.transcript → (fault : SessionFault) → BeginsEvent may old.stopped (Err fault) pool old event new
        → event_replies may (state_at pool old) line (outcome_of {T = Unit {0}} (Err (dispatch_fault fault)) (since old new)) (state_at pool new)
    halted new longer fault begins =
        answers_fault may (state_at pool old) line event denotes (state_at pool new) longer fault (begun_badly may old.stopped fault pool old event new begins)

-- a line that is neither blank nor past a limit is the session's to answer
pub heard : (may : Relations) (old new : SessionState) (n : ℕ) (found : Found) (buffer line : List ℕ) (outcome : Outcome) → found ≡ founds.Whole → IsOf found buffer line → n ≤ most_lines → is_blank buffer ≡ false
    → event_replies may old buffer outcome new → LineComesTo (event_replies may) old n line outcome new
heard may old new n found buffer line outcome whole is few seen replies =
    let of : (line ≡ buffer) × (length line ≤ most_line_bytes) = subst (λ (f : Found). IsOf f buffer line) whole is in
    let short = of.1 in
    let not_many : nat_lt most_lines n ≡ false = grind (arith, nat_tests, few) in
    let not_long : nat_lt most_line_bytes (length line) ≡ false = grind (arith, nat_tests, short) in
    let not_blank : is_blank line ≡ false = ap is_blank of.0 ∙ seen in
    let event : sort_of_line n line ≡ file_run.event = rw (not_many, not_long, not_blank) refl in
    inl (subst (λ f. Meets (event_replies may) f old line outcome new) (sym event) (subst (λ (l : List ℕ). event_replies may old l outcome new) (sym of.0) replies))

-- so is one whose event has come so far
pub its_own : (n : ℕ) (found : Found) (buffer line : List ℕ) → found ≡ founds.Whole → IsOf found buffer line → n ≤ most_lines → is_blank buffer ≡ false → (sort_of_line n line ≡ file_run.event) × (line ≡ buffer)
its_own n found buffer line whole is few seen =
    let of : (line ≡ buffer) × (length line ≤ most_line_bytes) = subst (λ (f : Found). IsOf f buffer line) whole is in
    let short = of.1 in
    let not_many : nat_lt most_lines n ≡ false = grind (arith, nat_tests, few) in
    let not_long : nat_lt most_line_bytes (length line) ≡ false = grind (arith, nat_tests, short) in
    let not_blank : is_blank line ≡ false = ap is_blank of.0 ∙ seen in
    (rw (not_many, not_long, not_blank) refl, of.0)
