-- How the lines of an event are said as they come.
use Rattle.std.specs.Prelude.{◌≡◌, ◌+◌, ◌-◌, ◌*◌, ℕ, List, [], ◌++◌, drop, Result, Ok, Err, IfOk}
use Rattle.ui_machine.specs.Definition.{Definition}
use Rattle.ui_machine.specs.State.Config.{World}
use Rattle.ui_machine.specs.State.Tasks.{Event}
use Rattle.ui_machine.specs.Steps.{most_steps}
use Rattle.native_peers.specs.Seen.{Relations, Seen}
use Rattle.engine_dispatches.specs.declared.courses.Progress.{Progress}
use Rattle.engine_dispatches.specs.declared.courses.Progress.TheVariants as progress
use Rattle.engine_dispatches.specs.declared.dispatches.Reply.{Reply}
use Rattle.engine_dispatches.specs.Ways.{serving}
use Rattle.ui_engine.specs.declared.faults.SessionFault.{SessionFault}
use Rattle.ui_engine.specs.SessionView.{Comes, ComesOn, SessionState, state_at, without_lines}
use Rattle.event_lines.specs.EventFileRun.{Outcome, said, stopped, text_at}
use Rattle.event_lines.specs.LineOutcome.{outcome_with}
use Rattle.event_lines.specs.Texts.{lines_text}
use Rattle.event_lines.specs.Writing.{Passes, Puts, Sent}
use Rattle.event_lines.specs.declared.line_outcome.LineOutcome.{LineOutcome}

-- some event has come so far
pub record IsBegun (begun : Progress) (may : Relations) (pool : List Seen) (s : SessionState) : Type 0 where
  pub event : Event
  pub from : World
  pub so_far : ComesOn (Ok begun) may s.definition event from [] pool s

-- the outcome of a line whose event came to this, and said these lines
abbrev pub outcome_after : Result Reply SessionFault → List (List ℕ) → Outcome
outcome_after (Ok reply) lines = said lines
outcome_after (Err fault) lines = stopped lines

-- An event was gone on with until it had ended or no memory was found: with these lines behind those before, which were said, or the writer
-- failed. Where the writer failed the event may have broken off as it does where no memory is found. The session has forgotten its lines.
pub record Follows {E : Type 0} (may : Relations) (d : Definition) (event : Event) (w : World) (before : List (List ℕ)) (number : ℕ) (result : Result LineOutcome E) (sent : Sent) (gathered : List ℕ) (sent_after : Sent) (after : List ℕ) (pool : List Seen) (new : SessionState) : Type 0 where
  pub came : Result Reply SessionFault
  pub lines : List (List ℕ)
  pub mid : SessionState
  pub comes : Comes came (serving may d w event) d mid
  pub shows : mid.world.transcript ≡ before ++ lines
  pub forgets : state_at pool new ≡ without_lines mid
  pub is : IfOk result (λ outcome. outcome_after came lines ≡ outcome_with outcome lines)
  pub puts : Puts result sent gathered sent_after after (text_at number (outcome_after came lines))

-- how many counted steps an event has left at most, with one more
abbrev pub most_left : Progress → ℕ → ℕ
most_left (progress.UnderWay course) counted = 257 * most_steps - (course.so_far.steps + counted)
most_left (progress.Ended reply) counted = 0

-- An event has come so far from a world, and with these lines, behind those before, all has been said but what is kept behind the first
-- so many.
pub record SoFar (so_far : Progress) (may : Relations) (d : Definition) (event : Event) (w : World) (before : List (List ℕ)) (known : ℕ) (sent : Sent) (gathered : List ℕ) (sent_after : Sent) (after : List ℕ) (pool : List Seen) (s : SessionState) : Type 0 where
  pub front : List (List ℕ)
  pub lines : List (List ℕ)
  pub comes : ComesOn (Ok so_far) may d event w front pool s
  pub whole : front ++ s.world.transcript ≡ (before ++ lines) ++ drop known s.world.transcript
  pub said : Passes sent gathered sent_after after (lines_text lines)
