-- What the handling of one line does.
use Rattle.std.specs.Prelude.{◌≡◌, ℕ, List, Result, IfOk}
use Rattle.native_peers.specs.Seen.{Relations}
use Rattle.ui_engine.specs.SessionView.{SessionState, without_lines}
use Rattle.event_lines.specs.EventFileRun.{LineComesTo, Outcome, text_at}
use Rattle.event_lines.specs.Events.{event_replies}
use Rattle.event_lines.specs.LineOutcome.{outcome_with}
use Rattle.event_lines.specs.Reading.{IsOf}
use Rattle.event_lines.specs.Writing.{Puts, Sent}
use Rattle.event_lines.specs.declared.line_outcome.LineOutcome.{LineOutcome}
use Rattle.event_lines.specs.declared.line_reader.Found.{Found}

-- The line that was found came to an outcome in a session, whose peers may do this; it was said, or the writer failed; and the session has
-- forgotten its lines.
pub record Tells {E : Type 0} (may : Relations) (old : SessionState) (number : ℕ) (found : Found) (buffer : List ℕ) (result : Result LineOutcome E) (sent : Sent) (before : List ℕ) (sent_after : Sent) (after : List ℕ) (new : SessionState) : Type 0 where
  pub outcome : Outcome
  pub mid : SessionState
  pub comes : (line : List ℕ) → IsOf found buffer line → LineComesTo (event_replies may) old number line outcome mid
  pub forgets : new ≡ without_lines mid
  pub is : IfOk result (λ o. (said : List (List ℕ)) × (outcome ≡ outcome_with o said))
  pub puts : Puts result sent before sent_after after (text_at number outcome)
