-- How event lines start, and how the events that they begin go on.
use Rattle.std.specs.Prelude.{◌≡◌, ◌≤◌, ⊤, ℕ, false, List, [], drop, length, Result, Ok, Err}
use Rattle.ui_machine.specs.Limits.{most_lines}
use Rattle.ui_machine.specs.State.Tasks.{Event}
use Rattle.builder_defs.specs.EventMeaning.{event_denoted}
use Rattle.native_peers.specs.Seen.{Relations, Seen}
use Rattle.engine_dispatches.specs.declared.courses.Progress.{Progress}
use Rattle.engine_dispatches.specs.PoolView.{world_at}
use Rattle.ui_engine.specs.SessionView.{ComesOn, SessionState, state_at}
use Rattle.event_lines.specs.EventFileRun as file_run
use Rattle.event_lines.specs.EventFileRun.{LineComesTo, ends, sort_of_line}
use Rattle.event_lines.specs.Events.{event_replies}
use Rattle.event_lines.specs.LineOutcome.{outcome_of, outcome_with}
use Rattle.event_lines.specs.declared.line_handler.LineFault.{LineFault}
use Rattle.event_lines.specs.declared.line_outcome.LineStart.{LineStart}
use Rattle.event_lines.specs.declared.line_outcome.LineStart.TheVariants as starts
use Rattle.event_lines.specs.declared.line_reader.Found.{Found}
use Rattle.event_lines.specs.declared.line_reader.Found.TheVariants as founds

-- the lines that a session said since
abbrev pub since : SessionState → SessionState → List (List ℕ)
since old new = drop (length old.world.transcript) new.world.transcript

-- the line is an event, which has come so far
pub record HasBegun (may : Relations) (pool : List Seen) (old : SessionState) (line : List ℕ) (progress : Progress) (new : SessionState) : Type 0 where
  pub event : Event
  pub denotes : event_denoted old.definition line ≡ Ok event
  pub so_far : ComesOn (Ok progress) may old.definition event (world_at pool old.world) [] pool new

-- what comes of the beginning of a line: its event has come so far, or the session answers this
abbrev pub LineBegins : Result Progress LineFault → Relations → List Seen → SessionState → List ℕ → SessionState → Type 0
LineBegins (Ok progress) may pool old line new = HasBegun may pool old line progress new
LineBegins (Err fault) may pool old line new = event_replies may (state_at pool old) line (outcome_of {T = Unit {0}} (Err fault) (since old new)) (state_at pool new)

-- the line numbered n is the session's, or it comes to this
abbrev pub LineStarts : LineStart → Relations → List Seen → SessionState → ℕ → (buffer line : List ℕ) → SessionState → Type 0
LineStarts (starts.Begun progress) may pool old n buffer line new = (sort_of_line n line ≡ file_run.event) × (line ≡ buffer)
LineStarts (starts.Over outcome) may pool old n buffer line new =
    LineComesTo (event_replies may) (state_at pool old) n line (outcome_with outcome (since old new)) (state_at pool new)

-- what was read is an event, which has come so far
abbrev pub IfBegun : LineStart → Relations → List Seen → SessionState → (buffer : List ℕ) → SessionState → Type 0
IfBegun (starts.Begun progress) may pool old buffer new = HasBegun may pool old buffer progress new
IfBegun (starts.Over outcome) may pool old buffer new = ⊤

-- where the run goes on the line is whole, and not one too many
abbrev pub GoesOnWhole : LineStart → ℕ → Found → Type 0
GoesOnWhole (starts.Begun progress) n found = (n ≤ most_lines) × (found ≡ founds.Whole)
GoesOnWhole (starts.Over outcome) n found = (said : List (List ℕ)) → ends (outcome_with outcome said) ≡ false → (n ≤ most_lines) × (found ≡ founds.Whole)
