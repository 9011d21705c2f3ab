-- The outcome that the code's answer denotes.
use Rattle.std.specs.Prelude.{ℕ, List, Result, Ok, Err}
use Rattle.builder_defs.specs.EventMeaning.{event_refusal}
use Rattle.definition_format.specs.declared.event_faults.EventError.{EventError}
use Rattle.definition_format.specs.declared.event_faults.EventError.TheVariants as errors
use Rattle.ui_engine.specs.declared.faults.SessionFault.{SessionFault}
use Rattle.ui_engine.specs.declared.faults.SessionFault.TheVariants as ends
use Rattle.event_lines.specs.Texts.{line_refusal}
use Rattle.event_lines.specs.EventFileRun.{Outcome, said, refused, cut_off, stopped}
use Rattle.event_lines.specs.declared.line_handler.LineFault.{LineFault}
use Rattle.event_lines.specs.declared.line_handler.LineFault.TheVariants as faults
use Rattle.event_lines.specs.declared.line_outcome.LineOutcome.{LineOutcome}
use Rattle.event_lines.specs.declared.refusal.LineRefusal.TheVariants as refusals
use Rattle.event_lines.specs.declared.line_outcome.LineOutcome.TheVariants as line_outcomes

-- why a line is not carried out that is no event, or for whose reading no memory was found
abbrev pub reading_fault : EventError → LineFault
reading_fault errors.OutOfMemory = faults.Stopped
reading_fault (errors.Refused fault) = faults.Refused (line_refusal (event_refusal fault))

-- why an event was not carried out to its end
abbrev pub dispatch_fault : SessionFault → LineFault
dispatch_fault ends.OutOfMemory = faults.Stopped
dispatch_fault ends.Stopped = faults.Stopped
dispatch_fault ends.ClockBack = faults.Refused refusals.ClockBack
dispatch_fault ends.Released = faults.Refused refusals.Released

-- what a line came to that said these lines
abbrev pub outcome_of : {T : Type 0} → Result T LineFault → List (List ℕ) → Outcome
outcome_of (Ok _) lines = said lines
outcome_of (Err (faults.Refused refusal)) lines = refused refusal
outcome_of (Err faults.Stopped) lines = stopped lines

abbrev pub outcome_with : LineOutcome → List (List ℕ) → Outcome
outcome_with line_outcomes.Said lines = said lines
outcome_with (line_outcomes.Refused refusal) lines = refused refusal
outcome_with (line_outcomes.CutOff refusal) lines = cut_off refusal
outcome_with line_outcomes.Stopped lines = stopped lines
