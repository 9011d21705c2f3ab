-- Why a line was not carried out to its end in a session without peers.
use Rattle.std.specs.Prelude.{List, ℕ, Result, Ok, Err}
use Rattle.builder_defs.specs.EventMeaning.{event_refusal}
use Rattle.definition_format.specs.declared.event_faults.EventError.{EventError}
use Rattle.definition_format.specs.declared.event_faults.EventError.TheVariants as errors
use Rattle.ui_engine.specs.declared.faults.SessionFault.{SessionFault}
use Rattle.ui_engine.specs.declared.faults.SessionFault.TheVariants as ends
use Rattle.event_lines.specs.EventFileRun.{Outcome}
use Rattle.event_lines.specs.LineOutcome.{outcome_of}
use Rattle.event_lines.specs.Texts.{line_refusal}
use Rattle.event_lines.specs.declared.line_handler.LineFault.{LineFault}
use Rattle.event_lines.specs.declared.line_handler.LineFault.TheVariants as faults
use Rattle.event_lines.specs.declared.refusal.LineRefusal.TheVariants as refusals
use Rattle.c_sessions.specs.declared.faults.HostedFault.{HostedFault}
use Rattle.c_sessions.specs.declared.faults.HostedFault.TheVariants as hosted

-- why a line is not carried out that is no event, or for whose reading no memory was found
abbrev pub reading_fault : EventError → HostedFault
reading_fault errors.OutOfMemory = hosted.NoMemory
reading_fault (errors.Refused fault) = hosted.Refused (line_refusal (event_refusal fault))

-- why an event was not carried out to its end
abbrev pub dispatch_fault : SessionFault → HostedFault
dispatch_fault ends.OutOfMemory = hosted.Stopped
dispatch_fault ends.Stopped = hosted.Stopped
dispatch_fault ends.ClockBack = hosted.Refused refusals.ClockBack
dispatch_fault ends.Released = hosted.Refused refusals.Released

-- what it is for a run of lines, which ends wherever no memory is found
abbrev pub line_fault : HostedFault → LineFault
line_fault (hosted.Refused why) = faults.Refused why
line_fault hosted.NoMemory = faults.Stopped
line_fault hosted.Stopped = faults.Stopped

-- what a line came to that said these lines
abbrev pub outcome_here : Result (Unit {0}) HostedFault → List (List ℕ) → Outcome
outcome_here (Ok _) lines = outcome_of {T = Unit {0}} (Ok tt) lines
outcome_here (Err fault) lines = outcome_of {T = Unit {0}} (Err (line_fault fault)) lines
