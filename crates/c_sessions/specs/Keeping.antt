-- What is promised of the events of lines: each dispatch that one begins is never stuck, keeps within its bound, and comes to its end.
use Rattle.std.specs.Prelude.{◌≡◌, ℕ, false, List, Option, None, Some, Result, Ok, Err}
use Rattle.ui_machine.specs.Rules.Events.{refusal}
use Rattle.ui_machine.specs.State.Tasks.{Event}
use Rattle.builder_defs.specs.EventMeaning.{event_denoted}
use Rattle.engine_dispatches.specs.Promises.{EventKeeps}
use Rattle.ui_engine.specs.SessionView.{SessionState}
use Rattle.c_sessions.specs.Reached.{held}
use Rattle.c_sessions.specs.declared.faults.HostedFault.{HostedFault}
use Rattle.c_sessions.specs.declared.faults.HostedFault.TheVariants as hosted
use Rattle.c_sessions.specs.declared.hosted_session.HostedSession.{HostedSession}
use Rattle.c_sessions.specs.declared.status.Status.{Status}
use Rattle.c_sessions.specs.declared.status.Status.TheVariants as statuses

-- an event that a session takes keeps what is promised, unless the machine refuses it
abbrev pub KeepsEvent : Event → SessionState → Type 0
KeepsEvent event s = s.stopped ≡ false → refusal s.world event ≡ None → EventKeeps s.definition s.world event

-- so does the event of a line
abbrev pub KeepsLine : List ℕ → SessionState → Type 0
KeepsLine line s = (event : Event) → event_denoted s.definition line ≡ Ok event → KeepsEvent event s

-- what is promised where a line came to this; where no memory was found for reading it, nothing began
abbrev pub KeepsBy : Result (Unit {0}) HostedFault → List ℕ → SessionState → Type 0
KeepsBy (Ok _) line s = KeepsLine line s
KeepsBy (Err (hosted.Refused why)) line s = KeepsLine line s
KeepsBy (Err hosted.Stopped) line s = KeepsLine line s
KeepsBy (Err hosted.NoMemory) line s = Unit {0}

-- what is promised where a call with a handle came to this; where there is no session, or an event is under way, nothing began
abbrev pub KeepsEnding : List ℕ → Option HostedSession → Status → Type 0
KeepsEnding line None status = Unit {0}
KeepsEnding line (Some h) statuses.NoMemory = Unit {0}
KeepsEnding line (Some h) statuses.Busy = Unit {0}
KeepsEnding line (Some h) status = KeepsLine line (held h)
