-- What a line denotes is what a session takes.
use Rattle.std.proofs.Common.{ℕ, List, Result, Ok, Err}
use Rattle.std.specs.Prelude.{IfOk}
use Rattle.ui_machine.specs.Definition.{Definition}
use Rattle.definition_format.specs.declared.event_faults.EventError.{EventError}
use Rattle.definition_format.specs.declared.events.Event.{Event}
use Rattle.definition_format.specs.EventMeaning.{Gives, event_denoted}
use Rattle.definition_format.specs.Meaning.{event_of}
use Rattle.definition_format.specs.Origin.{IsDenoted}
use Rattle.law_steps.specs.Served.Sessions.{EventRead}
use Rattle.law_reading.proofs.Whole.{events_read}

pub read_if : (d : Definition) → IsDenoted d → (line : List ℕ) (r : Result Event EventError) → Gives event_of r (event_denoted d line) → IfOk r (λ event. EventRead d (event_of event))
read_if d from line (Ok event) exact = events_read from.bytes d from.is line (event_of event) exact
read_if d from line (Err error) exact = tt
