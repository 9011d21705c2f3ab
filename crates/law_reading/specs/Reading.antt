-- What reading gives is what the laws of runs take: definitions that are well read, and events that name what is there and fit.
use Rattle.std.specs.Prelude.{◌≡◌, ℕ, List, Ok}
use Rattle.ui_machine.specs.Definition.{Definition}
use Rattle.ui_machine.specs.State.Tasks.{Event}
use Rattle.definition_format.specs.Denoted.{denoted}
use Rattle.definition_format.specs.Origin.{IsDenoted}
use Rattle.definition_format.specs.EventMeaning.{event_denoted}
use Rattle.law_typing.specs.Laws.WellRead.{WellRead}
use Rattle.law_steps.specs.Served.Sessions.{EventRead}

-- what is so of each definition that bytes denote
abbrev pub OfEachRead : (Definition → Type 0) → Type 0
OfEachRead P = (bytes : List ℕ) (d : Definition) → denoted bytes ≡ Ok d → P d

-- each definition that bytes denote is well read
abbrev pub ReadingIsWell : Type 0
ReadingIsWell = OfEachRead WellRead

-- each event that a line denotes for it is one that the laws take
abbrev pub EventsAreRead : Type 0
EventsAreRead = OfEachRead (λ d. (line : List ℕ) (event : Event) → event_denoted d line ≡ Ok event → EventRead d event)

-- what is so of each definition of which it is known that some bytes denote it: of each that the code holds
abbrev pub OfEachHeld : (Definition → Type 0) → Type 0
OfEachHeld P = (d : Definition) → IsDenoted d → P d

-- each of these is well read
abbrev pub HeldIsWell : Type 0
HeldIsWell = OfEachHeld WellRead
