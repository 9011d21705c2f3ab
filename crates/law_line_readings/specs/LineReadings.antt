-- What is read has short details: so each line of a run over bytes and lines is short, and each dispatch is within its bound in bytes.
use Rattle.std.specs.Prelude.{◌≡◌, ℕ, List, Ok}
use Rattle.ui_machine.specs.Definition.{Definition}
use Rattle.ui_machine.specs.Output.Lines as said_lines
use Rattle.ui_machine.specs.Runs.{Fits, Steps}
use Rattle.ui_machine.specs.State.Config.{Config, said}
use Rattle.ui_machine.specs.State.Peers.{Peer, Reply}
use Rattle.ui_machine.specs.State.Tasks.{Event}
use Rattle.definition_format.specs.EventMeaning.{event_denoted}
use Rattle.law_typing.specs.Laws.StepsKeepGood.{PoolReady}
use Rattle.law_typing.specs.Verdict.Accepted.{Accepted, Each}
use Rattle.law_steps.specs.Served.Dispatches.{Throughout}
use Rattle.law_steps.specs.Served.Sessions.{Dispatch, beginning_of}
use Rattle.law_prices.specs.Dispatches.{asked_for}
use Rattle.law_reading.specs.Reading.{OfEachHeld, OfEachRead}
use Rattle.law_reading.specs.ReadRuns.{events_in}
use Rattle.law_line_lengths.specs.DispatchBytes.{BytesWithin}
use Rattle.law_short_lines.specs.ShortParts.{HasAllShort, HasShortDetails, HasShortPool, IsShortAll}

-- each event that a line denotes brings short values and a short detail
abbrev pub EventsAreAllShort : Type 0
EventsAreAllShort = (d : Definition) (line : List ℕ) (event : Event) → event_denoted d line ≡ Ok event → IsShortAll event

-- the code of each definition that bytes denote emits with short details
abbrev pub ReadingHasShortDetails : Type 0
ReadingHasShortDetails = OfEachRead HasShortDetails

-- and so does that of each that the code holds
abbrev pub HeldHasShortDetails : Type 0
HeldHasShortDetails = OfEachHeld HasShortDetails

-- ** runs over lines

-- So all is short wherever a dispatch of a run over lines comes to, of each definition that bytes denote, where the peers that its places
-- name are short.
abbrev pub ReadIsAllShort : Type 0
ReadIsAllShort =
    OfEachRead (λ d. (peers : List Peer) → HasShortPool d peers → (lines : List (List ℕ)) → (x : Dispatch d peers (events_in d lines)) →
    Throughout d (beginning_of x) (HasAllShort d))

-- With a pool that is ready, no dispatch of a run over lines says more bytes than the greatest length of a line and an LF for each line of
-- its bound by the list of lines, the line of the end among them.
abbrev pub LinesAreBounded : Definition → Type 0
LinesAreBounded d =
    Accepted d → (peers : List Peer) → PoolReady d peers → (lines : List (List ℕ)) → (x : Dispatch d peers (events_in d lines)) →
    (replies : List Reply) → Each (Fits d) replies → (n : ℕ) (at : Config) → Steps d n replies (beginning_of x) at →
    BytesWithin d (asked_for x) (beginning_of x).world.transcript (said d at.world (said_lines.end at.counted)).transcript

-- So it is of each accepted definition that bytes denote,
abbrev pub ReadBytesAreBounded : Type 0
ReadBytesAreBounded = OfEachRead LinesAreBounded

-- and of each that the code holds.
abbrev pub HeldBytesAreBounded : Type 0
HeldBytesAreBounded = OfEachHeld LinesAreBounded
