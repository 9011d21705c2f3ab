-- What is read is short: so every text of a session over bytes and lines has at most 4,096 bytes.
use Rattle.std.specs.Prelude.{◌≡◌, ℕ, List, Ok}
use Rattle.ui_machine.specs.Definition.{Definition}
use Rattle.ui_machine.specs.Runs.{Fits, IsRun, Tally}
use Rattle.ui_machine.specs.State.Config.{World}
use Rattle.ui_machine.specs.State.Peers.{Peer, Reply}
use Rattle.ui_machine.specs.State.Tasks.{Event}
use Rattle.definition_format.specs.EventMeaning.{event_denoted}
use Rattle.law_typing.specs.Verdict.Accepted.{Each}
use Rattle.law_steps.specs.Served.Dispatches.{Throughout}
use Rattle.law_steps.specs.Served.Sessions.{Dispatch, beginning_of}
use Rattle.law_reading.specs.Reading.{OfEachHeld, OfEachRead}
use Rattle.law_reading.specs.ReadRuns.{events_in}
use Rattle.law_short_texts.specs.ShortValues.{AllShort, HasShortTexts, IsShortEvent, IsShortWorld}

-- each event that a line denotes brings short values
abbrev pub EventsAreShort : Type 0
EventsAreShort = (d : Definition) (line : List ℕ) (event : Event) → event_denoted d line ≡ Ok event → IsShortEvent event

-- each definition that bytes denote has short texts
abbrev pub ReadingIsShort : Type 0
ReadingIsShort = OfEachRead HasShortTexts

-- and so has each that the code holds
abbrev pub HeldIsShort : Type 0
HeldIsShort = OfEachHeld HasShortTexts

-- ** runs over lines

-- Where all replies fit, all values are short wherever a dispatch of a run over lines comes to, and in the world that the run leaves.
pub record LinesStayShort (d : Definition) (peers : List Peer) (lines : List (List ℕ)) : Type 0 where
  pub dispatches : (x : Dispatch d peers (events_in d lines)) → Throughout d (beginning_of x) AllShort
  pub runs : (replies : List Reply) → Each (Fits d) replies → (tally : Tally) (last : World) → IsRun d peers (events_in d lines) replies tally last →
      IsShortWorld last

-- So it is in each run of each definition that bytes denote.
abbrev pub ReadTextsAreShort : Type 0
ReadTextsAreShort = OfEachRead (λ d. (peers : List Peer) (lines : List (List ℕ)) → LinesStayShort d peers lines)
