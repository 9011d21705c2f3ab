-- Each step keeps short what lines are made of, so that each line of a run is short, and each dispatch of an accepted definition says
-- no more bytes than a number that is known before.
use Rattle.std.specs.Prelude.{ℕ, List, Option, IfSome}
use Rattle.ui_machine.specs.Definition.{Definition}
use Rattle.ui_machine.specs.Output.Lines as said_lines
use Rattle.ui_machine.specs.Runs.{Fits, IsRun, Step, Steps, Tally, beginning, of_build, of_request}
use Rattle.ui_machine.specs.State.Config.{Config, World, said}
use Rattle.ui_machine.specs.State.Peers.{Peer, Reply}
use Rattle.ui_machine.specs.State.Tasks.{Due, Event, Request}
use Rattle.law_typing.specs.Laws.StepsKeepGood.{PoolReady}
use Rattle.law_typing.specs.Laws.WellRead.{WellRead}
use Rattle.law_typing.specs.Verdict.Accepted.{Accepted, Each}
use Rattle.law_steps.specs.Served.Dispatches.{Throughout}
use Rattle.law_steps.specs.Served.Sessions.{Dispatch, EventRead, beginning_of}
use Rattle.law_short_texts.specs.ShortValues.{HasShortTexts, IsShortRequest}
use Rattle.law_prices.specs.Dispatches.{asked_for}
use Rattle.law_line_lengths.specs.DispatchBytes.{BytesWithin}
use Rattle.law_line_lengths.specs.StepLines.{Grows, HasShortParts}
use Rattle.law_short_lines.specs.ShortParts.{HasAllShort, HasShortDetail, HasShortDetails, HasShortPool, IsShortAll, IsShortWhole}

-- ** steps

-- where all is short, so are the parts of lines
abbrev pub AllShortIsParts : Type 0
AllShortIsParts = (d : Definition) (c : Config) → HasAllShort d c → HasShortParts d c

-- each step keeps all short, of any definition with short texts and details, whatever a peer replies that fits: its answer is short, and
-- its shape stays
abbrev pub StepsKeepAllShort : Type 0
StepsKeepAllShort =
    (d : Definition) → HasShortTexts d → HasShortDetails d → (c : Config) → HasAllShort d c →
    (reply : Option Reply) → IfSome reply (Fits d) → (next : Config) → Step d reply c next → HasAllShort d next

-- ** dispatches

-- in a pool that is ready each peer that a place names is short
abbrev pub ReadyPoolsAreShort : Type 0
ReadyPoolsAreShort = (d : Definition) (peers : List Peer) → PoolReady d peers → HasShortPool d peers

-- from the build on all is short
abbrev pub BuildsAreAllShort : Type 0
BuildsAreAllShort =
    (d : Definition) → HasShortTexts d → HasShortDetails d → (peers : List Peer) → HasShortPool d peers →
    Throughout d (of_build d peers) (HasAllShort d)

-- so it is from a request on that brings short values and a short detail to a world in which all is short
abbrev pub RequestsAreAllShort : Type 0
RequestsAreAllShort =
    (d : Definition) → HasShortTexts d → HasShortDetails d → (w : World) → IsShortWhole d w →
    (r : Request) → IsShortRequest r → HasShortDetail r → Throughout d (of_request w r) (HasAllShort d)

-- and from a source on that is due in such a world
abbrev pub SourcesAreAllShort : Type 0
SourcesAreAllShort =
    (d : Definition) → HasShortTexts d → HasShortDetails d → (w : World) → IsShortWhole d w → (number : ℕ) →
    Throughout d (beginning w (Due number)) (HasAllShort d)

-- ** runs

-- wherever a dispatch of a run comes to, over events that bring short values and details, all is short
abbrev pub DispatchesAreAllShort : Type 0
DispatchesAreAllShort =
    (d : Definition) → HasShortTexts d → HasShortDetails d → (peers : List Peer) → HasShortPool d peers →
    (events : List Event) → Each IsShortAll events → (x : Dispatch d peers events) → Throughout d (beginning_of x) (HasAllShort d)

-- and so it is in the world that the run leaves
abbrev pub RunsAreAllShort : Type 0
RunsAreAllShort =
    (d : Definition) → HasShortTexts d → HasShortDetails d → (peers : List Peer) → HasShortPool d peers →
    (events : List Event) → Each IsShortAll events →
    (replies : List Reply) → Each (Fits d) replies → (tally : Tally) (last : World) → IsRun d peers events replies tally last →
    IsShortWhole d last

-- so each dispatch of a run says lines of short parts only
abbrev pub RunsSayShortLines : Type 0
RunsSayShortLines =
    (d : Definition) → HasShortTexts d → HasShortDetails d → (peers : List Peer) → HasShortPool d peers →
    (events : List Event) → Each IsShortAll events → (x : Dispatch d peers events) →
    (replies : List Reply) → Each (Fits d) replies → (n : ℕ) (at : Config) → Steps d n replies (beginning_of x) at →
    Grows d (beginning_of x).world.transcript at.world.transcript

-- ** bytes

-- No dispatch of a run of an accepted definition says more bytes than the greatest length of a line and an LF for each line of its bound by
-- the list of lines, the line of the end among them.
abbrev pub DispatchBytesAreBounded : Type 0
DispatchBytesAreBounded =
    (d : Definition) → WellRead d → Accepted d → HasShortTexts d → HasShortDetails d →
    (peers : List Peer) → PoolReady d peers → (events : List Event) → Each (EventRead d) events → Each IsShortAll events →
    (x : Dispatch d peers events) → (replies : List Reply) → Each (Fits d) replies →
    (n : ℕ) (at : Config) → Steps d n replies (beginning_of x) at →
    BytesWithin d (asked_for x) (beginning_of x).world.transcript (said d at.world (said_lines.end at.counted)).transcript
