-- Every text of a session has at most 4,096 bytes: where those of the definition and of the events have no more, no value that a dispatch
-- comes to holds a longer one.
use Rattle.std.specs.Prelude.{◌≡◌, ℕ, List, Option, Some, IfSome}
use Rattle.ui_machine.specs.Definition.{Definition}
use Rattle.ui_machine.specs.Runs.{Fits, IsRun, IsShort, Step, Tally, beginning, of_build, of_request}
use Rattle.ui_machine.specs.State.Config.{Config, World}
use Rattle.ui_machine.specs.State.Peers.{Peer, Question, Reply}
use Rattle.ui_machine.specs.State.Tasks.{Due, Event, Request}
use Rattle.ui_machine.specs.Steps.{question}
use Rattle.law_typing.specs.Verdict.Accepted.{Each}
use Rattle.law_steps.specs.Served.Dispatches.{Throughout}
use Rattle.law_steps.specs.Served.Sessions.{Dispatch, beginning_of}
use Rattle.law_short_texts.specs.ShortValues.{AllShort, HasShortAnswer, HasShortTexts, IsShortEvent, IsShortRequest, IsShortWorld}

-- each step keeps all values short, whatever short value a peer answers
abbrev pub StepsKeepShort : Type 0
StepsKeepShort =
    (d : Definition) → HasShortTexts d → (c : Config) → AllShort c → (reply : Option Reply) → IfSome reply HasShortAnswer →
    (next : Config) → Step d reply c next → AllShort next

-- so what is asked of a peer has short arguments
abbrev pub QuestionsAreShort : Type 0
QuestionsAreShort = (d : Definition) (c : Config) → AllShort c → (q : Question) → question d c ≡ Some q → Each IsShort q.args

-- ** dispatches

-- from the build on all values are short
abbrev pub BuildsAreShort : Type 0
BuildsAreShort = (d : Definition) → HasShortTexts d → (peers : List Peer) → Throughout d (of_build d peers) AllShort

-- so they are from a request on that brings short values to a world of short values
abbrev pub RequestsAreShort : Type 0
RequestsAreShort =
    (d : Definition) → HasShortTexts d → (w : World) → IsShortWorld w → (r : Request) → IsShortRequest r →
    Throughout d (of_request w r) AllShort

-- and from a source on that is due in such a world
abbrev pub SourcesAreShort : Type 0
SourcesAreShort =
    (d : Definition) → HasShortTexts d → (w : World) → IsShortWorld w → (number : ℕ) → Throughout d (beginning w (Due number)) AllShort

-- ** runs

-- wherever a dispatch of a run comes to, over events that bring short values, all values are short
abbrev pub DispatchesAreShort : Type 0
DispatchesAreShort =
    (d : Definition) → HasShortTexts d → (peers : List Peer) (events : List Event) → Each IsShortEvent events →
    (x : Dispatch d peers events) → Throughout d (beginning_of x) AllShort

-- and so they are in the world that the run leaves
abbrev pub RunsAreShort : Type 0
RunsAreShort =
    (d : Definition) → HasShortTexts d → (peers : List Peer) (events : List Event) → Each IsShortEvent events →
    (replies : List Reply) → Each (Fits d) replies → (tally : Tally) (last : World) → IsRun d peers events replies tally last →
    IsShortWorld last
