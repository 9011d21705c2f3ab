-- The run of the machine that the lines of an event file come to.
use Rattle.std.specs.Prelude.{◌≡◌, ◌⊎◌, ℕ, ◌+◌, List, [], ◌∷◌, ◌++◌, Result, Ok, Err}
use Rattle.ui_machine.specs.Definition.{Definition}
use Rattle.ui_machine.specs.State.Tasks.{Event}
use Rattle.ui_machine.specs.State.Config.{World}
use Rattle.ui_machine.specs.State.Peers.{Peer, Reply}
use Rattle.ui_machine.specs.Runs.{Tally, IsRun}
use Rattle.machine_laws.specs.FrontLaws.{fronted}
use Rattle.law_typing.specs.Verdict.Accepted.{Accepted, Each}
use Rattle.law_steps.specs.Served.Dispatches.{Keeps}
use Rattle.law_steps.specs.Served.Sessions.{Dispatch, beginning_of, entry_to}
use Rattle.builder_defs.specs.EventMeaning.{EventRefusal, event_denoted}
use Rattle.native_peers.specs.Seen.{Relations}
use Rattle.engine_dispatches.specs.PoolView.{GivenBy, Replied}
use Rattle.engine_dispatches.specs.Ways.{CutOff}
use Rattle.ui_engine.specs.SessionView.{SessionState}
use Rattle.event_lines.specs.EventFileRun as file_run
use Rattle.event_lines.specs.EventFileRun.{Outcome, said, refused, cut_off, stopped, LineSort, too_many, too_long, skipped, sort_of_line}

-- the event of a line that is the session's to serve
abbrev pub event_of_line : LineSort → Result Event EventRefusal → List Event
event_of_line too_many denoted = []
event_of_line too_long denoted = []
event_of_line skipped denoted = []
event_of_line file_run.event (Ok event) = event ∷ []
event_of_line file_run.event (Err refusal) = []

-- the event that a line came to, where it was served to its end, or refused by the machine
abbrev pub event_served : Definition → ℕ → List ℕ → Outcome → List Event
event_served d n line (said lines) = event_of_line (sort_of_line n line) (event_denoted d line)
event_served d n line (refused r) = event_of_line (sort_of_line n line) (event_denoted d line)
event_served d n line (cut_off r) = []
event_served d n line (stopped lines) = []

-- the events that the first of these lines came to, the first of all numbered n
abbrev pub events_served : Definition → ℕ → List (List ℕ) → List Outcome → List Event
events_served d n lines [] = []
events_served d n [] (outcome ∷ outcomes) = []
events_served d n (line ∷ lines) (outcome ∷ outcomes) = event_served d n line outcome ++ events_served d (n + 1) lines outcomes

-- the lines that were said of a line of the file
abbrev pub said_of : Outcome → List (List ℕ)
said_of (said lines) = lines
said_of (refused r) = []
said_of (cut_off r) = []
said_of (stopped lines) = lines

-- all of them, in order
abbrev pub said_in : List Outcome → List (List ℕ)
said_in [] = []
said_in (outcome ∷ outcomes) = said_of outcome ++ said_in outcomes

-- in one more event no memory is found, and the peers are as their replies left them, of which the last may have no line, each whose it was in
-- the machine
pub record BreaksOffNext (d : Definition) (may : Relations) (w new : World) : Type 0 where
  pub event : Event
  pub breaks_off : Replied may (λ replies. CutOff d may event replies w new.peers new.transcript)

-- The build of a session with these peers and the events that were served are a run of the machine, in which each peer replies as it may;
-- where the session stopped in an event, that one broke off after it. The definition is accepted, and no dispatch of the run is ever stuck:
-- each keeps what is promised of it, its bound among that. The session has forgotten the lines in front of its own: with them its lines are
-- all that were said.
pub record RunsOver (may : Relations) (s : SessionState) (peers : List Peer) (lines : List (List ℕ)) (outcomes : List Outcome) (new : SessionState) : Type 0 where
  pub replies : List Reply
  pub given : Each (GivenBy may) replies
  pub tally : Tally
  pub last : World
  pub run : IsRun s.definition peers (events_served s.definition 1 lines outcomes) replies tally last
  pub accepted : Accepted s.definition
  pub keeps : (x : Dispatch s.definition peers (events_served s.definition 1 lines outcomes)) → Keeps s.definition accepted (entry_to x) (beginning_of x)
  pub front : List (List ℕ)
  pub after : (last ≡ fronted front new.world) ⊎ BreaksOffNext s.definition may last (fronted front new.world)
  pub shows : front ++ new.world.transcript ≡ s.world.transcript ++ said_in outcomes
