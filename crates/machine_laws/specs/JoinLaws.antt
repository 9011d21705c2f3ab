-- Laws that join the parts of a run.
use Rattle.std.specs.Prelude.{List, [], ◌∷◌, ◌++◌}
use Rattle.ui_machine.specs.Definition.{Definition}
use Rattle.ui_machine.specs.State.Peers.{Peer, Reply}
use Rattle.ui_machine.specs.State.Tasks.{Event}
use Rattle.ui_machine.specs.State.Config.{World}
use Rattle.ui_machine.specs.Runs.{Tally, tallied, Carries, Serves, IsRun, of_build}

-- the build alone is a run without events
abbrev pub BuildIsRun : Type 0
BuildIsRun =
    (d : Definition) (peers : List Peer) (replies : List Reply) (tally : Tally) (w : World) →
    Carries d (of_build d peers) replies tally w → IsRun d peers [] replies tally w

-- a run and then one more event are a run of these events: what a session does call by call is one run
abbrev pub RunsGoOn : Type 0
RunsGoOn =
    (d : Definition) (peers : List Peer) (events : List Event) (replies : List Reply) (tally : Tally) (w : World) →
    IsRun d peers events replies tally w → (event : Event) (later : List Reply) (more : Tally) (new : World) →
    Serves d event later w more new → IsRun d peers (events ++ event ∷ []) (replies ++ later) (tallied tally more) new
