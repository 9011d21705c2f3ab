-- What is played is a run of the machine.
use Rattle.std.specs.Prelude.{◌≡◌, List, ◌++◌, map, Ok}
use Rattle.ui_machine.specs.Definition.{Definition}
use Rattle.ui_machine.specs.State.Peers.{Peer, Reply}
use Rattle.ui_machine.specs.State.Tasks.{Event}
use Rattle.ui_machine.specs.State.Config.{World}
use Rattle.ui_machine.specs.Runs.{Tally, IsRun}
use Rattle.machine_rows.specs.Play.{Scripted, Played, played}

-- a reply, as a script says it
abbrev pub script_of : Reply → Scripted
script_of r = record { answer = r.answer; values = r.state.values }

-- a run over these events, whose peers gave the replies of the script up to what is left of it
pub record IsScripted (d : Definition) (peers : List Peer) (events : List Event) (script : List Scripted) (p : Played World) : Type 0 where
  pub replies : List Reply
  pub tally : Tally
  pub given : map script_of replies ++ p.script ≡ script
  pub run : IsRun d peers events replies tally p.at

-- what is played with a script is a run in which the peers give the replies of the script
abbrev pub PlayedIsRun : Type 0
PlayedIsRun =
    (d : Definition) (peers : List Peer) (events : List Event) (script : List Scripted) (p : Played World) →
    played d peers events script ≡ Ok p → IsScripted d peers events script p
