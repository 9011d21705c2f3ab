-- Numbers that are left for handlers.
use Rattle.std.specs.Prelude.{ℕ, ◌+◌, ◌≤◌, length, List}
use Rattle.ui_machine.specs.Definition.{Definition}
use Rattle.ui_machine.specs.Definition.Places.{Place}
use Rattle.ui_machine.specs.Rules.Build.{to_connect}
use Rattle.ui_machine.specs.Rules.Connections.{greatest_handler}
use Rattle.ui_machine.specs.Runs.{Reaches, beginning, of_build, of_request}
use Rattle.ui_machine.specs.Seq.{total}
use Rattle.ui_machine.specs.State.Config.{Config, World}
use Rattle.ui_machine.specs.State.Peers.{Peer, Reply}
use Rattle.ui_machine.specs.State.Tasks.{Due, Request}

-- the last number that was given and what the build has still to connect are no more than the greatest number
abbrev pub HasHandlerNumbers : Config → Type 0
HasHandlerNumbers c = c.world.last_handler + to_connect c.agenda ≤ greatest_handler

-- a build begins so, where the places have no more signals than there are numbers
abbrev pub BuildsHaveHandlerNumbers : Type 0
BuildsHaveHandlerNumbers =
    (d : Definition) (peers : List Peer) → total (λ (p : Place). length p.signals) d.places ≤ greatest_handler → HasHandlerNumbers (of_build d peers)

-- so do a request and a source of a world in which no greater number was given
abbrev pub RequestsHaveHandlerNumbers : Type 0
RequestsHaveHandlerNumbers = (d : Definition) (w : World) (r : Request) → w.last_handler ≤ greatest_handler → HasHandlerNumbers (of_request w r)

abbrev pub SourcesHaveHandlerNumbers : Type 0
SourcesHaveHandlerNumbers = (w : World) (number : ℕ) → w.last_handler ≤ greatest_handler → HasHandlerNumbers (beginning w (Due number))

-- and that stays, whatever peers reply
abbrev pub HandlerNumbersLast : Type 0
HandlerNumbersLast = (d : Definition) (replies : List Reply) (c e : Config) → Reaches d replies c e → HasHandlerNumbers c → HasHandlerNumbers e
