-- Identities that are left.
use Rattle.std.specs.Prelude.{ℕ, ◌+◌, ◌≤◌, length, List}
use Rattle.ui_machine.specs.Definition.{Definition}
use Rattle.ui_machine.specs.Rules.Build.{to_make}
use Rattle.ui_machine.specs.Runs.{beginning, of_build, of_request}
use Rattle.ui_machine.specs.State.Config.{Config, World}
use Rattle.ui_machine.specs.State.Objects.{most_identities}
use Rattle.ui_machine.specs.State.Peers.{Peer}
use Rattle.ui_machine.specs.State.Tasks.{Due, Request}

-- what was made and what the build has still to make are no more than there are identities
abbrev pub HasIdentities : Config → Type 0
HasIdentities c = length c.world.objects + to_make c.agenda ≤ most_identities

-- a build begins so, where there are no more places than identities
abbrev pub BuildsHaveIdentities : Type 0
BuildsHaveIdentities = (d : Definition) (peers : List Peer) → length d.places ≤ most_identities → HasIdentities (of_build d peers)

-- so do a request and a source of a world in which no more objects were made than there are identities
abbrev pub RequestsHaveIdentities : Type 0
RequestsHaveIdentities = (d : Definition) (w : World) (r : Request) → length w.objects ≤ most_identities → HasIdentities (of_request w r)

abbrev pub SourcesHaveIdentities : Type 0
SourcesHaveIdentities = (w : World) (number : ℕ) → length w.objects ≤ most_identities → HasIdentities (beginning w (Due number))
