-- The children and the parents of objects were made.
use Rattle.std.specs.List.{AllByRecursion}
use Rattle.std.specs.Option.{IfSome}
use Rattle.std.specs.Prelude.{◌≡◌, List, Some, length, ℕ, ◌≤◌}
use Rattle.ui_machine.specs.Definition.{Definition}
use Rattle.ui_machine.specs.Runs.{Reaches, of_build}
use Rattle.ui_machine.specs.State.Config.{Config, World}
use Rattle.ui_machine.specs.State.Objects.{Object, living}
use Rattle.ui_machine.specs.State.Peers.{Peer, Reply}
use Rattle.law_runs.specs.Identities.{HasIdentities}

-- an object's children and its parent are among the first so many identities
pub record KinMade (made : ℕ) (o : Object) : Type 0 where
  pub children : AllByRecursion (λ child. child ≤ made) o.children
  pub parent : IfSome o.parent (λ above. above ≤ made)

-- so it is of each object that lives, by what was made
abbrev pub HasKinMade : World → Type 0
HasKinMade w = (id : ℕ) (o : Object) → living w.objects id ≡ Some o → KinMade (length w.objects) o

-- that stays, whatever peers reply
abbrev pub KinLast : Type 0
KinLast = (d : Definition) (replies : List Reply) (c e : Config) → Reaches d replies c e → HasKinMade c.world → HasKinMade e.world

-- a build begins so
abbrev pub BuildsHaveKinMade : Type 0
BuildsHaveKinMade = (d : Definition) (peers : List Peer) → HasKinMade (of_build d peers).world

-- and where it is so, identities are left for all that is still to be made, whatever peers reply
abbrev pub IdentitiesLastWithKin : Type 0
IdentitiesLastWithKin =
    (d : Definition) (replies : List Reply) (c e : Config) → Reaches d replies c e → HasKinMade c.world → HasIdentities c → HasIdentities e
