-- A new object of a place: all that is good of the world stays so.
use Rattle.std.specs.Prelude.{◌≡◌, ℕ, ◌≤◌, List, Some}
use Rattle.ui_machine.specs.Seq.{total}
use Rattle.ui_machine.specs.Definition.{Definition}
use Rattle.ui_machine.specs.Definition.Places.{Place}
use Rattle.ui_machine.specs.Definition.Lookups.{place_at}
use Rattle.ui_machine.specs.State.Objects.{Object}
use Rattle.ui_machine.specs.State.Tasks.{Task}
use Rattle.ui_machine.specs.State.Config.{World}
use Rattle.ui_machine.specs.Rules.Build.{of_items}
use Rattle.ui_machine.specs.Rules.Construction.{new_object, with_object, lent}
use Rattle.law_typing.specs.Graph.{Raised, graph, place_of_channel}
use Rattle.law_typing.specs.Graph.Tables.{Tables}
use Rattle.law_typing.specs.Graph.Costs.{programs_cost}
use Rattle.law_typing.specs.Laws.{IsIn}
use Rattle.law_typing.specs.Laws.WellRead.{TypesRead}
use Rattle.law_typing.specs.Good.Objects.{PeerGood}
use Rattle.law_typing.specs.Good.Handlers.{connecting_cost}
use Rattle.law_steps.specs.Kept.New.{next_identity, TakesFree}
use Rattle.law_steps.specs.Kept.Write.{Whole}

-- the object that is made
pub record IsNew (d : Definition) (w : World) (place : ℕ) (p : Place) (o : Object) : Type 0 where
  pub at : place_at d place ≡ Some p
  pub is : o ≡ new_object d place p o.peer
  -- its peer was free, and is its own
  pub free : TakesFree w o
  pub peer : PeerGood d (lent o.peer (next_identity w) w.peers) (next_identity w) o

-- where what the build has still to connect at its place costs no more than is reckoned there
abbrev pub NewWholeGood : Type 0
NewWholeGood =
    (d : Definition) → TypesRead d → (costs depths : Tables) (agenda : List Task) (w : World) (place : ℕ) (p : Place) (o : Object) →
    IsNew d w place p o →
    ((r : Raised) → IsIn r (graph d).raised → place_of_channel r.channel ≡ place →
    total (of_items (connecting_cost d costs r.channel)) agenda ≤ programs_cost costs r.handlers) →
    Whole d costs depths agenda w →
    Whole d costs depths agenda (with_object d w o)
