-- A new object: each other one keeps its place, and what was good stays good.
use Rattle.std.specs.Prelude.{◌≡◌, ◌⊎◌, ℕ, suc, ◌≤◌, List, length, None, Some, slice_get}
use Rattle.ui_machine.specs.Seq.{total}
use Rattle.ui_machine.specs.Definition.{Definition}
use Rattle.ui_machine.specs.Definition.Values.{Value}
use Rattle.ui_machine.specs.Definition.Properties.{Spec}
use Rattle.ui_machine.specs.Definition.Places.{Place}
use Rattle.ui_machine.specs.Definition.Lookups.{place_at}
use Rattle.ui_machine.specs.State.Objects.{Object, live}
use Rattle.ui_machine.specs.State.Peers.{Peer}
use Rattle.ui_machine.specs.State.Tasks.{Task}
use Rattle.ui_machine.specs.State.Config.{World}
use Rattle.ui_machine.specs.State.References.{in_value}
use Rattle.ui_machine.specs.Rules.Build.{of_items}
use Rattle.ui_machine.specs.Rules.Construction.{new_object, with_object, lent}
use Rattle.law_typing.specs.Graph.{Raised, graph, place_of_channel}
use Rattle.law_typing.specs.Graph.Tables.{Tables}
use Rattle.law_typing.specs.Graph.Costs.{programs_cost}
use Rattle.law_typing.specs.Laws.{IsIn}
use Rattle.law_typing.specs.Laws.WellRead.{TypesRead}
use Rattle.law_typing.specs.Good.Standing.{Standing, standing, view}
use Rattle.law_typing.specs.Good.Objects.{ValueGood, PeerGood, ObjectsGood}
use Rattle.law_typing.specs.Good.Handlers.{HandlersGood, connecting_cost}
use Rattle.law_typing.specs.Good.Bindings.{BindingsGood}
use Rattle.law_steps.specs.Kept.Agenda.{Keeps, Stays, Serves}

-- the identity that a new object gets
abbrev pub next_identity : World → ℕ
next_identity w = suc (length w.objects)

-- who is at which place once an object was made: all that were there, and the new one at its place
pub record OneMoreStands (s z : Standing) (new place : ℕ) : Type 0 where
  pub stay : (id : ℕ) → Stays s z id
  pub none : s new ≡ None
  pub here : z new ≡ Some place
  pub others : (id at : ℕ) → z id ≡ Some at → (s id ≡ Some at) ⊎ ((id ≡ new) × (at ≡ place))

abbrev pub NewStands : Type 0
NewStands =
    (d : Definition) (w : World) (o : Object) →
    OneMoreStands (standing w.objects) (standing (with_object d w o).objects) (next_identity w) o.place
    × (live (with_object d w o).objects ≡ suc (live w.objects))

-- a valid value is valid wherever the object that it names keeps its place
abbrev pub ValuesStay : Type 0
ValuesStay =
    (d : Definition) (s z : Standing) (spec : Spec) (v : Value) → Keeps s z (λ o. in_value o v) → ValueGood d s spec (Some v) →
    ValueGood d z spec (Some v)

-- any agenda is served by the world with the new object
abbrev pub NewServes : Type 0
NewServes = (d : Definition) (w : World) (o : Object) (agenda : List Task) → Serves d agenda (view w) (view (with_object d w o))

-- a peer that a new object takes was no object's
abbrev pub TakesFree : World → Object → Type 0
TakesFree w o = (number : ℕ) (p : Peer) → o.peer ≡ Some number → slice_get w.peers number ≡ Some p → p.holder ≡ None

-- the new object of a place is good with the defaults of its class, and the others stay so
abbrev pub NewObjectsGood : Type 0
NewObjectsGood =
    (d : Definition) → TypesRead d → (w : World) (place : ℕ) (p : Place) (o : Object) → place_at d place ≡ Some p →
    o ≡ new_object d place p o.peer → TakesFree w o → PeerGood d (lent o.peer (next_identity w) w.peers) (next_identity w) o →
    ObjectsGood d w → ObjectsGood d (with_object d w o)

-- handlers stay good, where those that are still to be connected at the new object's place cost no more than is reckoned there
abbrev pub NewHandlersGood : Type 0
NewHandlersGood =
    (d : Definition) (costs depths : Tables) (s z : Standing) (new place last : ℕ) (w : World) (agenda : List Task) →
    OneMoreStands s z new place →
    ((r : Raised) → IsIn r (graph d).raised → place_of_channel r.channel ≡ place →
    total (of_items (connecting_cost d costs r.channel)) agenda ≤ programs_cost costs r.handlers) →
    HandlersGood d costs depths s agenda last w.handlers → HandlersGood d costs depths z agenda last w.handlers

-- bindings stay good
abbrev pub NewBindingsGood : Type 0
NewBindingsGood =
    (d : Definition) (w : World) (o : Object) (agenda : List Task) → BindingsGood d (standing w.objects) agenda w.bindings →
    BindingsGood d (standing (with_object d w o).objects) agenda w.bindings
