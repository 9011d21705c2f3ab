-- A handler runs only at a channel that its signal and its detail can mean.
use Rattle.std.specs.Prelude.{◌≡◌, ℕ, true, List, Option, Some}
use Rattle.ui_machine.specs.Definition.{Definition}
use Rattle.ui_machine.specs.State.Handlers.{Handler}
use Rattle.ui_machine.specs.Rules.Connections.{signal_number, detail_for}
use Rattle.law_typing.specs.Rules.RegisterKinds.{class_at}
use Rattle.law_typing.specs.Graph.Channels.{Channel, is_channel}
use Rattle.law_typing.specs.Graph.{Raised, graph, place_of_channel, can_mean}
use Rattle.law_typing.specs.Laws.{IsIn}
use Rattle.law_typing.specs.Laws.WellRead.{TypesRead}
use Rattle.law_typing.specs.Good.Handlers.{runs_at}
use Rattle.law_static.specs.Raises.{raised_there}

-- the handler is of a signal's name and a detail, as the class of its object's place keeps them
abbrev pub HandlersMean : Type 0
HandlersMean =
    (d : Definition) → TypesRead d → (class : ℕ) (name : List ℕ) (detail : Option (List ℕ)) (h : Handler) (c : Channel) →
    signal_number d class name ≡ Some h.signal → h.detail ≡ detail_for h.signal detail → class_at d (place_of_channel c) ≡ Some class →
    is_channel d c ≡ true → runs_at d h c ≡ true → can_mean d class c name detail ≡ true

-- what the graph says of a channel is what runs there, and the channel is there
abbrev pub RaisedKnown : Type 0
RaisedKnown =
    (d : Definition) (r : Raised) → IsIn r (graph d).raised → (r ≡ raised_there d r.channel) × (is_channel d r.channel ≡ true)
