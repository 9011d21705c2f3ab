-- Two properties that are bound both ways, inverted.
use Rattle.std.specs.Prelude.{◌≡◌, ℕ, pos, true, false, List, [], ◌∷◌, codes, None, Ok}
use Rattle.ui_machine.specs.Definition.Kinds as kinds
use Rattle.ui_machine.specs.Definition.Values as values
use Rattle.ui_machine.specs.Definition.Types.{plain_class}
use Rattle.ui_machine.specs.Definition.{Definition}
use Rattle.ui_machine.specs.Definition.Places.{value}
use Rattle.ui_machine.specs.State.Tasks.{Event}
use Rattle.ui_machine.specs.State.Peers.{Peer}
use Rattle.ui_machine.specs.State.Tasks as config
use Rattle.machine_rows.specs.Play.{Scripted, shown}
use Rattle.ui_machine.specs.Words.{class_type, property, notify, class_with, object, bind}

abbrev pub definition : Definition
definition = record {
  types =
      plain_class (codes "GObject") None []
      ∷ class_type (codes "GInitiallyUnowned") 0 false false []
      ∷ class_type (codes "Switch") 0 false false []
      ∷ [];
  classes =
      class_with [] (notify ∷ []) [] None None
      ∷ class_with [] (notify ∷ []) [] None None
      ∷ class_with (property (codes "on") kinds.bool 3 (values.bool false) (pos 0) (pos 0) false ∷ []) (notify ∷ []) [] None None
      ∷ [];
  shapes =
      [];
  programs =
      [];
  places =
      object (codes "a") 2 None [] [] []
      ∷ object (codes "b") 2 None [] [] []
      ∷ [];
  bindings =
      bind None 0 0 1 0 7 0
      ∷ [];
  most_objects = 64;
  most_handlers = 0;
}

abbrev pub peers : List Peer
peers =
    []

abbrev pub events : List Event
events =
    config.request (config.set 0 0 (value (values.bool true)))
    ∷ config.request (config.set 1 0 (value (values.bool true)))
    ∷ []

abbrev pub replies : List Scripted
replies =
    []

abbrev pub lines : List (List ℕ)
lines =
    (codes "build")
    ∷ (codes "construct #1 Switch")
    ∷ (codes "construct #2 Switch")
    ∷ (codes "set #2.on TRUE")
    ∷ (codes "notify #2.on")
    ∷ (codes "end 2")
    ∷ (codes "set #1.on TRUE")
    ∷ (codes "notify #1.on")
    ∷ (codes "set #2.on FALSE")
    ∷ (codes "notify #2.on")
    ∷ (codes "end 3")
    ∷ (codes "set #2.on TRUE")
    ∷ (codes "notify #2.on")
    ∷ (codes "set #1.on FALSE")
    ∷ (codes "notify #1.on")
    ∷ (codes "end 3")
    ∷ []

-- the machine shows these lines
abbrev pub Holds : Type 0
Holds = shown definition peers events replies ≡ Ok lines
