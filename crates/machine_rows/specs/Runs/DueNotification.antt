-- A due notification holds its object.
use Rattle.std.specs.Prelude.{◌≡◌, ℕ, pos, false, List, [], ◌∷◌, codes, None, Ok}
use Rattle.ui_machine.specs.Definition.Kinds as kinds
use Rattle.ui_machine.specs.Definition.Values as values
use Rattle.ui_machine.specs.Definition.Types.{plain_class}
use Rattle.ui_machine.specs.Definition.{Definition}
use Rattle.ui_machine.specs.Definition.Places.{value, named}
use Rattle.ui_machine.specs.State.Tasks.{Event}
use Rattle.ui_machine.specs.State.Peers.{Peer}
use Rattle.ui_machine.specs.State.Tasks as config
use Rattle.machine_rows.specs.Play.{Scripted, shown}
use Rattle.ui_machine.specs.Words.{class_type, property, notify, class_with, object, bind}

abbrev pub definition : Definition
definition = record {
  types =
      plain_class (codes "GObject") None []
      ∷ class_type (codes "GInitiallyUnowned") 0 false false []
      ∷ class_type (codes "Link") 0 false false []
      ∷ [];
  classes =
      class_with [] (notify ∷ []) [] None None
      ∷ class_with [] (notify ∷ []) [] None None
      ∷ class_with (property (codes "to") (kinds.object 2) 3 (values.object None) (pos 0) (pos 0) false ∷ []) (notify ∷ []) [] None None
      ∷ [];
  shapes =
      [];
  programs =
      [];
  places =
      object (codes "a") 2 None [] [] []
      ∷ object (codes "t") 2 None [] [] []
      ∷ [];
  bindings =
      bind None 0 0 1 0 0 0
      ∷ [];
  most_objects = 64;
  most_handlers = 0;
}

abbrev pub peers : List Peer
peers =
    []

abbrev pub events : List Event
events =
    config.request (config.set 0 0 (named 1))
    ∷ config.request (config.release 1)
    ∷ config.request (config.set 0 0 (value (values.object None)))
    ∷ []

abbrev pub replies : List Scripted
replies =
    []

abbrev pub lines : List (List ℕ)
lines =
    (codes "build")
    ∷ (codes "construct #1 Link")
    ∷ (codes "construct #2 Link")
    ∷ (codes "end 0")
    ∷ (codes "set #1.to #2")
    ∷ (codes "notify #1.to")
    ∷ (codes "set #2.to #2")
    ∷ (codes "notify #2.to")
    ∷ (codes "end 3")
    ∷ (codes "release t")
    ∷ (codes "end 0")
    ∷ (codes "set #1.to null")
    ∷ (codes "notify #1.to")
    ∷ (codes "set #2.to null")
    ∷ (codes "notify #2.to")
    ∷ (codes "dispose #2")
    ∷ (codes "final #2")
    ∷ (codes "end 4")
    ∷ []

-- the machine shows these lines
abbrev pub Holds : Type 0
Holds = shown definition peers events replies ≡ Ok lines
