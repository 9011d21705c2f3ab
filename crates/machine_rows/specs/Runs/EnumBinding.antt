-- A binding from a number to an enum, which may fail.
use Rattle.std.specs.Prelude.{◌≡◌, ℕ, pos, negsuc, false, List, [], ◌∷◌, codes, None, Ok}
use Rattle.ui_machine.specs.Definition.Kinds as kinds
use Rattle.ui_machine.specs.Definition.Values as values
use Rattle.ui_machine.specs.Definition.Types.{plain_class}
use Rattle.ui_machine.specs.Definition.{Definition}
use Rattle.ui_machine.specs.Definition.Places.{value}
use Rattle.ui_machine.specs.State.Tasks.{Event}
use Rattle.ui_machine.specs.State.Peers.{Peer}
use Rattle.ui_machine.specs.State.Tasks as config
use Rattle.machine_rows.specs.Play.{Scripted, shown}
use Rattle.ui_machine.specs.Words.{member, enum_type, class_type, property, notify, class_with, bare, object, bind}

abbrev pub definition : Definition
definition = record {
  types =
      plain_class (codes "GObject") None []
      ∷ class_type (codes "GInitiallyUnowned") 0 false false []
      ∷ enum_type (codes "Mode") (member (codes "OFF") (codes "off") (pos 0) ∷ member (codes "ON") (codes "on") (pos 1) ∷ [])
      ∷ class_type (codes "Box") 0 false false []
      ∷ [];
  classes =
      class_with [] (notify ∷ []) [] None None
      ∷ class_with [] (notify ∷ []) [] None None
      ∷ bare
      ∷ class_with (property (codes "n") (kinds.whole kinds.int) 3 (values.whole kinds.int (pos 0)) (negsuc 2147483647)
      (pos 2147483647) false ∷ property (codes "e") (kinds.enum 2) 3 (values.enum 2 (pos 0)) (pos 0) (pos 0) false ∷ [])
      (notify ∷ []) [] None None
      ∷ [];
  shapes =
      [];
  programs =
      [];
  places =
      object (codes "a") 3 None [] [] []
      ∷ object (codes "b") 3 None [] [] []
      ∷ [];
  bindings =
      bind None 0 0 1 1 0 0
      ∷ [];
  most_objects = 64;
  most_handlers = 0;
}

abbrev pub peers : List Peer
peers =
    []

abbrev pub events : List Event
events =
    config.request (config.set 0 0 (value (values.whole kinds.int (pos 5))))
    ∷ config.request (config.set 0 0 (value (values.whole kinds.int (pos 1))))
    ∷ []

abbrev pub replies : List Scripted
replies =
    []

abbrev pub lines : List (List ℕ)
lines =
    (codes "build")
    ∷ (codes "construct #1 Box")
    ∷ (codes "construct #2 Box")
    ∷ (codes "end 0")
    ∷ (codes "set #1.n 5")
    ∷ (codes "notify #1.n")
    ∷ (codes "end 2")
    ∷ (codes "set #1.n 1")
    ∷ (codes "notify #1.n")
    ∷ (codes "set #2.e on")
    ∷ (codes "notify #2.e")
    ∷ (codes "end 3")
    ∷ []

-- the machine shows these lines
abbrev pub Holds : Type 0
Holds = shown definition peers events replies ≡ Ok lines
