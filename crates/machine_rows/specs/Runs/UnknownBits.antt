-- Flags with unknown bits.
use Rattle.std.specs.Prelude.{◌≡◌, ℕ, pos, false, List, [], ◌∷◌, codes, None, Ok}
use Rattle.ui_machine.specs.Definition.Kinds as kinds
use Rattle.ui_machine.specs.Definition.Values as values
use Rattle.ui_machine.specs.Definition.Types.{plain_class}
use Rattle.ui_machine.specs.Definition.{Definition}
use Rattle.ui_machine.specs.Definition.Places.{value}
use Rattle.ui_machine.specs.State.Tasks.{Event}
use Rattle.ui_machine.specs.State.Peers.{Peer}
use Rattle.ui_machine.specs.State.Tasks as config
use Rattle.machine_rows.specs.Play.{Scripted, shown}
use Rattle.ui_machine.specs.Words.{member, flags_type, class_type, property, signal, notify, class_with, bare, object}

abbrev pub definition : Definition
definition = record {
  types =
      plain_class (codes "GObject") None []
      ∷ class_type (codes "GInitiallyUnowned") 0 false false []
      ∷ flags_type (codes "Bits") (member (codes "A") (codes "a") (pos 1) ∷ member (codes "B") (codes "b") (pos 2) ∷ [])
      ∷ class_type (codes "Box") 0 false false []
      ∷ [];
  classes =
      class_with [] (notify ∷ []) [] None None
      ∷ class_with [] (notify ∷ []) [] None None
      ∷ bare
      ∷ class_with (property (codes "f") (kinds.flags 2) 3 (values.flags 2 0) (pos 0) (pos 0) false
      ∷ property (codes "g") (kinds.flags 2) 19 (values.flags 2 0) (pos 0) (pos 0) false ∷ []) (notify
      ∷ signal (codes "s") ((kinds.flags 2) ∷ []) None 2 None ∷ []) [] None None
      ∷ [];
  shapes =
      [];
  programs =
      [];
  places =
      object (codes "b") 3 None [] [] []
      ∷ [];
  bindings =
      [];
  most_objects = 64;
  most_handlers = 0;
}

abbrev pub peers : List Peer
peers =
    []

abbrev pub events : List Event
events =
    config.request (config.set 0 0 (value (values.flags 2 5)))
    ∷ config.request (config.set 0 1 (value (values.flags 2 5)))
    ∷ config.request (config.set 0 0 (value (values.flags 2 3)))
    ∷ config.request (config.emit 0 1 ((value (values.flags 2 5)) ∷ []) None)
    ∷ []

abbrev pub replies : List Scripted
replies =
    []

abbrev pub lines : List (List ℕ)
lines =
    (codes "build")
    ∷ (codes "construct #1 Box")
    ∷ (codes "end 0")
    ∷ (codes "refused #1.f 5")
    ∷ (codes "end 0")
    ∷ (codes "set #1.g 1")
    ∷ (codes "notify #1.g")
    ∷ (codes "end 1")
    ∷ (codes "set #1.f 3")
    ∷ (codes "notify #1.f")
    ∷ (codes "end 1")
    ∷ (codes "emit #1.s(5)")
    ∷ (codes "end 1")
    ∷ []

-- the machine shows these lines
abbrev pub Holds : Type 0
Holds = shown definition peers events replies ≡ Ok lines
