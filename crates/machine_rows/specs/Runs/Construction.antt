-- Construct properties, inherited first, before the others.
use Rattle.std.specs.Prelude.{◌≡◌, ℕ, pos, negsuc, false, List, [], ◌∷◌, codes, None, Ok}
use Rattle.ui_machine.specs.Definition.Kinds as kinds
use Rattle.ui_machine.specs.Definition.Values as values
use Rattle.ui_machine.specs.Definition.Types.{plain_class}
use Rattle.ui_machine.specs.Definition.{Definition}
use Rattle.ui_machine.specs.Definition.Places.{value}
use Rattle.ui_machine.specs.State.Tasks.{Event}
use Rattle.ui_machine.specs.State.Peers.{Peer}
use Rattle.machine_rows.specs.Play.{Scripted, shown}
use Rattle.ui_machine.specs.Words.{class_type, property, notify, class_with, gives, object}

abbrev pub definition : Definition
definition = record {
  types =
      plain_class (codes "GObject") None []
      ∷ class_type (codes "GInitiallyUnowned") 0 false false []
      ∷ class_type (codes "Base") 0 false false []
      ∷ class_type (codes "Derived") 2 false false []
      ∷ [];
  classes =
      class_with [] (notify ∷ []) [] None None
      ∷ class_with [] (notify ∷ []) [] None None
      ∷ class_with (property (codes "x") (kinds.whole kinds.int) 7 (values.whole kinds.int (pos 3)) (negsuc 2147483647)
      (pos 2147483647) false ∷ []) (notify ∷ []) [] None None
      ∷ class_with (property (codes "x") (kinds.whole kinds.int) 7 (values.whole kinds.int (pos 3)) (negsuc 2147483647)
      (pos 2147483647) false
      ∷ property (codes "y") (kinds.whole kinds.int) 7 (values.whole kinds.int (pos 4)) (negsuc 2147483647) (pos 2147483647) false
      ∷ property (codes "z") (kinds.whole kinds.int) 3 (values.whole kinds.int (pos 0)) (negsuc 2147483647)
      (pos 2147483647) false ∷ []) (notify ∷ []) [] None None
      ∷ [];
  shapes =
      [];
  programs =
      [];
  places =
      object (codes "o") 3 None (gives 2 (value (values.whole kinds.int (pos 1)))
      ∷ gives 1 (value (values.whole kinds.int (pos 9))) ∷ []) [] []
      ∷ [];
  bindings =
      [];
  most_objects = 64;
  most_handlers = 0;
}

abbrev pub peers : List Peer
peers =
    []

abbrev pub events : List Event
events =
    []

abbrev pub replies : List Scripted
replies =
    []

abbrev pub lines : List (List ℕ)
lines =
    (codes "build")
    ∷ (codes "construct #1 Derived")
    ∷ (codes "set #1.x 3")
    ∷ (codes "set #1.y 9")
    ∷ (codes "set #1.z 1")
    ∷ (codes "notify #1.z")
    ∷ (codes "notify #1.y")
    ∷ (codes "notify #1.x")
    ∷ (codes "end 3")
    ∷ []

-- the machine shows these lines
abbrev pub Holds : Type 0
Holds = shown definition peers events replies ≡ Ok lines
