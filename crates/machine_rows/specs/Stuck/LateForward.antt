-- A forward reference would set a construct-only property.
use Rattle.std.specs.Prelude.{◌≡◌, pos, false, List, [], ◌∷◌, codes, None, Err}
use Rattle.ui_machine.specs.declared.arm.Arm.TheVariants as arms
use Rattle.ui_machine.specs.Definition.Kinds as kinds
use Rattle.ui_machine.specs.Definition.Values as values
use Rattle.ui_machine.specs.Definition.Types.{plain_class}
use Rattle.ui_machine.specs.Definition.{Definition}
use Rattle.ui_machine.specs.Definition.Places.{named}
use Rattle.ui_machine.specs.State.Tasks.{Event}
use Rattle.ui_machine.specs.State.Peers.{Peer}
use Rattle.machine_rows.specs.Play.{Scripted, shown}
use Rattle.ui_machine.specs.Words.{class_type, property, signal, notify, class_with, gives, object}

abbrev pub definition : Definition
definition = record {
  types =
      plain_class (codes "GObject") None []
      ∷ class_type (codes "GInitiallyUnowned") 0 false false []
      ∷ class_type (codes "Box") 0 false false []
      ∷ [];
  classes =
      class_with [] (notify ∷ []) [] None None
      ∷ class_with [] (notify ∷ []) [] None None
      ∷ class_with (property (codes "o") (kinds.object 2) 11 (values.object None) (pos 0) (pos 0) false ∷ []) (notify
      ∷ signal (codes "go") [] None 2 None ∷ []) [] None None
      ∷ [];
  shapes =
      [];
  programs =
      [];
  places =
      object (codes "b") 2 None (gives 0 (named 1) ∷ []) [] []
      ∷ object (codes "c") 2 None [] [] []
      ∷ [];
  bindings =
      [];
  most_objects = 64;
  most_handlers = 4;
}

abbrev pub peers : List Peer
peers =
    []

abbrev pub events : List Event
events =
    []

abbrev pub replies : List Scripted
replies =
    []

-- the machine is stuck
abbrev pub Holds : Type 0
Holds = shown definition peers events replies ≡ Err arms.ConstructOnly
