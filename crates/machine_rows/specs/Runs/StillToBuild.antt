-- What is still to be built counts against the limit of objects.
use Rattle.std.specs.Prelude.{◌≡◌, ℕ, false, List, [], ◌∷◌, codes, None, Some, Ok}
use Rattle.ui_machine.specs.Definition.Kinds as kinds
use Rattle.ui_machine.specs.Definition.Types.{plain_class}
use Rattle.ui_machine.specs.Definition.{Definition}
use Rattle.ui_machine.specs.Definition.Programs as words
use Rattle.ui_machine.specs.State.Tasks.{Event}
use Rattle.ui_machine.specs.State.Peers.{Peer}
use Rattle.machine_rows.specs.Play.{Scripted, shown}
use Rattle.ui_machine.specs.Words.{class_type, notify, class_with, block, program, object, prototype}

abbrev pub definition : Definition
definition = record {
  types =
      plain_class (codes "GObject") None []
      ∷ class_type (codes "GInitiallyUnowned") 0 false false []
      ∷ class_type (codes "Box") 0 false false []
      ∷ [];
  classes =
      class_with [] (notify ∷ []) [] None None
      ∷ class_with [] (notify ∷ []) [] None None
      ∷ class_with [] (notify ∷ []) [] (Some 0) None
      ∷ [];
  shapes =
      [];
  programs =
      program (codes "f") ((kinds.some 2) ∷ []) 3 None
      (block ((kinds.some 2) ∷ kinds.unset ∷ kinds.unset ∷ []) None (words.new 1 (codes "it") ∷ words.new 2 (codes "it")
      ∷ words.return None ∷ [])
      ∷ [])
      ∷ [];
  places =
      object (codes "a") 2 None [] [] []
      ∷ object (codes "b") 2 None [] [] []
      ∷ prototype (codes "it") 0 [] []
      ∷ [];
  bindings =
      [];
  most_objects = 3;
  most_handlers = 0;
}

abbrev pub peers : List Peer
peers =
    []

abbrev pub events : List Event
events =
    []

abbrev pub replies : List Scripted
replies =
    []

abbrev pub lines : List (List ℕ)
lines =
    (codes "build")
    ∷ (codes "construct #1 Box")
    ∷ (codes "run f")
    ∷ (codes "construct #2 GObject")
    ∷ (codes "limit new")
    ∷ (codes "dispose #2")
    ∷ (codes "final #2")
    ∷ (codes "construct #3 Box")
    ∷ (codes "run f")
    ∷ (codes "construct #4 GObject")
    ∷ (codes "limit new")
    ∷ (codes "dispose #4")
    ∷ (codes "final #4")
    ∷ (codes "end 8")
    ∷ []

-- the machine shows these lines
abbrev pub Holds : Type 0
Holds = shown definition peers events replies ≡ Ok lines
