-- A source holds its data until it is removed.
use Rattle.std.specs.Prelude.{◌≡◌, ℕ, pos, false, List, [], ◌∷◌, codes, None, Some, Ok}
use Rattle.ui_machine.specs.Definition.Kinds as kinds
use Rattle.ui_machine.specs.Definition.Values as values
use Rattle.ui_machine.specs.Definition.Types.{plain_class}
use Rattle.ui_machine.specs.Definition.{Definition}
use Rattle.ui_machine.specs.Definition.Programs as words
use Rattle.ui_machine.specs.State.Tasks.{Event}
use Rattle.ui_machine.specs.State.Peers.{Peer}
use Rattle.ui_machine.specs.State.Tasks as config
use Rattle.machine_rows.specs.Play.{Scripted, shown}
use Rattle.ui_machine.specs.Words.{class_type, signal, notify, class_with, block, program, attached, object, prototype}

abbrev pub definition : Definition
definition = record {
  types =
      plain_class (codes "GObject") None []
      ∷ class_type (codes "GInitiallyUnowned") 0 false false []
      ∷ class_type (codes "Box") 0 false false []
      ∷ [];
  classes =
      class_with [] (notify ∷ []) [] None None
      ∷ class_with [] (notify ∷ []) [] None None
      ∷ class_with [] (notify ∷ signal (codes "go") [] None 2 None ∷ []) [] None None
      ∷ [];
  shapes =
      [];
  programs =
      program (codes "f") ((kinds.some 2) ∷ []) 3 None
      (block ((kinds.some 2) ∷ kinds.unset ∷ kinds.unset ∷ []) None (words.new 1 (codes "it") ∷ words.branch_null 1 1 2 ∷ [])
      ∷ block (kinds.unset ∷ kinds.unset ∷ kinds.unset ∷ []) None (words.return None ∷ [])
      ∷ block ((kinds.some 2) ∷ (kinds.at 1) ∷ kinds.unset ∷ []) None (words.idle 2 (codes "rest") (pos 0) (Some 1) ∷ words.return None ∷ [])
      ∷ [])
      ∷ program (codes "rest") ((kinds.some 0) ∷ []) 2 (Some kinds.bool)
      (block ((kinds.some 0) ∷ kinds.unset ∷ []) None (words.const 1 kinds.bool (values.bool false) ∷ words.return (Some 1) ∷ [])
      ∷ [])
      ∷ [];
  places =
      object (codes "b") 2 None [] [] (attached (codes "go") None 0 false false None ∷ [])
      ∷ prototype (codes "it") 0 [] []
      ∷ [];
  bindings =
      [];
  most_objects = 64;
  most_handlers = 0;
}

abbrev pub peers : List Peer
peers =
    []

abbrev pub events : List Event
events =
    config.request (config.emit 0 1 [] None)
    ∷ config.turn 5
    ∷ []

abbrev pub replies : List Scripted
replies =
    []

abbrev pub lines : List (List ℕ)
lines =
    (codes "build")
    ∷ (codes "construct #1 Box")
    ∷ (codes "end 0")
    ∷ (codes "emit #1.go()")
    ∷ (codes "run f")
    ∷ (codes "construct #2 GObject")
    ∷ (codes "end 5")
    ∷ (codes "turn 5")
    ∷ (codes "run rest")
    ∷ (codes "dispose #2")
    ∷ (codes "final #2")
    ∷ (codes "end 3")
    ∷ []

-- the machine shows these lines
abbrev pub Holds : Type 0
Holds = shown definition peers events replies ≡ Ok lines
