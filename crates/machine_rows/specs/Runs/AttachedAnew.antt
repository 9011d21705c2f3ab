-- A source that removes itself and attaches its program anew.
use Rattle.std.specs.Prelude.{◌≡◌, ℕ, pos, false, List, [], ◌∷◌, codes, None, Some, Ok}
use Rattle.ui_machine.specs.Definition.Kinds as kinds
use Rattle.ui_machine.specs.Definition.Values as values
use Rattle.ui_machine.specs.Definition.Types.{plain_class}
use Rattle.ui_machine.specs.Definition.{Definition}
use Rattle.ui_machine.specs.Definition.Programs as words
use Rattle.ui_machine.specs.State.Tasks.{Event}
use Rattle.ui_machine.specs.State.Peers.{Peer}
use Rattle.ui_machine.specs.State.Tasks as config
use Rattle.machine_rows.specs.Play.{Scripted, shown}
use Rattle.ui_machine.specs.Words.{class_type, signal, notify, class_with, block, program, attached, object}

abbrev pub definition : Definition
definition = record {
  types =
      plain_class (codes "GObject") None []
      ∷ class_type (codes "GInitiallyUnowned") 0 false false []
      ∷ class_type (codes "Box") 0 false false []
      ∷ [];
  classes =
      class_with [] (notify ∷ []) [] None None
      ∷ class_with [] (notify ∷ []) [] None None
      ∷ class_with [] (notify ∷ signal (codes "go") [] None 2 None ∷ []) [] None None
      ∷ [];
  shapes =
      [];
  programs =
      program (codes "p") [] 2 (Some kinds.bool)
      (block (kinds.unset ∷ kinds.unset ∷ []) None (words.remove (codes "p") ∷ words.idle 0 (codes "p") (pos 0) None
      ∷ words.const 1 kinds.bool (values.bool false) ∷ words.return (Some 1) ∷ [])
      ∷ [])
      ∷ program (codes "f") ((kinds.some 2) ∷ []) 2 None
      (block ((kinds.some 2) ∷ kinds.unset ∷ []) None (words.idle 1 (codes "p") (pos 0) None ∷ words.return None ∷ [])
      ∷ [])
      ∷ [];
  places =
      object (codes "b") 2 None [] [] (attached (codes "go") None 1 false false None ∷ [])
      ∷ [];
  bindings =
      [];
  most_objects = 64;
  most_handlers = 0;
}

abbrev pub peers : List Peer
peers =
    []

abbrev pub events : List Event
events =
    config.request (config.emit 0 1 [] None)
    ∷ config.turn 0
    ∷ config.turn 0
    ∷ []

abbrev pub replies : List Scripted
replies =
    []

abbrev pub lines : List (List ℕ)
lines =
    (codes "build")
    ∷ (codes "construct #1 Box")
    ∷ (codes "end 0")
    ∷ (codes "emit #1.go()")
    ∷ (codes "run f")
    ∷ (codes "end 3")
    ∷ (codes "turn 0")
    ∷ (codes "run p")
    ∷ (codes "end 4")
    ∷ (codes "turn 0")
    ∷ (codes "run p")
    ∷ (codes "end 4")
    ∷ []

-- the machine shows these lines
abbrev pub Holds : Type 0
Holds = shown definition peers events replies ≡ Ok lines
