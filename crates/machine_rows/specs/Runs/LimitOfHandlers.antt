-- The limit of handlers counts those that are connected.
use Rattle.std.specs.Prelude.{◌≡◌, ℕ, pos, negsuc, false, List, [], ◌∷◌, codes, None, Some, Ok}
use Rattle.ui_machine.specs.Definition.Kinds as kinds
use Rattle.ui_machine.specs.Definition.Values as values
use Rattle.ui_machine.specs.Definition.Types.{plain_class}
use Rattle.ui_machine.specs.Definition.{Definition}
use Rattle.ui_machine.specs.Definition.Places.{value}
use Rattle.ui_machine.specs.Definition.Programs as words
use Rattle.ui_machine.specs.State.Tasks.{Event}
use Rattle.ui_machine.specs.State.Peers.{Peer}
use Rattle.ui_machine.specs.State.Tasks as config
use Rattle.machine_rows.specs.Play.{Scripted, shown}
use Rattle.ui_machine.specs.Words.{class_type, property, signal, notify, class_with, block, program, attached, object, connects}

abbrev pub definition : Definition
definition = record {
  types =
      plain_class (codes "GObject") None []
      ∷ class_type (codes "GInitiallyUnowned") 0 false false []
      ∷ class_type (codes "Box") 0 false false []
      ∷ [];
  classes =
      class_with [] (notify ∷ []) [] None None
      ∷ class_with [] (notify ∷ []) [] None None
      ∷ class_with (property (codes "x") (kinds.whole kinds.int) 3 (values.whole kinds.int (pos 0)) (negsuc 2147483647)
      (pos 2147483647) false
      ∷ property (codes "y") (kinds.whole kinds.int) 3 (values.whole kinds.int (pos 0)) (negsuc 2147483647)
      (pos 2147483647) false ∷ []) (notify ∷ signal (codes "go") [] None 2 None ∷ []) [] None None
      ∷ [];
  shapes =
      [];
  programs =
      program (codes "n") ((kinds.some 2) ∷ []) 1 None
      (block ((kinds.some 2) ∷ []) None (words.return None ∷ [])
      ∷ [])
      ∷ program (codes "f") ((kinds.some 2) ∷ []) 2 None
      (block ((kinds.some 2) ∷ kinds.unset ∷ []) None
      (words.connect 1 0 (connects (codes "notify") (Some (codes "x")) (codes "n") false false None)
      ∷ words.connect 1 0 (connects (codes "notify") (Some (codes "y")) (codes "n") false false None)
      ∷ words.disconnect 0 (codes "n")
      ∷ words.connect 1 0 (connects (codes "notify") (Some (codes "y")) (codes "n") false false None) ∷ words.return None ∷ [])
      ∷ [])
      ∷ [];
  places =
      object (codes "b") 2 None [] [] (attached (codes "go") None 1 false false None ∷ [])
      ∷ [];
  bindings =
      [];
  most_objects = 64;
  most_handlers = 1;
}

abbrev pub peers : List Peer
peers =
    []

abbrev pub events : List Event
events =
    config.request (config.emit 0 1 [] None)
    ∷ config.request (config.set 0 0 (value (values.whole kinds.int (pos 1))))
    ∷ config.request (config.set 0 1 (value (values.whole kinds.int (pos 1))))
    ∷ []

abbrev pub replies : List Scripted
replies =
    []

abbrev pub lines : List (List ℕ)
lines =
    (codes "build")
    ∷ (codes "construct #1 Box")
    ∷ (codes "end 0")
    ∷ (codes "emit #1.go()")
    ∷ (codes "run f")
    ∷ (codes "limit connect")
    ∷ (codes "end 6")
    ∷ (codes "set #1.x 1")
    ∷ (codes "notify #1.x")
    ∷ (codes "end 1")
    ∷ (codes "set #1.y 1")
    ∷ (codes "notify #1.y")
    ∷ (codes "run n")
    ∷ (codes "end 2")
    ∷ []

-- the machine shows these lines
abbrev pub Holds : Type 0
Holds = shown definition peers events replies ≡ Ok lines
