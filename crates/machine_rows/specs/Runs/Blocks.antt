-- Blocks, details, stops and data over some emissions.
use Rattle.std.specs.Prelude.{◌≡◌, ℕ, pos, true, false, List, [], ◌∷◌, codes, None, Some, Ok}
use Rattle.ui_machine.specs.Definition.Kinds as kinds
use Rattle.ui_machine.specs.Definition.Values as values
use Rattle.ui_machine.specs.Definition.Types.{plain_class}
use Rattle.ui_machine.specs.Definition.{Definition}
use Rattle.ui_machine.specs.Definition.Places.{value}
use Rattle.ui_machine.specs.Definition.Programs as words
use Rattle.ui_machine.specs.State.Tasks.{Event}
use Rattle.ui_machine.specs.State.Peers.{Peer}
use Rattle.ui_machine.specs.State.Tasks as config
use Rattle.machine_rows.specs.Play.{Scripted, shown}
use Rattle.ui_machine.specs.Words.{class_type, signal, notify, class_handler, class_with, block, program, attached, object, connects}

abbrev pub definition : Definition
definition = record {
  types =
      plain_class (codes "GObject") None []
      ∷ class_type (codes "GInitiallyUnowned") 0 false false []
      ∷ class_type (codes "Box") 0 false false []
      ∷ [];
  classes =
      class_with [] (notify ∷ []) [] None None
      ∷ class_with [] (notify ∷ []) [] None None
      ∷ class_with [] (notify ∷ signal (codes "go") [] None 2 None
      ∷ signal (codes "s") ((kinds.whole kinds.int) ∷ []) None 22 None ∷ []) (class_handler (codes "s") 2 ∷ []) None None
      ∷ [];
  shapes =
      [];
  programs =
      program (codes "f") ((kinds.some 2) ∷ []) 4 None
      (block ((kinds.some 2) ∷ kinds.unset ∷ kinds.unset
      ∷ kinds.unset ∷ []) None (words.const 1 (kinds.whole kinds.int) (values.whole kinds.int (pos 7)) ∷ words.block 0 (codes "h")
      ∷ words.block 0 (codes "h") ∷ words.unblock 0 (codes "h") ∷ words.emit None 0 (codes "s") (Some (codes "d")) (1 ∷ [])
      ∷ words.unblock 0 (codes "h") ∷ words.unblock 0 (codes "h") ∷ words.emit None 0 (codes "s") (Some (codes "e")) (1 ∷ [])
      ∷ words.emit None 0 (codes "s") None (1 ∷ []) ∷ words.disconnect 0 (codes "h")
      ∷ words.emit None 0 (codes "s") (Some (codes "d")) (1 ∷ [])
      ∷ words.connect 3 0 (connects (codes "notify") None (codes "n") true false None)
      ∷ words.connect 3 0 (connects (codes "s") (Some (codes "d")) (codes "m") true true (Some 0))
      ∷ words.emit None 0 (codes "s") (Some (codes "d")) (1 ∷ []) ∷ words.return None ∷ [])
      ∷ [])
      ∷ program (codes "h") ((kinds.some 2) ∷ (kinds.plain (kinds.whole kinds.int)) ∷ []) 2 None
      (block ((kinds.some 2) ∷ (kinds.plain (kinds.whole kinds.int)) ∷ []) None (words.return None ∷ [])
      ∷ [])
      ∷ program (codes "c") ((kinds.some 2) ∷ (kinds.plain (kinds.whole kinds.int)) ∷ []) 2 None
      (block ((kinds.some 2) ∷ (kinds.plain (kinds.whole kinds.int)) ∷ []) None (words.stop ∷ words.return None ∷ [])
      ∷ [])
      ∷ program (codes "n") ((kinds.some 2) ∷ []) 1 None
      (block ((kinds.some 2) ∷ []) None (words.return None ∷ [])
      ∷ [])
      ∷ program (codes "m") ((kinds.some 2) ∷ (kinds.plain (kinds.whole kinds.int)) ∷ (kinds.some 2) ∷ []) 3 None
      (block ((kinds.some 2) ∷ (kinds.plain (kinds.whole kinds.int)) ∷ (kinds.some 2) ∷ []) None (words.return None ∷ [])
      ∷ [])
      ∷ program (codes "k") ((kinds.at 1) ∷ (kinds.plain (kinds.whole kinds.int)) ∷ (kinds.some 2) ∷ []) 3 None
      (block ((kinds.at 1) ∷ (kinds.plain (kinds.whole kinds.int)) ∷ (kinds.some 2) ∷ []) None (words.dispose 0 ∷ words.return None ∷ [])
      ∷ [])
      ∷ [];
  places =
      object (codes "b") 2 None [] [] (attached (codes "go") None 0 false false None ∷ attached (codes "s") None 1 true false None
      ∷ attached (codes "s") (Some (codes "d")) 1 false false None ∷ attached (codes "s") None 5 false true (Some 1) ∷ [])
      ∷ object (codes "o") 2 None [] [] []
      ∷ [];
  bindings =
      [];
  most_objects = 64;
  most_handlers = 4;
}

abbrev pub peers : List Peer
peers =
    []

abbrev pub events : List Event
events =
    config.request (config.emit 0 1 [] None)
    ∷ config.request (config.emit 0 2 ((value (values.whole kinds.int (pos 3))) ∷ []) (Some (codes "d")))
    ∷ []

abbrev pub replies : List Scripted
replies =
    []

abbrev pub lines : List (List ℕ)
lines =
    (codes "build")
    ∷ (codes "construct #1 Box")
    ∷ (codes "construct #2 Box")
    ∷ (codes "end 0")
    ∷ (codes "emit #1.go()")
    ∷ (codes "run f")
    ∷ (codes "emit #1.s::d(7)")
    ∷ (codes "run k")
    ∷ (codes "dispose #2")
    ∷ (codes "run c")
    ∷ (codes "run c")
    ∷ (codes "emit #1.s::e(7)")
    ∷ (codes "run c")
    ∷ (codes "run c")
    ∷ (codes "emit #1.s(7)")
    ∷ (codes "run c")
    ∷ (codes "run c")
    ∷ (codes "emit #1.s::d(7)")
    ∷ (codes "run c")
    ∷ (codes "run c")
    ∷ (codes "emit #1.s::d(7)")
    ∷ (codes "run c")
    ∷ (codes "run c")
    ∷ (codes "end 43")
    ∷ (codes "emit #1.s::d(3)")
    ∷ (codes "run c")
    ∷ (codes "run c")
    ∷ (codes "end 5")
    ∷ []

-- the machine shows these lines
abbrev pub Holds : Type 0
Holds = shown definition peers events replies ≡ Ok lines
