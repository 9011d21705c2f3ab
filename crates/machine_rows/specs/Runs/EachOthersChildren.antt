-- Two objects that adopt each other stay.
use Rattle.std.specs.Prelude.{◌≡◌, ℕ, false, List, [], ◌∷◌, codes, None, Ok}
use Rattle.ui_machine.specs.Definition.Kinds as kinds
use Rattle.ui_machine.specs.Definition.Types.{plain_class}
use Rattle.ui_machine.specs.Definition.{Definition}
use Rattle.ui_machine.specs.Definition.Places.{named}
use Rattle.ui_machine.specs.Definition.Programs as words
use Rattle.ui_machine.specs.State.Tasks.{Event}
use Rattle.ui_machine.specs.State.Peers.{Peer}
use Rattle.ui_machine.specs.State.Tasks as config
use Rattle.machine_rows.specs.Play.{Scripted, shown}
use Rattle.ui_machine.specs.Words.{class_type, signal, notify, class_with, block, program, attached, object}

abbrev pub definition : Definition
definition = record {
  types =
      plain_class (codes "GObject") None []
      ∷ class_type (codes "GInitiallyUnowned") 0 false false []
      ∷ class_type (codes "Box") 0 false false []
      ∷ [];
  classes =
      class_with [] (notify ∷ []) [] None None
      ∷ class_with [] (notify ∷ []) [] None None
      ∷ class_with [] (notify ∷ signal (codes "go") ((kinds.object 2) ∷ []) None 2 None ∷ []) [] None None
      ∷ [];
  shapes =
      [];
  programs =
      program (codes "f") ((kinds.some 2) ∷ (kinds.plain (kinds.object 2)) ∷ []) 3 None
      (block ((kinds.some 2) ∷ (kinds.plain (kinds.object 2)) ∷ kinds.unset ∷ []) None (words.branch_null 1 1 2 ∷ [])
      ∷ block (kinds.unset ∷ kinds.unset ∷ kinds.unset ∷ []) None (words.return None ∷ [])
      ∷ block ((kinds.some 2) ∷ (kinds.some 2) ∷ kinds.unset ∷ []) None (words.adopt 2 0 1 ∷ words.adopt 2 1 0 ∷ words.adopt 2 0 0
      ∷ words.return None ∷ [])
      ∷ [])
      ∷ [];
  places =
      object (codes "a") 2 None [] [] (attached (codes "go") None 0 false false None ∷ [])
      ∷ object (codes "b") 2 None [] [] []
      ∷ [];
  bindings =
      [];
  most_objects = 64;
  most_handlers = 0;
}

abbrev pub peers : List Peer
peers =
    []

abbrev pub events : List Event
events =
    config.request (config.emit 0 1 ((named 1) ∷ []) None)
    ∷ config.request (config.release 0)
    ∷ config.request (config.release 1)
    ∷ []

abbrev pub replies : List Scripted
replies =
    []

abbrev pub lines : List (List ℕ)
lines =
    (codes "build")
    ∷ (codes "construct #1 Box")
    ∷ (codes "construct #2 Box")
    ∷ (codes "end 0")
    ∷ (codes "emit #1.go(#2)")
    ∷ (codes "run f")
    ∷ (codes "adopt #1 #2")
    ∷ (codes "adopt #2 #1")
    ∷ (codes "limit adopt")
    ∷ (codes "end 6")
    ∷ (codes "release a")
    ∷ (codes "end 0")
    ∷ (codes "release b")
    ∷ (codes "end 0")
    ∷ []

-- the machine shows these lines
abbrev pub Holds : Type 0
Holds = shown definition peers events replies ≡ Ok lines
