-- Handlers that are disconnected, blocked and connected as the signal is emitted.
use Rattle.std.specs.Prelude.{◌≡◌, ℕ, false, List, [], ◌∷◌, codes, None, Ok}
use Rattle.ui_machine.specs.Definition.Kinds as kinds
use Rattle.ui_machine.specs.Definition.Types.{plain_class}
use Rattle.ui_machine.specs.Definition.{Definition}
use Rattle.ui_machine.specs.Definition.Programs as words
use Rattle.ui_machine.specs.State.Tasks.{Event}
use Rattle.ui_machine.specs.State.Peers.{Peer}
use Rattle.ui_machine.specs.State.Tasks as config
use Rattle.machine_rows.specs.Play.{Scripted, shown}
use Rattle.ui_machine.specs.Words.{class_type, signal, notify, class_with, block, program, attached, object, connects}

abbrev pub definition : Definition
definition = record {
  types =
      plain_class (codes "GObject") None []
      ∷ class_type (codes "GInitiallyUnowned") 0 false false []
      ∷ class_type (codes "Box") 0 false false []
      ∷ [];
  classes =
      class_with [] (notify ∷ []) [] None None
      ∷ class_with [] (notify ∷ []) [] None None
      ∷ class_with [] (notify ∷ signal (codes "s") [] None 2 None ∷ []) [] None None
      ∷ [];
  shapes =
      [];
  programs =
      program (codes "h1") ((kinds.some 2) ∷ []) 2 None
      (block ((kinds.some 2) ∷ kinds.unset ∷ []) None (words.disconnect 0 (codes "h2") ∷ words.block 0 (codes "h3")
      ∷ words.connect 1 0 (connects (codes "s") None (codes "n") false false None) ∷ words.return None ∷ [])
      ∷ [])
      ∷ program (codes "h2") ((kinds.some 2) ∷ []) 1 None
      (block ((kinds.some 2) ∷ []) None (words.return None ∷ [])
      ∷ [])
      ∷ program (codes "h3") ((kinds.some 2) ∷ []) 1 None
      (block ((kinds.some 2) ∷ []) None (words.return None ∷ [])
      ∷ [])
      ∷ program (codes "n") ((kinds.some 2) ∷ []) 1 None
      (block ((kinds.some 2) ∷ []) None (words.return None ∷ [])
      ∷ [])
      ∷ [];
  places =
      object (codes "b") 2 None [] [] (attached (codes "s") None 0 false false None ∷ attached (codes "s") None 1 false false None
      ∷ attached (codes "s") None 2 false false None ∷ [])
      ∷ [];
  bindings =
      [];
  most_objects = 64;
  most_handlers = 1;
}

abbrev pub peers : List Peer
peers =
    []

abbrev pub events : List Event
events =
    config.request (config.emit 0 1 [] None)
    ∷ config.request (config.emit 0 1 [] None)
    ∷ []

abbrev pub replies : List Scripted
replies =
    []

abbrev pub lines : List (List ℕ)
lines =
    (codes "build")
    ∷ (codes "construct #1 Box")
    ∷ (codes "end 0")
    ∷ (codes "emit #1.s()")
    ∷ (codes "run h1")
    ∷ (codes "end 5")
    ∷ (codes "emit #1.s()")
    ∷ (codes "run h1")
    ∷ (codes "limit connect")
    ∷ (codes "run n")
    ∷ (codes "end 6")
    ∷ []

-- the machine shows these lines
abbrev pub Holds : Type 0
Holds = shown definition peers events replies ≡ Ok lines
