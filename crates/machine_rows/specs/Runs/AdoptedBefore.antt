-- A `constructed` program may adopt before the builder does.
use Rattle.std.specs.Prelude.{◌≡◌, ℕ, false, List, [], ◌∷◌, codes, None, Some, Ok}
use Rattle.ui_machine.specs.Definition.Kinds as kinds
use Rattle.ui_machine.specs.Definition.Types.{plain_class}
use Rattle.ui_machine.specs.Definition.{Definition}
use Rattle.ui_machine.specs.Definition.Programs as words
use Rattle.ui_machine.specs.State.Tasks.{Event}
use Rattle.ui_machine.specs.State.Peers.{Peer}
use Rattle.ui_machine.specs.State.Tasks as config
use Rattle.machine_rows.specs.Play.{Scripted, shown}
use Rattle.ui_machine.specs.Words.{class_type, notify, class_with, block, program, object}

abbrev pub definition : Definition
definition = record {
  types =
      plain_class (codes "GObject") None []
      ∷ class_type (codes "GInitiallyUnowned") 0 false false []
      ∷ class_type (codes "Box") 0 false false []
      ∷ class_type (codes "Kid") 1 false false []
      ∷ [];
  classes =
      class_with [] (notify ∷ []) [] None None
      ∷ class_with [] (notify ∷ []) [] None None
      ∷ class_with [] (notify ∷ []) [] None None
      ∷ class_with [] (notify ∷ []) [] (Some 0) None
      ∷ [];
  shapes =
      [];
  programs =
      program (codes "join") ((kinds.some 3) ∷ []) 3 None
      (block ((kinds.some 3) ∷ kinds.unset ∷ kinds.unset ∷ []) None (words.object 1 (codes "b") ∷ words.branch_null 1 1 2 ∷ [])
      ∷ block ((kinds.some 3) ∷ kinds.unset ∷ kinds.unset ∷ []) None (words.return None ∷ [])
      ∷ block ((kinds.some 3) ∷ (kinds.at 0) ∷ kinds.unset ∷ []) None (words.adopt 2 1 0 ∷ words.return None ∷ [])
      ∷ [])
      ∷ [];
  places =
      object (codes "b") 2 None [] [] []
      ∷ object (codes "k") 3 (Some 0) [] [] []
      ∷ [];
  bindings =
      [];
  most_objects = 64;
  most_handlers = 0;
}

abbrev pub peers : List Peer
peers =
    []

abbrev pub events : List Event
events =
    config.request (config.release 1)
    ∷ config.request (config.release 0)
    ∷ []

abbrev pub replies : List Scripted
replies =
    []

abbrev pub lines : List (List ℕ)
lines =
    (codes "build")
    ∷ (codes "construct #1 Box")
    ∷ (codes "construct #2 Kid")
    ∷ (codes "run join")
    ∷ (codes "adopt #1 #2")
    ∷ (codes "limit adopt")
    ∷ (codes "end 4")
    ∷ (codes "release k")
    ∷ (codes "end 0")
    ∷ (codes "release b")
    ∷ (codes "dispose #1")
    ∷ (codes "final #1")
    ∷ (codes "dispose #2")
    ∷ (codes "final #2")
    ∷ (codes "end 2")
    ∷ []

-- the machine shows these lines
abbrev pub Holds : Type 0
Holds = shown definition peers events replies ≡ Ok lines
