-- The builder has an object only once its construction has ended.
use Rattle.std.specs.Prelude.{◌≡◌, ℕ, pos, negsuc, false, List, [], ◌∷◌, codes, None, Some, Ok}
use Rattle.ui_machine.specs.Definition.Kinds as kinds
use Rattle.ui_machine.specs.Definition.Values as values
use Rattle.ui_machine.specs.Definition.Types.{plain_class}
use Rattle.ui_machine.specs.Definition.{Definition}
use Rattle.ui_machine.specs.Definition.Places.{value}
use Rattle.ui_machine.specs.Definition.Programs as words
use Rattle.ui_machine.specs.State.Tasks.{Event}
use Rattle.ui_machine.specs.State.Peers.{Peer}
use Rattle.ui_machine.specs.State.Tasks as config
use Rattle.machine_rows.specs.Play.{Scripted, shown}
use Rattle.ui_machine.specs.Words.{class_type, property, notify, class_handler, class_with, block, program, object}

abbrev pub definition : Definition
definition = record {
  types =
      plain_class (codes "GObject") None []
      ∷ class_type (codes "GInitiallyUnowned") 0 false false []
      ∷ class_type (codes "Box") 0 false false []
      ∷ [];
  classes =
      class_with [] (notify ∷ []) [] None None
      ∷ class_with [] (notify ∷ []) [] None None
      ∷ class_with (property (codes "n") (kinds.whole kinds.int) 7 (values.whole kinds.int (pos 0)) (negsuc 2147483647)
      (pos 2147483647) false ∷ []) (notify ∷ []) (class_handler (codes "notify") 0 ∷ []) (Some 0) None
      ∷ [];
  shapes =
      [];
  programs =
      program (codes "look") ((kinds.some 2) ∷ []) 2 None
      (block ((kinds.some 2) ∷ kinds.unset ∷ []) None (words.object 1 (codes "b") ∷ words.branch_null 1 1 2 ∷ [])
      ∷ block ((kinds.some 2) ∷ kinds.unset ∷ []) None (words.return None ∷ [])
      ∷ block ((kinds.some 2) ∷ kinds.unset ∷ []) None (words.dispose 0 ∷ words.return None ∷ [])
      ∷ [])
      ∷ [];
  places =
      object (codes "b") 2 None [] [] []
      ∷ [];
  bindings =
      [];
  most_objects = 64;
  most_handlers = 0;
}

abbrev pub peers : List Peer
peers =
    []

abbrev pub events : List Event
events =
    config.request (config.set 0 0 (value (values.whole kinds.int (pos 1))))
    ∷ []

abbrev pub replies : List Scripted
replies =
    []

abbrev pub lines : List (List ℕ)
lines =
    (codes "build")
    ∷ (codes "construct #1 Box")
    ∷ (codes "set #1.n 0")
    ∷ (codes "run look")
    ∷ (codes "notify #1.n")
    ∷ (codes "run look")
    ∷ (codes "end 7")
    ∷ (codes "set #1.n 1")
    ∷ (codes "notify #1.n")
    ∷ (codes "run look")
    ∷ (codes "dispose #1")
    ∷ (codes "end 5")
    ∷ []

-- the machine shows these lines
abbrev pub Holds : Type 0
Holds = shown definition peers events replies ≡ Ok lines
