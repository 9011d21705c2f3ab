-- Values of the cleanup stage do not count.
use Rattle.std.specs.Prelude.{◌≡◌, ℕ, pos, false, List, [], ◌∷◌, codes, None, Some, Ok}
use Rattle.ui_machine.specs.Definition.Kinds as kinds
use Rattle.ui_machine.specs.Definition.Values as values
use Rattle.ui_machine.specs.Definition.Types.{plain_class}
use Rattle.ui_machine.specs.Definition.{Definition}
use Rattle.ui_machine.specs.Definition.Programs as words
use Rattle.ui_machine.specs.State.Tasks.{Event}
use Rattle.ui_machine.specs.State.Peers.{Peer}
use Rattle.ui_machine.specs.State.Tasks as config
use Rattle.machine_rows.specs.Play.{Scripted, shown}
use Rattle.ui_machine.specs.Words.{class_type, signal, notify, class_handler, class_with, block, program, attached, object}

abbrev pub definition : Definition
definition = record {
  types =
      plain_class (codes "GObject") None []
      ∷ class_type (codes "GInitiallyUnowned") 0 false false []
      ∷ class_type (codes "Box") 0 false false []
      ∷ [];
  classes =
      class_with [] (notify ∷ []) [] None None
      ∷ class_with [] (notify ∷ []) [] None None
      ∷ class_with [] (notify ∷ signal (codes "s") [] (Some (kinds.whole kinds.int)) 4 None ∷ [])
      (class_handler (codes "s") 0 ∷ []) None None
      ∷ [];
  shapes =
      [];
  programs =
      program (codes "last") ((kinds.some 2) ∷ []) 2 (Some (kinds.whole kinds.int))
      (block ((kinds.some 2) ∷ kinds.unset ∷ []) None (words.const 1 (kinds.whole kinds.int) (values.whole kinds.int (pos 9))
      ∷ words.return (Some 1) ∷ [])
      ∷ [])
      ∷ program (codes "one") ((kinds.some 2) ∷ []) 2 (Some (kinds.whole kinds.int))
      (block ((kinds.some 2) ∷ kinds.unset ∷ []) None (words.const 1 (kinds.whole kinds.int) (values.whole kinds.int (pos 1))
      ∷ words.return (Some 1) ∷ [])
      ∷ [])
      ∷ program (codes "two") ((kinds.some 2) ∷ []) 2 (Some (kinds.whole kinds.int))
      (block ((kinds.some 2) ∷ kinds.unset ∷ []) None (words.stop ∷ words.const 1 (kinds.whole kinds.int) (values.whole kinds.int (pos 2))
      ∷ words.return (Some 1) ∷ [])
      ∷ [])
      ∷ program (codes "three") ((kinds.some 2) ∷ []) 2 (Some (kinds.whole kinds.int))
      (block ((kinds.some 2) ∷ kinds.unset ∷ []) None (words.const 1 (kinds.whole kinds.int) (values.whole kinds.int (pos 3))
      ∷ words.return (Some 1) ∷ [])
      ∷ [])
      ∷ [];
  places =
      object (codes "b") 2 None [] [] (attached (codes "s") None 1 false false None ∷ attached (codes "s") None 2 false false None
      ∷ attached (codes "s") None 3 false false None ∷ [])
      ∷ [];
  bindings =
      [];
  most_objects = 64;
  most_handlers = 0;
}

abbrev pub peers : List Peer
peers =
    []

abbrev pub events : List Event
events =
    config.request (config.emit 0 1 [] None)
    ∷ []

abbrev pub replies : List Scripted
replies =
    []

abbrev pub lines : List (List ℕ)
lines =
    (codes "build")
    ∷ (codes "construct #1 Box")
    ∷ (codes "end 0")
    ∷ (codes "emit #1.s()")
    ∷ (codes "run one")
    ∷ (codes "run two")
    ∷ (codes "run last")
    ∷ (codes "result 2")
    ∷ (codes "end 8")
    ∷ []

-- the machine shows these lines
abbrev pub Holds : Type 0
Holds = shown definition peers events replies ≡ Ok lines
