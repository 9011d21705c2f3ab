-- Both ends of a pair, frozen by one program.
use Rattle.std.specs.Prelude.{◌≡◌, ℕ, pos, true, false, List, [], ◌∷◌, codes, None, Ok}
use Rattle.ui_machine.specs.Definition.Kinds as kinds
use Rattle.ui_machine.specs.Definition.Values as values
use Rattle.ui_machine.specs.Definition.Types.{plain_class}
use Rattle.ui_machine.specs.Definition.{Definition}
use Rattle.ui_machine.specs.Definition.Places.{named}
use Rattle.ui_machine.specs.Definition.Programs as words
use Rattle.ui_machine.specs.State.Tasks.{Event}
use Rattle.ui_machine.specs.State.Peers.{Peer}
use Rattle.ui_machine.specs.State.Tasks as config
use Rattle.machine_rows.specs.Play.{Scripted, shown}
use Rattle.ui_machine.specs.Words.{class_type, property, signal, notify, class_with, block, program, attached, object, bind}

abbrev pub definition : Definition
definition = record {
  types =
      plain_class (codes "GObject") None []
      ∷ class_type (codes "GInitiallyUnowned") 0 false false []
      ∷ class_type (codes "Switch") 0 false false []
      ∷ [];
  classes =
      class_with [] (notify ∷ []) [] None None
      ∷ class_with [] (notify ∷ []) [] None None
      ∷ class_with (property (codes "on") kinds.bool 3 (values.bool false) (pos 0) (pos 0) false ∷ []) (notify
      ∷ signal (codes "go") ((kinds.object 2) ∷ []) None 2 None ∷ []) [] None None
      ∷ [];
  shapes =
      [];
  programs =
      program (codes "f") ((kinds.some 2) ∷ (kinds.plain (kinds.object 2)) ∷ []) 3 None
      (block ((kinds.some 2) ∷ (kinds.plain (kinds.object 2)) ∷ kinds.unset ∷ []) None (words.branch_null 1 1 2 ∷ [])
      ∷ block (kinds.unset ∷ kinds.unset ∷ kinds.unset ∷ []) None (words.return None ∷ [])
      ∷ block ((kinds.some 2) ∷ (kinds.some 2) ∷ kinds.unset ∷ []) None (words.const 2 kinds.bool (values.bool true) ∷ words.freeze 0
      ∷ words.freeze 1 ∷ words.set 0 (codes "on") 2 ∷ words.thaw 0 ∷ words.thaw 1 ∷ words.return None ∷ [])
      ∷ [])
      ∷ [];
  places =
      object (codes "a") 2 None [] [] (attached (codes "go") None 0 false false None ∷ [])
      ∷ object (codes "b") 2 None [] [] []
      ∷ [];
  bindings =
      bind None 0 0 1 0 7 0
      ∷ [];
  most_objects = 64;
  most_handlers = 0;
}

abbrev pub peers : List Peer
peers =
    []

abbrev pub events : List Event
events =
    config.request (config.emit 0 1 ((named 1) ∷ []) None)
    ∷ []

abbrev pub replies : List Scripted
replies =
    []

abbrev pub lines : List (List ℕ)
lines =
    (codes "build")
    ∷ (codes "construct #1 Switch")
    ∷ (codes "construct #2 Switch")
    ∷ (codes "set #2.on TRUE")
    ∷ (codes "notify #2.on")
    ∷ (codes "end 2")
    ∷ (codes "emit #1.go(#2)")
    ∷ (codes "run f")
    ∷ (codes "set #1.on TRUE")
    ∷ (codes "notify #1.on")
    ∷ (codes "set #2.on FALSE")
    ∷ (codes "notify #2.on")
    ∷ (codes "set #1.on TRUE")
    ∷ (codes "notify #1.on")
    ∷ (codes "end 14")
    ∷ []

-- the machine shows these lines
abbrev pub Holds : Type 0
Holds = shown definition peers events replies ≡ Ok lines
