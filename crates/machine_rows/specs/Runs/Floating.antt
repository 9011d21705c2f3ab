-- Objects that float, and one that is adopted.
use Rattle.std.specs.Prelude.{◌≡◌, ℕ, false, List, [], ◌∷◌, codes, None, Ok}
use Rattle.ui_machine.specs.Definition.Kinds as kinds
use Rattle.ui_machine.specs.Definition.Types.{plain_class}
use Rattle.ui_machine.specs.Definition.{Definition}
use Rattle.ui_machine.specs.Definition.Programs as words
use Rattle.ui_machine.specs.State.Tasks.{Event}
use Rattle.ui_machine.specs.State.Peers.{Peer}
use Rattle.ui_machine.specs.State.Tasks as config
use Rattle.machine_rows.specs.Play.{Scripted, shown}
use Rattle.ui_machine.specs.Words.{class_type, signal, notify, class_with, block, program, attached, object, prototype}

abbrev pub definition : Definition
definition = record {
  types =
      plain_class (codes "GObject") None []
      ∷ class_type (codes "GInitiallyUnowned") 0 false false []
      ∷ class_type (codes "Box") 0 false false []
      ∷ class_type (codes "Item") 1 false false []
      ∷ [];
  classes =
      class_with [] (notify ∷ []) [] None None
      ∷ class_with [] (notify ∷ []) [] None None
      ∷ class_with [] (notify ∷ signal (codes "go") [] None 2 None ∷ signal (codes "keep") [] None 2 None ∷ []) [] None None
      ∷ class_with [] (notify ∷ []) [] None None
      ∷ [];
  shapes =
      [];
  programs =
      program (codes "mk") ((kinds.some 2) ∷ []) 3 None
      (block ((kinds.some 2) ∷ kinds.unset ∷ kinds.unset ∷ []) None (words.new 1 (codes "it") ∷ words.new 2 (codes "it")
      ∷ words.return None ∷ [])
      ∷ [])
      ∷ program (codes "keep") ((kinds.some 2) ∷ []) 3 None
      (block ((kinds.some 2) ∷ kinds.unset ∷ kinds.unset ∷ []) None (words.new 1 (codes "it") ∷ words.branch_null 1 1 2 ∷ [])
      ∷ block (kinds.unset ∷ kinds.unset ∷ kinds.unset ∷ []) None (words.return None ∷ [])
      ∷ block ((kinds.some 2) ∷ (kinds.at 1) ∷ kinds.unset ∷ []) None (words.adopt 2 0 1 ∷ words.return None ∷ [])
      ∷ [])
      ∷ [];
  places =
      object (codes "b") 2 None [] [] (attached (codes "go") None 0 false false None ∷ attached (codes "keep") None 1 false false None ∷ [])
      ∷ prototype (codes "it") 3 [] []
      ∷ [];
  bindings =
      [];
  most_objects = 2;
  most_handlers = 0;
}

abbrev pub peers : List Peer
peers =
    []

abbrev pub events : List Event
events =
    config.request (config.emit 0 1 [] None)
    ∷ config.request (config.emit 0 2 [] None)
    ∷ config.request (config.release 0)
    ∷ []

abbrev pub replies : List Scripted
replies =
    []

abbrev pub lines : List (List ℕ)
lines =
    (codes "build")
    ∷ (codes "construct #1 Box")
    ∷ (codes "end 0")
    ∷ (codes "emit #1.go()")
    ∷ (codes "run mk")
    ∷ (codes "construct #2 Item")
    ∷ (codes "limit new")
    ∷ (codes "dispose #2")
    ∷ (codes "final #2")
    ∷ (codes "end 5")
    ∷ (codes "emit #1.keep()")
    ∷ (codes "run keep")
    ∷ (codes "construct #3 Item")
    ∷ (codes "adopt #1 #3")
    ∷ (codes "end 5")
    ∷ (codes "release b")
    ∷ (codes "dispose #1")
    ∷ (codes "final #1")
    ∷ (codes "dispose #3")
    ∷ (codes "final #3")
    ∷ (codes "end 2")
    ∷ []

-- the machine shows these lines
abbrev pub Holds : Type 0
Holds = shown definition peers events replies ≡ Ok lines
