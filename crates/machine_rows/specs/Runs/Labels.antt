-- A handler of `notify` that sets a property of another object.
use Rattle.std.specs.Prelude.{◌≡◌, ℕ, pos, false, List, [], ◌∷◌, codes, None, Some, Ok}
use Rattle.ui_machine.specs.Definition.Kinds as kinds
use Rattle.ui_machine.specs.Definition.Values as values
use Rattle.ui_machine.specs.Definition.Types.{plain_class}
use Rattle.ui_machine.specs.Definition.{Definition}
use Rattle.ui_machine.specs.Definition.Places.{value}
use Rattle.ui_machine.specs.Definition.Programs as words
use Rattle.ui_machine.specs.State.Tasks.{Event}
use Rattle.ui_machine.specs.State.Peers.{Peer}
use Rattle.ui_machine.specs.State.Tasks as config
use Rattle.machine_rows.specs.Play.{Scripted, shown}
use Rattle.ui_machine.specs.Words.{class_type, property, notify, class_with, block, program, attached, object}

abbrev pub definition : Definition
definition = record {
  types =
      plain_class (codes "GObject") None []
      ∷ class_type (codes "GInitiallyUnowned") 0 false false []
      ∷ class_type (codes "Label") 0 false false []
      ∷ [];
  classes =
      class_with [] (notify ∷ []) [] None None
      ∷ class_with [] (notify ∷ []) [] None None
      ∷ class_with (property (codes "text") kinds.text 3 (values.text None) (pos 0) (pos 0) false ∷ []) (notify ∷ []) [] None None
      ∷ [];
  shapes =
      [];
  programs =
      program (codes "up") ((kinds.at 0) ∷ []) 3 None
      (block ((kinds.at 0) ∷ kinds.unset ∷ kinds.unset ∷ []) None (words.object 1 (codes "l2") ∷ words.branch_null 1 1 2 ∷ [])
      ∷ block (kinds.unset ∷ kinds.unset ∷ kinds.unset ∷ []) None (words.return None ∷ [])
      ∷ block ((kinds.at 0) ∷ (kinds.at 1) ∷ kinds.unset ∷ []) None (words.get 2 0 (codes "text") ∷ words.set 1 (codes "text") 2
      ∷ words.return None ∷ [])
      ∷ [])
      ∷ [];
  places =
      object (codes "l1") 2 None [] [] (attached (codes "notify") (Some (codes "text")) 0 false false None ∷ [])
      ∷ object (codes "l2") 2 None [] [] []
      ∷ [];
  bindings =
      [];
  most_objects = 2;
  most_handlers = 0;
}

abbrev pub peers : List Peer
peers =
    []

abbrev pub events : List Event
events =
    config.request (config.set 0 0 (value (values.text (Some (codes "hi")))))
    ∷ []

abbrev pub replies : List Scripted
replies =
    []

abbrev pub lines : List (List ℕ)
lines =
    (codes "build")
    ∷ (codes "construct #1 Label")
    ∷ (codes "construct #2 Label")
    ∷ (codes "end 0")
    ∷ (codes "set #1.text \"hi\"")
    ∷ (codes "notify #1.text")
    ∷ (codes "run up")
    ∷ (codes "set #2.text \"hi\"")
    ∷ (codes "notify #2.text")
    ∷ (codes "end 7")
    ∷ []

-- the machine shows these lines
abbrev pub Holds : Type 0
Holds = shown definition peers events replies ≡ Ok lines
