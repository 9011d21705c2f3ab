-- A peer that faults.
use Rattle.std.specs.Prelude.{◌≡◌, ℕ, pos, false, List, [], ◌∷◌, codes, None, Some, Ok}
use Rattle.ui_machine.specs.Definition.Kinds as kinds
use Rattle.ui_machine.specs.Definition.Values as values
use Rattle.ui_machine.specs.Definition.Types.{plain_class}
use Rattle.ui_machine.specs.Definition.{Definition}
use Rattle.ui_machine.specs.Definition.Programs as words
use Rattle.ui_machine.specs.State.Tasks.{Event}
use Rattle.ui_machine.specs.State.Peers.{Peer}
use Rattle.ui_machine.specs.State.Tasks as config
use Rattle.machine_rows.specs.Play.{Scripted, shown, scripted}
use Rattle.ui_machine.specs.Words.{class_type, signal, notify, class_with, method, shape, block, program, attached, object, peer}

abbrev pub definition : Definition
definition = record {
  types =
      plain_class (codes "GObject") None []
      ∷ class_type (codes "GInitiallyUnowned") 0 false false []
      ∷ class_type (codes "Item") 0 false false []
      ∷ [];
  classes =
      class_with [] (notify ∷ []) [] None None
      ∷ class_with [] (notify ∷ []) [] None None
      ∷ class_with [] (notify ∷ signal (codes "s") [] None 2 None ∷ []) [] None (Some 0)
      ∷ [];
  shapes =
      shape (codes "Tally") (method (codes "add") ((kinds.whole kinds.int64) ∷ []) (kinds.whole kinds.int64)
      ∷ method (codes "read") [] (kinds.whole kinds.int64) ∷ [])
      ∷ [];
  programs =
      program (codes "later") ((kinds.some 2) ∷ []) 3 None
      (block ((kinds.some 2) ∷ kinds.unset ∷ kinds.unset ∷ []) None
      (words.const 1 (kinds.whole kinds.int64) (values.whole kinds.int64 (pos 2)) ∷ words.call 2 0 (codes "add") (1 ∷ [])
      ∷ words.return None ∷ [])
      ∷ [])
      ∷ [];
  places =
      object (codes "i") 2 None [] ((codes "t") ∷ []) (attached (codes "s") None 0 false false None ∷ [])
      ∷ [];
  bindings =
      [];
  most_objects = 64;
  most_handlers = 0;
}

abbrev pub peers : List Peer
peers =
    peer (codes "t") (method (codes "add") ((kinds.whole kinds.int64) ∷ []) (kinds.whole kinds.int64)
    ∷ method (codes "read") [] (kinds.whole kinds.int64) ∷ []) (values.whole kinds.int64 (pos 0) ∷ [])
    ∷ []

abbrev pub events : List Event
events =
    config.request (config.emit 0 1 [] None)
    ∷ []

abbrev pub replies : List Scripted
replies =
    scripted None (values.whole kinds.int64 (pos 0) ∷ [])
    ∷ []

abbrev pub lines : List (List ℕ)
lines =
    (codes "build")
    ∷ (codes "construct #1 Item")
    ∷ (codes "end 0")
    ∷ (codes "emit #1.s()")
    ∷ (codes "run later")
    ∷ (codes "fault t.add(2)")
    ∷ (codes "end 4")
    ∷ []

-- the machine shows these lines
abbrev pub Holds : Type 0
Holds = shown definition peers events replies ≡ Ok lines
