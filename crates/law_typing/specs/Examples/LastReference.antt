-- Handlers that bytecode connects, and a peer.
use Rattle.std.specs.Prelude.{◌≡◌, ℕ, pos, true, false, List, [], ◌∷◌, codes, None, Some}
use Rattle.ui_machine.specs.Definition.Kinds as kinds
use Rattle.ui_machine.specs.Definition.Values as values
use Rattle.ui_machine.specs.Definition.Types.{plain_class}
use Rattle.ui_machine.specs.Definition.{Definition}
use Rattle.ui_machine.specs.Definition.Programs as words
use Rattle.law_typing.specs.Verdict.{verdict, accepted}
use Rattle.ui_machine.specs.Words.{class_type, property, signal, notify, class_with, method, shape, block, program, attached, object, prototype, connects}

abbrev pub definition : Definition
definition = record {
  types =
      plain_class (codes "GObject") None []
      ∷ class_type (codes "GInitiallyUnowned") 0 false false []
      ∷ class_type (codes "Item") 0 false false []
      ∷ class_type (codes "Hold") 0 false false []
      ∷ [];
  classes =
      class_with [] (notify ∷ []) [] None None
      ∷ class_with [] (notify ∷ []) [] None None
      ∷ class_with [] (notify ∷ signal (codes "s") [] None 2 None ∷ []) [] None (Some 0)
      ∷ class_with (property (codes "cur") (kinds.object 2) 3 (values.object None) (pos 0) (pos 0) false
      ∷ property (codes "w") (kinds.object 2) 3 (values.object None) (pos 0) (pos 0) true ∷ []) (notify
      ∷ signal (codes "go") [] None 2 None ∷ signal (codes "fire") [] None 2 None ∷ []) [] None None
      ∷ [];
  shapes =
      shape (codes "Tally") (method (codes "add") ((kinds.whole kinds.int64) ∷ []) (kinds.whole kinds.int64)
      ∷ method (codes "read") [] (kinds.whole kinds.int64) ∷ [])
      ∷ [];
  programs =
      program (codes "mk") ((kinds.at 0) ∷ []) 3 None
      (block ((kinds.at 0) ∷ kinds.unset ∷ kinds.unset ∷ []) None (words.new 1 (codes "it") ∷ words.branch_null 1 1 2 ∷ [])
      ∷ block (kinds.unset ∷ kinds.unset ∷ kinds.unset ∷ []) None (words.return None ∷ [])
      ∷ block ((kinds.at 0) ∷ (kinds.at 1) ∷ kinds.unset ∷ []) None
      (words.connect 2 1 (connects (codes "s") None (codes "drop") false true (Some 0))
      ∷ words.connect 2 1 (connects (codes "s") None (codes "later") false false None) ∷ words.set 0 (codes "cur") 1
      ∷ words.set 0 (codes "w") 1 ∷ words.return None ∷ [])
      ∷ [])
      ∷ program (codes "drop") ((kinds.at 0) ∷ (kinds.at 1) ∷ []) 3 None
      (block ((kinds.at 0) ∷ (kinds.at 1) ∷ kinds.unset ∷ []) None (words.const 2 (kinds.object 2) (values.object None)
      ∷ words.set 0 (codes "cur") 2 ∷ words.return None ∷ [])
      ∷ [])
      ∷ program (codes "later") ((kinds.some 2) ∷ []) 3 None
      (block ((kinds.some 2) ∷ kinds.unset ∷ kinds.unset ∷ []) None
      (words.const 1 (kinds.whole kinds.int64) (values.whole kinds.int64 (pos 2)) ∷ words.call 2 0 (codes "add") (1 ∷ [])
      ∷ words.return None ∷ [])
      ∷ [])
      ∷ program (codes "fire") ((kinds.at 0) ∷ []) 2 None
      (block ((kinds.at 0) ∷ kinds.unset ∷ []) None (words.get 1 0 (codes "cur") ∷ words.branch_null 1 1 2 ∷ [])
      ∷ block (kinds.unset ∷ kinds.unset ∷ []) None (words.return None ∷ [])
      ∷ block ((kinds.at 0) ∷ (kinds.some 2) ∷ []) None (words.emit None 1 (codes "s") None [] ∷ words.return None ∷ [])
      ∷ [])
      ∷ [];
  places =
      object (codes "h") 3 None [] [] (attached (codes "go") None 0 false false None ∷ attached (codes "fire") None 3 false false None ∷ [])
      ∷ prototype (codes "it") 2 [] ((codes "t") ∷ [])
      ∷ [];
  bindings =
      [];
  most_objects = 64;
  most_handlers = 2;
}

abbrev pub lines : List (List ℕ)
lines =
    (codes "depth 5")
    ∷ (codes "build bound 64")
    ∷ (codes "property h.cur rank 2 bound 65")
    ∷ (codes "property h.w rank 1 bound 65")
    ∷ (codes "signal h.go rank 0 bound 75")
    ∷ (codes "signal h.fire rank 0 bound 78")
    ∷ (codes "signal it.s rank 1 bound 73")
    ∷ []

-- the definition is accepted, with this report
abbrev pub Holds : Type 0
Holds = verdict definition ≡ accepted lines
