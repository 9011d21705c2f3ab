-- Sources: a timeout and an idle.
use Rattle.std.specs.Prelude.{◌≡◌, ℕ, pos, true, false, List, [], ◌∷◌, codes, None, Some}
use Rattle.ui_machine.specs.Definition.Kinds as kinds
use Rattle.ui_machine.specs.Definition.Values as values
use Rattle.ui_machine.specs.Definition.Types.{plain_class}
use Rattle.ui_machine.specs.Definition.{Definition}
use Rattle.ui_machine.specs.Definition.Programs as words
use Rattle.law_typing.specs.Verdict.{verdict, accepted}
use Rattle.ui_machine.specs.Words.{class_type, signal, notify, class_with, block, program, attached, object}

abbrev pub definition : Definition
definition = record {
  types =
      plain_class (codes "GObject") None []
      ∷ class_type (codes "GInitiallyUnowned") 0 false false []
      ∷ class_type (codes "Box") 0 false false []
      ∷ [];
  classes =
      class_with [] (notify ∷ []) [] None None
      ∷ class_with [] (notify ∷ []) [] None None
      ∷ class_with [] (notify ∷ signal (codes "go") [] None 2 None ∷ []) [] None None
      ∷ [];
  shapes =
      [];
  programs =
      program (codes "start") ((kinds.some 2) ∷ []) 2 None
      (block ((kinds.some 2) ∷ kinds.unset ∷ []) None (words.timeout 1 (codes "tick") (pos 0) 100 None
      ∷ words.idle 1 (codes "rest") (pos 200) None ∷ words.return None ∷ [])
      ∷ [])
      ∷ program (codes "tick") [] 1 (Some kinds.bool)
      (block (kinds.unset ∷ []) None (words.const 0 kinds.bool (values.bool true) ∷ words.return (Some 0) ∷ [])
      ∷ [])
      ∷ program (codes "rest") [] 1 (Some kinds.bool)
      (block (kinds.unset ∷ []) None (words.const 0 kinds.bool (values.bool false) ∷ words.return (Some 0) ∷ [])
      ∷ [])
      ∷ [];
  places =
      object (codes "b") 2 None [] [] (attached (codes "go") None 0 false false None ∷ [])
      ∷ [];
  bindings =
      [];
  most_objects = 64;
  most_handlers = 0;
}

abbrev pub lines : List (List ℕ)
lines =
    (codes "depth 2")
    ∷ (codes "build bound 64")
    ∷ (codes "signal b.go rank 0 bound 68")
    ∷ (codes "source tick bound 66")
    ∷ (codes "source rest bound 66")
    ∷ []

-- the definition is accepted, with this report
abbrev pub Holds : Type 0
Holds = verdict definition ≡ accepted lines
