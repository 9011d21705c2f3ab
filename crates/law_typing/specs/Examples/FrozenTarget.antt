-- A paired property that is set while its object is frozen: the thaw pays for the way back.
use Rattle.std.specs.Prelude.{◌≡◌, ℕ, pos, true, false, List, [], ◌∷◌, codes, None}
use Rattle.ui_machine.specs.Definition.Types.{plain_class}
use Rattle.ui_machine.specs.Definition.{Definition}
use Rattle.ui_machine.specs.Words.{class_type, property, signal, notify, class_with, block, program, attached, object, bind}
use Rattle.law_typing.specs.Verdict.{verdict, accepted}
use Rattle.ui_machine.specs.Definition.Kinds as kinds
use Rattle.ui_machine.specs.Definition.Values as values
use Rattle.ui_machine.specs.Definition.Programs as words

abbrev pub definition : Definition
definition = record {
  types =
      plain_class (codes "GObject") None []
      ∷ class_type (codes "GInitiallyUnowned") 0 false false []
      ∷ class_type (codes "Switch") 0 false false []
      ∷ [];
  classes =
      class_with [] (notify ∷ []) [] None None
      ∷ class_with [] (notify ∷ []) [] None None
      ∷ class_with (property (codes "on") kinds.bool 3 (values.bool false) (pos 0) (pos 0) false ∷ []) (notify ∷ signal (codes "go") ((kinds.object 2) ∷ []) None 2 None ∷ []) [] None None
      ∷ [];
  shapes =
      [];
  programs =
      program (codes "f") ((kinds.some 2) ∷ (kinds.plain (kinds.object 2)) ∷ []) 3 None
      (block ((kinds.some 2) ∷ (kinds.plain (kinds.object 2)) ∷ kinds.unset ∷ []) None (words.branch_null 1 1 2 ∷ [])
      ∷ block (kinds.unset ∷ kinds.unset ∷ kinds.unset ∷ []) None (words.return None ∷ [])
      ∷ block ((kinds.some 2) ∷ (kinds.some 2) ∷ kinds.unset ∷ []) None (words.const 2 kinds.bool (values.bool true) ∷ words.freeze 1 ∷ words.set 0 (codes "on") 2 ∷ words.thaw 1 ∷ words.return None ∷ [])
      ∷ [])
      ∷ [];
  places =
      object (codes "a") 2 None [] [] (attached (codes "go") None 0 false false None ∷ [])
      ∷ object (codes "b") 2 None [] [] []
      ∷ [];
  bindings =
      bind None 0 0 1 0 7 0
      ∷ [];
  most_objects = 64;
  most_handlers = 0;
}

abbrev pub lines : List (List ℕ)
lines =
    (codes "depth 4")
    ∷ (codes "build bound 68")
    ∷ (codes "property a.on rank 1 bound 67")
    ∷ (codes "signal a.go rank 0 bound 77")
    ∷ (codes "property b.on rank 1 bound 67")
    ∷ (codes "signal b.go rank 0 bound 65")
    ∷ []

-- the definition is accepted, with this report
abbrev pub Holds : Type 0
Holds = verdict definition ≡ accepted lines
