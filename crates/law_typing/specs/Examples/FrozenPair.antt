-- A program that freezes an object with a paired property.
use Rattle.std.specs.Prelude.{◌≡◌, ℕ, pos, false, List, [], ◌∷◌, codes, None}
use Rattle.ui_machine.specs.Definition.Types.{plain_class}
use Rattle.ui_machine.specs.Definition.{Definition}
use Rattle.ui_machine.specs.Words.{class_type, property, notify, class_with, block, program, object, bind}
use Rattle.law_typing.specs.Verdict.{verdict, accepted}
use Rattle.ui_machine.specs.Definition.Kinds as kinds
use Rattle.ui_machine.specs.Definition.Values as values
use Rattle.ui_machine.specs.Definition.Programs as words

abbrev pub definition : Definition
definition = record {
  types =
      plain_class (codes "GObject") None []
      ∷ class_type (codes "GInitiallyUnowned") 0 false false []
      ∷ class_type (codes "Switch") 0 false false []
      ∷ [];
  classes =
      class_with [] (notify ∷ []) [] None None
      ∷ class_with [] (notify ∷ []) [] None None
      ∷ class_with (property (codes "on") kinds.bool 3 (values.bool false) (pos 0) (pos 0) false ∷ []) (notify ∷ []) [] None None
      ∷ [];
  shapes =
      [];
  programs =
      program (codes "f") ((kinds.some 2) ∷ []) 1 None
      (block ((kinds.some 2) ∷ []) None (words.freeze 0 ∷ words.thaw 0 ∷ words.return None ∷ [])
      ∷ [])
      ∷ [];
  places =
      object (codes "a") 2 None [] [] []
      ∷ object (codes "b") 2 None [] [] []
      ∷ [];
  bindings =
      bind None 0 0 1 0 7 0
      ∷ [];
  most_objects = 64;
  most_handlers = 0;
}

abbrev pub lines : List (List ℕ)
lines =
    (codes "depth 3")
    ∷ (codes "build bound 68")
    ∷ (codes "property a.on rank 0 bound 67")
    ∷ (codes "property b.on rank 0 bound 67")
    ∷ []

-- the definition is accepted, with this report
abbrev pub Holds : Type 0
Holds = verdict definition ≡ accepted lines
