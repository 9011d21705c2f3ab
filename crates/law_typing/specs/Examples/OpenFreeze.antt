-- A freeze without its thaw.
use Rattle.std.specs.Prelude.{◌≡◌, false, [], ◌∷◌, codes, None}
use Rattle.ui_machine.specs.Definition.Kinds as kinds
use Rattle.ui_machine.specs.Definition.Types.{plain_class}
use Rattle.ui_machine.specs.Definition.{Definition}
use Rattle.ui_machine.specs.Definition.Programs as words
use Rattle.law_typing.specs.Rules.Faults as faults
use Rattle.law_typing.specs.Verdict.{verdict, refused}
use Rattle.ui_machine.specs.Words.{class_type, notify, class_with, block, program, object}

abbrev pub definition : Definition
definition = record {
  types =
      plain_class (codes "GObject") None []
      ∷ class_type (codes "GInitiallyUnowned") 0 false false []
      ∷ class_type (codes "Box") 0 false false []
      ∷ [];
  classes =
      class_with [] (notify ∷ []) [] None None
      ∷ class_with [] (notify ∷ []) [] None None
      ∷ class_with [] (notify ∷ []) [] None None
      ∷ [];
  shapes =
      [];
  programs =
      program (codes "f") ((kinds.some 2) ∷ []) 1 None
      (block ((kinds.some 2) ∷ []) None (words.freeze 0 ∷ words.return None ∷ [])
      ∷ [])
      ∷ [];
  places =
      object (codes "b") 2 None [] [] []
      ∷ [];
  bindings =
      [];
  most_objects = 64;
  most_handlers = 0;
}

-- the definition is refused
abbrev pub Holds : Type 0
Holds = verdict definition ≡ refused (faults.unbalanced 0 0)
