-- A class whose handler does not take what it is given.
use Rattle.std.specs.Prelude.{◌≡◌, false, [], ◌∷◌, codes, None}
use Rattle.ui_machine.specs.Definition.Types.{plain_class}
use Rattle.ui_machine.specs.Definition.{Definition}
use Rattle.ui_machine.specs.Words.{interface_type, class_type, signal, notify, class_handler, class_with, block, program}
use Rattle.law_typing.specs.Verdict.{verdict, refused}
use Rattle.ui_machine.specs.Definition.Kinds as kinds
use Rattle.ui_machine.specs.Definition.Programs as words
use Rattle.law_typing.specs.Rules.Faults as faults

abbrev pub definition : Definition
definition = record {
  types =
      plain_class (codes "GObject") None []
      ∷ class_type (codes "GInitiallyUnowned") 0 false false []
      ∷ interface_type (codes "Can") []
      ∷ class_type (codes "Box") 0 false false []
      ∷ class_type (codes "Bin") 0 false false []
      ∷ [];
  classes =
      class_with [] (notify ∷ []) [] None None
      ∷ class_with [] (notify ∷ []) [] None None
      ∷ class_with [] (notify ∷ []) [] None None
      ∷ class_with [] (notify ∷ []) [] None None
      ∷ class_with [] (notify ∷ signal (codes "go") [] None 2 None ∷ []) (class_handler (codes "go") 0 ∷ []) None None
      ∷ [];
  shapes =
      [];
  programs =
      program (codes "f") ((kinds.some 3) ∷ (kinds.plain (kinds.whole kinds.int)) ∷ []) 2 None
      (block ((kinds.some 3) ∷ (kinds.plain (kinds.whole kinds.int)) ∷ []) None (words.return None ∷ [])
      ∷ [])
      ∷ [];
  places =
      [];
  bindings =
      [];
  most_objects = 64;
  most_handlers = 0;
}

-- the definition is refused
abbrev pub Holds : Type 0
Holds = verdict definition ≡ refused (faults.handler_signature (faults.class_handler 4 0))
