-- A property that is bound both ways twice.
use Rattle.std.specs.Prelude.{◌≡◌, pos, negsuc, false, [], ◌∷◌, codes, None}
use Rattle.ui_machine.specs.Definition.Kinds as kinds
use Rattle.ui_machine.specs.Definition.Values as values
use Rattle.ui_machine.specs.Definition.Types.{plain_class}
use Rattle.ui_machine.specs.Definition.{Definition}
use Rattle.law_typing.specs.Rules.Faults as faults
use Rattle.law_typing.specs.Verdict.{verdict, refused}
use Rattle.ui_machine.specs.Words.{class_type, property, notify, class_with, object, bind}

abbrev pub definition : Definition
definition = record {
  types =
      plain_class (codes "GObject") None []
      ∷ class_type (codes "GInitiallyUnowned") 0 false false []
      ∷ class_type (codes "Knob") 0 false false []
      ∷ [];
  classes =
      class_with [] (notify ∷ []) [] None None
      ∷ class_with [] (notify ∷ []) [] None None
      ∷ class_with (property (codes "value") (kinds.whole kinds.int) 3 (values.whole kinds.int (pos 0)) (negsuc 2147483647)
      (pos 2147483647) false ∷ property (codes "on") kinds.bool 3 (values.bool false) (pos 0) (pos 0) false ∷ [])
      (notify ∷ []) [] None None
      ∷ [];
  shapes =
      [];
  programs =
      [];
  places =
      object (codes "a") 2 None [] [] []
      ∷ object (codes "b") 2 None [] [] []
      ∷ object (codes "c") 2 None [] [] []
      ∷ [];
  bindings =
      bind None 0 1 1 1 1 0
      ∷ bind None 0 1 2 1 1 0
      ∷ [];
  most_objects = 64;
  most_handlers = 0;
}

-- the definition is refused
abbrev pub Holds : Type 0
Holds = verdict definition ≡ refused (faults.second_pair 1)
