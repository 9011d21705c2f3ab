-- A program that sets a property, a binding that leads on, a pair, and a prototype.
use Rattle.std.specs.Prelude.{◌≡◌, ℕ, pos, negsuc, false, List, [], ◌∷◌, codes, None, Some}
use Rattle.ui_machine.specs.Definition.Kinds as kinds
use Rattle.ui_machine.specs.Definition.Values as values
use Rattle.ui_machine.specs.Definition.Types.{plain_class}
use Rattle.ui_machine.specs.Definition.{Definition}
use Rattle.ui_machine.specs.Definition.Places.{value}
use Rattle.ui_machine.specs.Definition.Programs as words
use Rattle.law_typing.specs.Verdict.{verdict, accepted}
use Rattle.ui_machine.specs.Words.{class_type, property, signal, notify, class_with, block, program, gives, attached, object, prototype, bind}

abbrev pub definition : Definition
definition = record {
  types =
      plain_class (codes "GObject") None []
      ∷ class_type (codes "GInitiallyUnowned") 0 false false []
      ∷ class_type (codes "Knob") 0 false false []
      ∷ [];
  classes =
      class_with [] (notify ∷ []) [] None None
      ∷ class_with [] (notify ∷ []) [] None None
      ∷ class_with (property (codes "value") (kinds.whole kinds.int) 3 (values.whole kinds.int (pos 0)) (negsuc 2147483647)
      (pos 2147483647) false ∷ property (codes "on") kinds.bool 3 (values.bool false) (pos 0) (pos 0) false ∷ []) (notify
      ∷ signal (codes "turned") [] None 2 None ∷ []) [] None None
      ∷ [];
  shapes =
      [];
  programs =
      program (codes "copy") ((kinds.at 0) ∷ []) 3 None
      (block ((kinds.at 0) ∷ kinds.unset ∷ kinds.unset ∷ []) None (words.object 1 (codes "b") ∷ words.branch_null 1 1 2 ∷ [])
      ∷ block (kinds.unset ∷ kinds.unset ∷ kinds.unset ∷ []) None (words.return None ∷ [])
      ∷ block ((kinds.at 0) ∷ (kinds.at 1) ∷ kinds.unset ∷ []) None (words.get 2 0 (codes "value") ∷ words.set 1 (codes "value") 2
      ∷ words.return None ∷ [])
      ∷ [])
      ∷ program (codes "make") ((kinds.at 0) ∷ []) 2 None
      (block ((kinds.at 0) ∷ kinds.unset ∷ []) None (words.new 1 (codes "spare") ∷ words.return None ∷ [])
      ∷ [])
      ∷ [];
  places =
      object (codes "a") 2 None [] [] (attached (codes "notify") (Some (codes "value")) 0 false false None
      ∷ attached (codes "turned") None 1 false false None ∷ [])
      ∷ object (codes "b") 2 None [] [] []
      ∷ object (codes "c") 2 None [] [] []
      ∷ prototype (codes "spare") 2 (gives 0 (value (values.whole kinds.int (pos 1))) ∷ []) []
      ∷ [];
  bindings =
      bind None 0 1 1 1 3 0
      ∷ bind None 1 0 2 0 0 0
      ∷ [];
  most_objects = 4;
  most_handlers = 1;
}

abbrev pub lines : List (List ℕ)
lines =
    (codes "depth 4")
    ∷ (codes "build bound 8")
    ∷ (codes "property a.value rank 0 bound 13")
    ∷ (codes "property a.on rank 0 bound 7")
    ∷ (codes "signal a.turned rank 0 bound 9")
    ∷ (codes "property b.value rank 1 bound 7")
    ∷ (codes "property b.on rank 0 bound 7")
    ∷ (codes "signal b.turned rank 0 bound 5")
    ∷ (codes "property c.value rank 2 bound 5")
    ∷ (codes "property c.on rank 0 bound 5")
    ∷ (codes "signal c.turned rank 0 bound 5")
    ∷ (codes "property spare.value rank 1 bound 5")
    ∷ (codes "property spare.on rank 0 bound 5")
    ∷ (codes "signal spare.turned rank 0 bound 5")
    ∷ []

-- the definition is accepted, with this report
abbrev pub Holds : Type 0
Holds = verdict definition ≡ accepted lines
