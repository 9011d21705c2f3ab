-- A class handler at two stages, a program at the construction, and a handler that it connects.
use Rattle.std.specs.Prelude.{◌≡◌, ℕ, pos, negsuc, false, List, [], ◌∷◌, codes, None, Some}
use Rattle.ui_machine.specs.Definition.Kinds as kinds
use Rattle.ui_machine.specs.Definition.Values as values
use Rattle.ui_machine.specs.Definition.Types.{plain_class}
use Rattle.ui_machine.specs.Definition.{Definition}
use Rattle.ui_machine.specs.Definition.Programs as words
use Rattle.law_typing.specs.Verdict.{verdict, accepted}
use Rattle.ui_machine.specs.Words.{class_type, property, signal, notify, class_handler, class_with, block, program, object, connects}

abbrev pub definition : Definition
definition = record {
  types =
      plain_class (codes "GObject") None []
      ∷ class_type (codes "GInitiallyUnowned") 0 false false []
      ∷ class_type (codes "Knob") 0 false false []
      ∷ [];
  classes =
      class_with [] (notify ∷ []) [] None None
      ∷ class_with [] (notify ∷ []) [] None None
      ∷ class_with (property (codes "value") (kinds.whole kinds.int) 3 (values.whole kinds.int (pos 0)) (negsuc 2147483647)
      (pos 2147483647) false ∷ []) (notify ∷ signal (codes "turned") [] None 5 None ∷ []) (class_handler (codes "turned") 0 ∷ [])
      (Some 1) None
      ∷ [];
  shapes =
      [];
  programs =
      program (codes "bump") ((kinds.some 2) ∷ []) 2 None
      (block ((kinds.some 2) ∷ kinds.unset ∷ []) None (words.const 1 (kinds.whole kinds.int) (values.whole kinds.int (pos 1))
      ∷ words.set 0 (codes "value") 1 ∷ words.return None ∷ [])
      ∷ [])
      ∷ program (codes "begin") ((kinds.some 2) ∷ []) 2 None
      (block ((kinds.some 2) ∷ kinds.unset ∷ []) None
      (words.connect 1 0 (connects (codes "turned") None (codes "rest") false false None) ∷ words.return None ∷ [])
      ∷ [])
      ∷ program (codes "rest") ((kinds.some 2) ∷ []) 1 None
      (block ((kinds.some 2) ∷ []) None (words.return None ∷ [])
      ∷ [])
      ∷ [];
  places =
      object (codes "k") 2 None [] [] []
      ∷ [];
  bindings =
      [];
  most_objects = 1;
  most_handlers = 2;
}

abbrev pub lines : List (List ℕ)
lines =
    (codes "depth 3")
    ∷ (codes "build bound 3")
    ∷ (codes "constructed k rank 0 bound 3")
    ∷ (codes "property k.value rank 1 bound 2")
    ∷ (codes "signal k.turned rank 0 bound 12")
    ∷ []

-- the definition is accepted, with this report
abbrev pub Holds : Type 0
Holds = verdict definition ≡ accepted lines
