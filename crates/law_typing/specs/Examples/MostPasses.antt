-- A block that is passed as often as one may be.
use Rattle.std.specs.Prelude.{◌≡◌, ℕ, pos, negsuc, false, List, [], ◌∷◌, codes, None, Some}
use Rattle.ui_machine.specs.Definition.Types.{plain_class}
use Rattle.ui_machine.specs.Definition.{Definition}
use Rattle.ui_machine.specs.Words.{class_type, property, signal, notify, class_with, block, program, attached, object}
use Rattle.law_typing.specs.Verdict.{verdict, accepted}
use Rattle.ui_machine.specs.Definition.Kinds as kinds
use Rattle.ui_machine.specs.Definition.Values as values
use Rattle.ui_machine.specs.Definition.Programs as words

abbrev pub definition : Definition
definition = record {
  types =
      plain_class (codes "GObject") None []
      ∷ class_type (codes "GInitiallyUnowned") 0 false false []
      ∷ class_type (codes "Box") 0 false false []
      ∷ [];
  classes =
      class_with [] (notify ∷ []) [] None None
      ∷ class_with [] (notify ∷ []) [] None None
      ∷ class_with (property (codes "n") (kinds.whole kinds.int) 3 (values.whole kinds.int (pos 0)) (negsuc 2147483647) (pos 2147483647) false ∷ []) (notify ∷ signal (codes "go") [] None 2 None ∷ []) [] None None
      ∷ [];
  shapes =
      [];
  programs =
      program (codes "f") ((kinds.some 2) ∷ []) 3 None
      (block ((kinds.some 2) ∷ kinds.unset ∷ kinds.unset ∷ []) None (words.const 1 (kinds.whole kinds.int) (values.whole kinds.int (pos 1)) ∷ words.const 2 (kinds.whole kinds.int) (values.whole kinds.int (pos 0)) ∷ words.jump 1 ∷ [])
      ∷ block ((kinds.some 2) ∷ (kinds.plain (kinds.whole kinds.int)) ∷ (kinds.plain (kinds.whole kinds.int)) ∷ []) (Some 65535) (words.arithmetic words.add 2 2 1 ∷ words.set 0 (codes "n") 2 ∷ words.jump 2 ∷ [])
      ∷ block ((kinds.some 2) ∷ kinds.unset ∷ kinds.unset ∷ []) None (words.return None ∷ [])
      ∷ [])
      ∷ [];
  places =
      object (codes "b") 2 None [] [] (attached (codes "go") None 0 false false None ∷ [])
      ∷ [];
  bindings =
      [];
  most_objects = 64;
  most_handlers = 0;
}

abbrev pub lines : List (List ℕ)
lines =
    (codes "depth 3")
    ∷ (codes "build bound 64")
    ∷ (codes "property b.n rank 1 bound 65")
    ∷ (codes "signal b.go rank 0 bound 196675")
    ∷ []

-- the definition is accepted, with this report
abbrev pub Holds : Type 0
Holds = verdict definition ≡ accepted lines
