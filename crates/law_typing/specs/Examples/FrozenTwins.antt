-- A frozen object with both ends of a pair: its thaw pays for the pair twice.
use Rattle.std.specs.Prelude.{◌≡◌, ℕ, pos, false, List, [], ◌∷◌, codes, None}
use Rattle.ui_machine.specs.Definition.Types.{plain_class}
use Rattle.ui_machine.specs.Definition.{Definition}
use Rattle.ui_machine.specs.Words.{class_type, property, signal, notify, class_with, block, program, attached, object, bind}
use Rattle.law_typing.specs.Verdict.{verdict, accepted}
use Rattle.ui_machine.specs.Definition.Kinds as kinds
use Rattle.ui_machine.specs.Definition.Values as values
use Rattle.ui_machine.specs.Definition.Programs as words

abbrev pub definition : Definition
definition = record {
  types =
      plain_class (codes "GObject") None []
      ∷ class_type (codes "GInitiallyUnowned") 0 false false []
      ∷ class_type (codes "Twin") 0 false false []
      ∷ [];
  classes =
      class_with [] (notify ∷ []) [] None None
      ∷ class_with [] (notify ∷ []) [] None None
      ∷ class_with (property (codes "x") kinds.bool 3 (values.bool false) (pos 0) (pos 0) false ∷ property (codes "y") kinds.bool 3 (values.bool false) (pos 0) (pos 0) false ∷ []) (notify ∷ signal (codes "go") [] None 2 None ∷ []) [] None None
      ∷ [];
  shapes =
      [];
  programs =
      program (codes "f") ((kinds.some 2) ∷ []) 1 None
      (block ((kinds.some 2) ∷ []) None (words.freeze 0 ∷ words.thaw 0 ∷ words.return None ∷ [])
      ∷ [])
      ∷ [];
  places =
      object (codes "t") 2 None [] [] (attached (codes "go") None 0 false false None ∷ [])
      ∷ [];
  bindings =
      bind None 0 0 0 1 1 0
      ∷ [];
  most_objects = 64;
  most_handlers = 0;
}

abbrev pub lines : List (List ℕ)
lines =
    (codes "depth 4")
    ∷ (codes "build bound 64")
    ∷ (codes "property t.x rank 1 bound 67")
    ∷ (codes "property t.y rank 1 bound 67")
    ∷ (codes "signal t.go rank 0 bound 74")
    ∷ []

-- the definition is accepted, with this report
abbrev pub Holds : Type 0
Holds = verdict definition ≡ accepted lines
