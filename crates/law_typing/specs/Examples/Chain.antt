-- A chain of handlers, each of which sets the next property twice: costs double at each.
use Rattle.std.specs.Prelude.{◌≡◌, ℕ, pos, negsuc, false, List, [], ◌∷◌, codes, None, Some}
use Rattle.ui_machine.specs.Definition.Kinds as kinds
use Rattle.ui_machine.specs.Definition.Values as values
use Rattle.ui_machine.specs.Definition.Types.{plain_class}
use Rattle.ui_machine.specs.Definition.{Definition}
use Rattle.ui_machine.specs.Definition.Programs as words
use Rattle.law_typing.specs.Verdict.{verdict, accepted}
use Rattle.ui_machine.specs.Words.{class_type, property, notify, class_with, block, program, attached, object}

abbrev pub definition : Definition
definition = record {
  types =
      plain_class (codes "GObject") None []
      ∷ class_type (codes "GInitiallyUnowned") 0 false false []
      ∷ class_type (codes "Box") 0 false false []
      ∷ [];
  classes =
      class_with [] (notify ∷ []) [] None None
      ∷ class_with [] (notify ∷ []) [] None None
      ∷ class_with (property (codes "p0") (kinds.whole kinds.int) 3 (values.whole kinds.int (pos 0)) (negsuc 2147483647)
      (pos 2147483647) false
      ∷ property (codes "p1") (kinds.whole kinds.int) 3 (values.whole kinds.int (pos 0)) (negsuc 2147483647) (pos 2147483647) false
      ∷ property (codes "p2") (kinds.whole kinds.int) 3 (values.whole kinds.int (pos 0)) (negsuc 2147483647) (pos 2147483647) false
      ∷ property (codes "p3") (kinds.whole kinds.int) 3 (values.whole kinds.int (pos 0)) (negsuc 2147483647)
      (pos 2147483647) false ∷ []) (notify ∷ []) [] None None
      ∷ [];
  shapes =
      [];
  programs =
      program (codes "g0") ((kinds.some 2) ∷ []) 2 None
      (block ((kinds.some 2) ∷ kinds.unset ∷ []) None (words.get 1 0 (codes "p0") ∷ words.set 0 (codes "p1") 1 ∷ words.set 0 (codes "p1") 1
      ∷ words.return None ∷ [])
      ∷ [])
      ∷ program (codes "g1") ((kinds.some 2) ∷ []) 2 None
      (block ((kinds.some 2) ∷ kinds.unset ∷ []) None (words.get 1 0 (codes "p1") ∷ words.set 0 (codes "p2") 1 ∷ words.set 0 (codes "p2") 1
      ∷ words.return None ∷ [])
      ∷ [])
      ∷ program (codes "g2") ((kinds.some 2) ∷ []) 2 None
      (block ((kinds.some 2) ∷ kinds.unset ∷ []) None (words.get 1 0 (codes "p2") ∷ words.set 0 (codes "p3") 1 ∷ words.set 0 (codes "p3") 1
      ∷ words.return None ∷ [])
      ∷ [])
      ∷ [];
  places =
      object (codes "b") 2 None [] [] (attached (codes "notify") (Some (codes "p0")) 0 false false None
      ∷ attached (codes "notify") (Some (codes "p1")) 1 false false None
      ∷ attached (codes "notify") (Some (codes "p2")) 2 false false None ∷ [])
      ∷ [];
  bindings =
      [];
  most_objects = 1;
  most_handlers = 0;
}

abbrev pub lines : List (List ℕ)
lines =
    (codes "depth 7")
    ∷ (codes "build bound 1")
    ∷ (codes "property b.p0 rank 0 bound 44")
    ∷ (codes "property b.p1 rank 1 bound 20")
    ∷ (codes "property b.p2 rank 2 bound 8")
    ∷ (codes "property b.p3 rank 3 bound 2")
    ∷ []

-- the definition is accepted, with this report
abbrev pub Holds : Type 0
Holds = verdict definition ≡ accepted lines
