-- A chain of handlers whose costs grow sixteenfold at each.
use Rattle.std.specs.Prelude.{◌≡◌, pos, negsuc, false, [], ◌∷◌, codes, None, Some}
use Rattle.ui_machine.specs.Definition.Kinds as kinds
use Rattle.ui_machine.specs.Definition.Values as values
use Rattle.ui_machine.specs.Definition.Types.{plain_class}
use Rattle.ui_machine.specs.Definition.{Definition}
use Rattle.ui_machine.specs.Definition.Programs as words
use Rattle.law_typing.specs.Graph.Channels as channels
use Rattle.law_typing.specs.Rules.Faults as faults
use Rattle.law_typing.specs.Verdict.{verdict, refused}
use Rattle.ui_machine.specs.Words.{class_type, property, notify, class_with, block, program, attached, object}

abbrev pub definition : Definition
definition = record {
  types =
      plain_class (codes "GObject") None []
      ∷ class_type (codes "GInitiallyUnowned") 0 false false []
      ∷ class_type (codes "Box") 0 false false []
      ∷ [];
  classes =
      class_with [] (notify ∷ []) [] None None
      ∷ class_with [] (notify ∷ []) [] None None
      ∷ class_with (property (codes "p0") (kinds.whole kinds.int) 3 (values.whole kinds.int (pos 0)) (negsuc 2147483647)
      (pos 2147483647) false
      ∷ property (codes "p1") (kinds.whole kinds.int) 3 (values.whole kinds.int (pos 0)) (negsuc 2147483647) (pos 2147483647) false
      ∷ property (codes "p2") (kinds.whole kinds.int) 3 (values.whole kinds.int (pos 0)) (negsuc 2147483647) (pos 2147483647) false
      ∷ property (codes "p3") (kinds.whole kinds.int) 3 (values.whole kinds.int (pos 0)) (negsuc 2147483647) (pos 2147483647) false
      ∷ property (codes "p4") (kinds.whole kinds.int) 3 (values.whole kinds.int (pos 0)) (negsuc 2147483647) (pos 2147483647) false
      ∷ property (codes "p5") (kinds.whole kinds.int) 3 (values.whole kinds.int (pos 0)) (negsuc 2147483647) (pos 2147483647) false
      ∷ property (codes "p6") (kinds.whole kinds.int) 3 (values.whole kinds.int (pos 0)) (negsuc 2147483647) (pos 2147483647) false
      ∷ property (codes "p7") (kinds.whole kinds.int) 3 (values.whole kinds.int (pos 0)) (negsuc 2147483647) (pos 2147483647) false
      ∷ property (codes "p8") (kinds.whole kinds.int) 3 (values.whole kinds.int (pos 0)) (negsuc 2147483647) (pos 2147483647) false
      ∷ property (codes "p9") (kinds.whole kinds.int) 3 (values.whole kinds.int (pos 0)) (negsuc 2147483647) (pos 2147483647) false
      ∷ property (codes "p10") (kinds.whole kinds.int) 3 (values.whole kinds.int (pos 0)) (negsuc 2147483647)
      (pos 2147483647) false ∷ []) (notify ∷ []) [] None None
      ∷ [];
  shapes =
      [];
  programs =
      program (codes "g0") ((kinds.some 2) ∷ []) 2 None
      (block ((kinds.some 2) ∷ kinds.unset ∷ []) None (words.get 1 0 (codes "p0") ∷ words.set 0 (codes "p1") 1 ∷ words.set 0 (codes "p1") 1
      ∷ words.set 0 (codes "p1") 1 ∷ words.set 0 (codes "p1") 1 ∷ words.return None ∷ [])
      ∷ [])
      ∷ program (codes "g1") ((kinds.some 2) ∷ []) 2 None
      (block ((kinds.some 2) ∷ kinds.unset ∷ []) None (words.get 1 0 (codes "p1") ∷ words.set 0 (codes "p2") 1 ∷ words.set 0 (codes "p2") 1
      ∷ words.set 0 (codes "p2") 1 ∷ words.set 0 (codes "p2") 1 ∷ words.return None ∷ [])
      ∷ [])
      ∷ program (codes "g2") ((kinds.some 2) ∷ []) 2 None
      (block ((kinds.some 2) ∷ kinds.unset ∷ []) None (words.get 1 0 (codes "p2") ∷ words.set 0 (codes "p3") 1 ∷ words.set 0 (codes "p3") 1
      ∷ words.set 0 (codes "p3") 1 ∷ words.set 0 (codes "p3") 1 ∷ words.return None ∷ [])
      ∷ [])
      ∷ program (codes "g3") ((kinds.some 2) ∷ []) 2 None
      (block ((kinds.some 2) ∷ kinds.unset ∷ []) None (words.get 1 0 (codes "p3") ∷ words.set 0 (codes "p4") 1 ∷ words.set 0 (codes "p4") 1
      ∷ words.set 0 (codes "p4") 1 ∷ words.set 0 (codes "p4") 1 ∷ words.return None ∷ [])
      ∷ [])
      ∷ program (codes "g4") ((kinds.some 2) ∷ []) 2 None
      (block ((kinds.some 2) ∷ kinds.unset ∷ []) None (words.get 1 0 (codes "p4") ∷ words.set 0 (codes "p5") 1 ∷ words.set 0 (codes "p5") 1
      ∷ words.set 0 (codes "p5") 1 ∷ words.set 0 (codes "p5") 1 ∷ words.return None ∷ [])
      ∷ [])
      ∷ program (codes "g5") ((kinds.some 2) ∷ []) 2 None
      (block ((kinds.some 2) ∷ kinds.unset ∷ []) None (words.get 1 0 (codes "p5") ∷ words.set 0 (codes "p6") 1 ∷ words.set 0 (codes "p6") 1
      ∷ words.set 0 (codes "p6") 1 ∷ words.set 0 (codes "p6") 1 ∷ words.return None ∷ [])
      ∷ [])
      ∷ program (codes "g6") ((kinds.some 2) ∷ []) 2 None
      (block ((kinds.some 2) ∷ kinds.unset ∷ []) None (words.get 1 0 (codes "p6") ∷ words.set 0 (codes "p7") 1 ∷ words.set 0 (codes "p7") 1
      ∷ words.set 0 (codes "p7") 1 ∷ words.set 0 (codes "p7") 1 ∷ words.return None ∷ [])
      ∷ [])
      ∷ program (codes "g7") ((kinds.some 2) ∷ []) 2 None
      (block ((kinds.some 2) ∷ kinds.unset ∷ []) None (words.get 1 0 (codes "p7") ∷ words.set 0 (codes "p8") 1 ∷ words.set 0 (codes "p8") 1
      ∷ words.set 0 (codes "p8") 1 ∷ words.set 0 (codes "p8") 1 ∷ words.return None ∷ [])
      ∷ [])
      ∷ program (codes "g8") ((kinds.some 2) ∷ []) 2 None
      (block ((kinds.some 2) ∷ kinds.unset ∷ []) None (words.get 1 0 (codes "p8") ∷ words.set 0 (codes "p9") 1 ∷ words.set 0 (codes "p9") 1
      ∷ words.set 0 (codes "p9") 1 ∷ words.set 0 (codes "p9") 1 ∷ words.return None ∷ [])
      ∷ [])
      ∷ program (codes "g9") ((kinds.some 2) ∷ []) 2 None
      (block ((kinds.some 2) ∷ kinds.unset ∷ []) None (words.get 1 0 (codes "p9") ∷ words.set 0 (codes "p10") 1
      ∷ words.set 0 (codes "p10") 1 ∷ words.set 0 (codes "p10") 1 ∷ words.set 0 (codes "p10") 1 ∷ words.return None ∷ [])
      ∷ [])
      ∷ [];
  places =
      object (codes "b") 2 None [] [] (attached (codes "notify") (Some (codes "p0")) 0 false false None
      ∷ attached (codes "notify") (Some (codes "p0")) 0 false false None
      ∷ attached (codes "notify") (Some (codes "p0")) 0 false false None
      ∷ attached (codes "notify") (Some (codes "p0")) 0 false false None
      ∷ attached (codes "notify") (Some (codes "p1")) 1 false false None
      ∷ attached (codes "notify") (Some (codes "p1")) 1 false false None
      ∷ attached (codes "notify") (Some (codes "p1")) 1 false false None
      ∷ attached (codes "notify") (Some (codes "p1")) 1 false false None
      ∷ attached (codes "notify") (Some (codes "p2")) 2 false false None
      ∷ attached (codes "notify") (Some (codes "p2")) 2 false false None
      ∷ attached (codes "notify") (Some (codes "p2")) 2 false false None
      ∷ attached (codes "notify") (Some (codes "p2")) 2 false false None
      ∷ attached (codes "notify") (Some (codes "p3")) 3 false false None
      ∷ attached (codes "notify") (Some (codes "p3")) 3 false false None
      ∷ attached (codes "notify") (Some (codes "p3")) 3 false false None
      ∷ attached (codes "notify") (Some (codes "p3")) 3 false false None
      ∷ attached (codes "notify") (Some (codes "p4")) 4 false false None
      ∷ attached (codes "notify") (Some (codes "p4")) 4 false false None
      ∷ attached (codes "notify") (Some (codes "p4")) 4 false false None
      ∷ attached (codes "notify") (Some (codes "p4")) 4 false false None
      ∷ attached (codes "notify") (Some (codes "p5")) 5 false false None
      ∷ attached (codes "notify") (Some (codes "p5")) 5 false false None
      ∷ attached (codes "notify") (Some (codes "p5")) 5 false false None
      ∷ attached (codes "notify") (Some (codes "p5")) 5 false false None
      ∷ attached (codes "notify") (Some (codes "p6")) 6 false false None
      ∷ attached (codes "notify") (Some (codes "p6")) 6 false false None
      ∷ attached (codes "notify") (Some (codes "p6")) 6 false false None
      ∷ attached (codes "notify") (Some (codes "p6")) 6 false false None
      ∷ attached (codes "notify") (Some (codes "p7")) 7 false false None
      ∷ attached (codes "notify") (Some (codes "p7")) 7 false false None
      ∷ attached (codes "notify") (Some (codes "p7")) 7 false false None
      ∷ attached (codes "notify") (Some (codes "p7")) 7 false false None
      ∷ attached (codes "notify") (Some (codes "p8")) 8 false false None
      ∷ attached (codes "notify") (Some (codes "p8")) 8 false false None
      ∷ attached (codes "notify") (Some (codes "p8")) 8 false false None
      ∷ attached (codes "notify") (Some (codes "p8")) 8 false false None
      ∷ attached (codes "notify") (Some (codes "p9")) 9 false false None
      ∷ attached (codes "notify") (Some (codes "p9")) 9 false false None
      ∷ attached (codes "notify") (Some (codes "p9")) 9 false false None
      ∷ attached (codes "notify") (Some (codes "p9")) 9 false false None ∷ [])
      ∷ [];
  bindings =
      [];
  most_objects = 1;
  most_handlers = 0;
}

-- the definition is refused
abbrev pub Holds : Type 0
Holds = verdict definition ≡ refused (faults.bound_too_large (channels.at (channels.property 0 0)))
