-- A pair whose far end makes an object as it is notified. The construction of such an object, of which the build makes one as well, sets a
-- property that a binding leads on from.
use Rattle.std.specs.Prelude.{ℕ, pos, negsuc, false, List, [], ◌∷◌, codes, None, Some}
use Rattle.ui_machine.specs.Definition.Kinds as kinds
use Rattle.ui_machine.specs.Definition.Values as values
use Rattle.ui_machine.specs.Definition.Types.{plain_class}
use Rattle.ui_machine.specs.Definition.{Definition}
use Rattle.ui_machine.specs.Definition.Properties.{Spec}
use Rattle.ui_machine.specs.Definition.Programs.{Program}
use Rattle.ui_machine.specs.Definition.Programs as words
use Rattle.ui_machine.specs.Words.{class_type, property, notify, bare, class_with, block, program, attached, object, prototype, bind}

-- the properties of a knob
abbrev pub on : Spec
on = property (codes "on") kinds.bool 3 (values.bool false) (pos 0) (pos 0) false

abbrev pub amount : Spec
amount = property (codes "amount") (kinds.whole kinds.int) 3 (values.whole kinds.int (pos 0)) (negsuc 2147483647) (pos 2147483647) false

-- as a spare is constructed it sets the amount of `b`, if there is a `b`
abbrev pub start : Program
start =
    program (codes "start") (kinds.some 3 ∷ []) 3 None
    (block (kinds.some 3 ∷ kinds.unset ∷ kinds.unset ∷ []) None (words.object 1 (codes "b") ∷ words.branch_null 1 1 2 ∷ [])
    ∷ block (kinds.unset ∷ kinds.unset ∷ kinds.unset ∷ []) None (words.return None ∷ [])
    ∷ block (kinds.some 3 ∷ kinds.at 1 ∷ kinds.unset ∷ []) None
    (words.const 2 (kinds.whole kinds.int) (values.whole kinds.int (pos 5)) ∷ words.set 1 (codes "amount") 2 ∷ words.return None ∷ [])
    ∷ [])

-- as `b` is switched on it makes a spare
abbrev pub make : Program
make =
    program (codes "make") (kinds.at 1 ∷ []) 2 None
    (block (kinds.at 1 ∷ kinds.unset ∷ []) None (words.new 1 (codes "spare") ∷ words.return None ∷ []) ∷ [])

-- the switches of `a` and `b` are bound both ways, and the amount of `b` leads on to that of `c`
abbrev pub definition : Definition
definition = record {
  types =
      plain_class (codes "GObject") None []
      ∷ class_type (codes "GInitiallyUnowned") 0 false false []
      ∷ class_type (codes "Knob") 0 false false []
      ∷ class_type (codes "Spare") 0 false false []
      ∷ [];
  classes =
      bare
      ∷ bare
      ∷ class_with (on ∷ amount ∷ []) (notify ∷ []) [] None None
      ∷ class_with [] (notify ∷ []) [] (Some 0) None
      ∷ [];
  shapes =
      [];
  programs =
      start
      ∷ make
      ∷ [];
  places =
      object (codes "a") 2 None [] [] []
      ∷ object (codes "b") 2 None [] [] (attached (codes "notify") (Some (codes "on")) 1 false false None ∷ [])
      ∷ object (codes "c") 2 None [] [] []
      ∷ object (codes "d") 3 (Some 2) [] [] []
      ∷ prototype (codes "spare") 3 [] []
      ∷ [];
  bindings =
      bind None 0 0 1 0 1 0
      ∷ bind None 1 1 2 1 0 0
      ∷ [];
  most_objects = 5;
  most_handlers = 1;
}

-- the lines of its report
abbrev pub told : List (List ℕ)
told =
    codes "depth 7"
    ∷ codes "build bound 13"
    ∷ codes "property a.on rank 0 bound 19"
    ∷ codes "property a.amount rank 0 bound 6"
    ∷ codes "property b.on rank 0 bound 19"
    ∷ codes "property b.amount rank 2 bound 8"
    ∷ codes "property c.on rank 0 bound 6"
    ∷ codes "property c.amount rank 3 bound 6"
    ∷ codes "constructed d rank 0 bound 13"
    ∷ codes "constructed spare rank 1 bound 13"
    ∷ []
