-- The first fault of a definition, rule by rule.
use Rattle.std.specs.Prelude.{◌≡◌, List, Option, None, Some, slice_get}
use Rattle.ui_machine.specs.Definition.{Definition}
use Rattle.law_typing.specs.Rules.Faults.{Fault}
use Rattle.law_typing.specs.Rules.Sites.{typing_faults}
use Rattle.law_typing.specs.Rules.Handlers.{handler_faults}
use Rattle.law_typing.specs.Rules.BindingRules.{binding_faults, pair_faults}
use Rattle.law_typing.specs.Rules.Brackets.{bracket_faults}
use Rattle.law_typing.specs.Verdict.{local_faults}
use Rattle.law_typing.specs.Verdict.Judges.{Judges}

-- the first of some faults, if there is one
abbrev pub first_of : List Fault → Option Fault
first_of faults = slice_get faults 0

-- the first, or else the second
abbrev pub or_else : Option Fault → Option Fault → Option Fault
or_else None other = other
or_else (Some fault) other = Some fault

-- the first fault of a definition but for cycles and bounds: of its instructions, handlers, bindings, pairs, and freezes and thaws
abbrev pub first_fault : Definition → Option Fault
first_fault d =
    or_else (first_of (typing_faults d))
    (or_else (first_of (handler_faults d))
    (or_else (first_of (binding_faults d)) (or_else (first_of (pair_faults d)) (first_of (bracket_faults d)))))

-- it is the first of all of them
abbrev pub FaultsInOrder : Type 0
FaultsInOrder = (d : Definition) → first_of (local_faults d) ≡ first_fault d

-- and it is the answer
abbrev pub FirstIsTold : Type 0
FirstIsTold = (d : Definition) (fault : Fault) → first_fault d ≡ Some fault → Judges d (Some fault)
