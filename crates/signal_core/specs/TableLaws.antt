-- What a type has of the signals of the types that it is.
use Rattle.std.specs.Prelude.{Contains, List, Some, true, ℕ, ◌≡◌}
use Rattle.ui_machine.specs.Definition.Signals.{Signal}
use Rattle.ui_machine.specs.Definition.Types.{GType}
use Rattle.ui_machine.specs.Prefix.{IsPrefix}
use Rattle.ui_machine.specs.Rules.Ancestry.{is_a, parent_of}
use Rattle.type_tree.specs.Tree.{IsTree}
use Rattle.signal_core.specs.Sources.{own_of, signals_of}

-- the signals of a parent come first, so that their numbers are the same
abbrev pub AncestorsComeFirst : Type 0
AncestorsComeFirst = (types : List GType) → IsTree types → (signals : List (List Signal)) (t p : ℕ) → parent_of types t ≡ Some p →
    IsPrefix (signals_of types signals p) (signals_of types signals t)

-- what was declared for a type, an ancestor or an interface, each type has that is one
abbrev pub SignalsAreInherited : Type 0
SignalsAreInherited = (types : List GType) (signals : List (List Signal)) (t above : ℕ) → is_a types t above ≡ true →
    (s : Signal) → Contains (own_of signals above) s → Contains (signals_of types signals t) s
