-- What is what: ancestors and implemented interfaces (GObject manual, type system: g_type_is_a).
use Rattle.std.specs.Prelude.{ℕ, zero, suc, Bool, ◌||◌, nat_eq, List, [], ◌∷◌, length, Option, None, Some}
use Rattle.std.specs.List.{list_any}
use Rattle.ui_machine.specs.Seq.{read}
use Rattle.ui_machine.specs.Definition.Types.{GType, Sort, class, interface, enum, flags}
use Rattle.ui_machine.specs.Output.Text.{no_type}

-- the parent of a type
abbrev pub parent_of : List GType → ℕ → Option ℕ
parent_of types t = (read no_type types t).parent

-- from a type on up to the root, so many at most
abbrev pub line_from : ℕ → List GType → Option ℕ → List ℕ
line_from zero types from = []
line_from (suc n) types None = []
line_from (suc n) types (Some t) = t ∷ line_from n types (parent_of types t)

-- a type and its ancestors, nearest first; a parent comes before its children, so the ancestors are no more than the types
abbrev pub lineage : List GType → ℕ → List ℕ
lineage types t = t ∷ line_from (length types) types (parent_of types t)

-- how deep a type lies below the root, which has depth 1
abbrev pub depth : List GType → ℕ → ℕ
depth types t = length (lineage types t)

-- what an entry of this sort implements; an interface implements nothing, it requires
abbrev pub implemented : Sort → List ℕ → List ℕ
implemented class interfaces = interfaces
implemented interface required = []
implemented enum _ = []
implemented flags _ = []

-- the interfaces that a class itself names
abbrev pub implemented_by : List GType → ℕ → List ℕ
implemented_by types t = implemented (read no_type types t).sort (read no_type types t).interfaces

-- whether a type is b, or itself implements it
abbrev pub is_or_implements : List GType → ℕ → ℕ → Bool
is_or_implements types b t = nat_eq t b || list_any (nat_eq b) (implemented_by types t)

-- whether b is a, an ancestor of a, or an interface that a or an ancestor implements
abbrev pub is_a : List GType → ℕ → ℕ → Bool
is_a types a b = list_any (is_or_implements types b) (lineage types a)
