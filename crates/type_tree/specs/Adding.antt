-- Which types are added to a tree, and why not: each fault is that of the first test that fails (GObject manual, GType: g_type_register_static
-- and g_type_add_interface_static).
use Rattle.std.specs.Prelude.{◌≡◌, ℕ, Bool, true, false, cond, not, ◌||◌, nat_eq, nat_le, List, [], ◌∷◌, ◌++◌, length, Option, None, Some, is_some, Result, Ok, Err}
use Rattle.std.specs.List.{filter_map, find, flat_map, list_all, list_any}
use Rattle.ui_machine.specs.Seq.{read}
use Rattle.ui_machine.specs.Definition.Names.{place_named}
use Rattle.ui_machine.specs.Definition.Types.{GType, Member}
use Rattle.ui_machine.specs.Definition.Types as sorts
use Rattle.ui_machine.specs.Output.Text.{no_type}
use Rattle.ui_machine.specs.Rules.Ancestry.{is_a, depth}
use Rattle.type_tree.specs.declared.error.TypeFault.{TypeFault}
use Rattle.type_tree.specs.declared.error.TypeError.{TypeError}
use Rattle.type_tree.specs.declared.error.TypeFault.TheVariants.{BadName, Duplicate, UnknownParent, FinalParent, Prerequisite, Limit}
use Rattle.type_tree.specs.declared.error.TypeError.TheVariants.{OutOfMemory, Refused}
use Rattle.type_tree.specs.declared.error.TypeLimit.TheVariants.{Types, Depth}
use Rattle.type_tree.specs.declared.entry.TypeFlags.{TypeFlags}
use Rattle.type_tree.specs.Entry.{plain_type}
use Rattle.type_tree.specs.TypeName.{is_type_name}

-- ** types by name

-- the type of a name
abbrev pub find_type : List GType → List ℕ → Option ℕ
find_type types name = place_named (λ g. g.name) types name

abbrev pub sort_of : List GType → ℕ → sorts.Sort
sort_of types t = (read no_type types t).sort

abbrev pub is_class : sorts.Sort → Bool
is_class sorts.class = true
is_class sorts.interface = false
is_class sorts.enum = false
is_class sorts.flags = false

abbrev pub is_interface : sorts.Sort → Bool
is_interface sorts.class = false
is_interface sorts.interface = true
is_interface sorts.enum = false
is_interface sorts.flags = false

abbrev pub is_required_sort : sorts.Sort → Bool
is_required_sort sort = is_class sort || is_interface sort

-- the type, if it is of a sort that passes
abbrev pub of_sort : (sorts.Sort → Bool) → List GType → Option ℕ → Option ℕ
of_sort passes types None = None
of_sort passes types (Some t) = cond (passes (sort_of types t)) (Some t) None

abbrev pub class_named : List GType → List ℕ → Option ℕ
class_named types name = of_sort is_class types (find_type types name)

abbrev pub interface_named : List GType → List ℕ → Option ℕ
interface_named types name = of_sort is_interface types (find_type types name)

-- what an interface may require: a class or an interface
abbrev pub required_named : List GType → List ℕ → Option ℕ
required_named types name = of_sort is_required_sort types (find_type types name)

-- ** faults

abbrev pub fault_if : Bool → TypeFault → Option TypeFault
fault_if true fault = Some fault
fault_if false fault = None

infixr 20 ◌or_else◌
-- the first fault of two
abbrev pub ◌or_else◌ : Option TypeFault → Option TypeFault → Option TypeFault
(Some fault) or_else next = Some fault
None or_else next = next

abbrev pub name_fault : List GType → List ℕ → Option TypeFault
name_fault types name = fault_if (not (is_type_name name)) BadName or_else fault_if (is_some (find_type types name)) Duplicate

-- whether each name is of a type that serves
abbrev pub are_named : {A : Type 0} → (A → Option ℕ) → List A → Bool
are_named named names = list_all (λ name. is_some (named name)) names

-- what an interface requires
abbrev pub required_by : List GType → ℕ → List ℕ
required_by types i = (read no_type types i).interfaces

-- whether a class of this parent and these interfaces is the type
abbrev pub would_be : List GType → ℕ → List ℕ → ℕ → Bool
would_be types parent interfaces t = is_a types parent t || list_any (nat_eq t) interfaces

-- the first type that an interface requires and that a class of this parent and these interfaces is not
abbrev pub missing_of : List GType → ℕ → List ℕ → ℕ → Option ℕ
missing_of types parent interfaces i = find (λ t. not (would_be types parent interfaces t)) (required_by types i)

-- the first type that passes, of those that an interface requires
abbrev pub first_required : (ℕ → Bool) → (ℕ → List ℕ) → Option ℕ → Option ℕ
first_required passes required None = None
first_required passes required (Some i) = find passes (required i)

-- the first required type that a class of this parent and these interfaces is not
abbrev pub missing_type : List GType → ℕ → List ℕ → Option ℕ
missing_type types parent interfaces =
    find (λ t. not (would_be types parent interfaces t)) (flat_map (required_by types) interfaces)

abbrev pub prerequisite_fault : Option ℕ → Option TypeFault
prerequisite_fault None = None
prerequisite_fault (Some t) = Some (Prerequisite t)

abbrev pub room_fault : List GType → Option TypeFault
room_fault types = fault_if (nat_le 256 (length types)) (Limit Types)

-- what forbids a child of this parent with these interfaces, all of which are known or not
abbrev pub child_fault : List GType → ℕ → Bool → List ℕ → Option TypeFault
child_fault types parent known interfaces =
    fault_if (not known) UnknownParent
    or_else fault_if (read no_type types parent).is_final FinalParent
    or_else prerequisite_fault (missing_type types parent interfaces)
    or_else room_fault types
    or_else fault_if (nat_le 16 (depth types parent)) (Limit Depth)

abbrev pub parent_fault : List GType → Option ℕ → List (List ℕ) → Option TypeFault
parent_fault types None interfaces = Some UnknownParent
parent_fault types (Some parent) interfaces =
    child_fault types parent (are_named (interface_named types) interfaces) (filter_map (interface_named types) interfaces)

abbrev pub class_fault : List GType → List ℕ → List ℕ → List (List ℕ) → Option TypeFault
class_fault types name parent interfaces = name_fault types name or_else parent_fault types (class_named types parent) interfaces

-- what forbids an interface, all whose required types are known or not
abbrev pub required_fault : List GType → Bool → Option TypeFault
required_fault types known = fault_if (not known) UnknownParent or_else room_fault types

abbrev pub interface_fault : List GType → List ℕ → List (List ℕ) → Option TypeFault
interface_fault types name required = name_fault types name or_else required_fault types (are_named (required_named types) required)

-- of an enum or a flags type
abbrev pub members_fault : List GType → List ℕ → Option TypeFault
members_fault types name = name_fault types name or_else room_fault types

-- ** the types that are added

abbrev pub new_class : List GType → List ℕ → List ℕ → TypeFlags → List (List ℕ) → GType
new_class types name parent flags interfaces = record {
  name = name;
  sort = sorts.class;
  parent = class_named types parent;
  is_abstract = flags.is_abstract;
  is_final = flags.is_final;
  interfaces = filter_map (interface_named types) interfaces;
  members = [];
}

abbrev pub new_interface : List GType → List ℕ → List (List ℕ) → GType
new_interface types name required = plain_type name sorts.interface (filter_map (required_named types) required) []

abbrev pub new_enum : List ℕ → List Member → GType
new_enum name members = plain_type name sorts.enum [] members

abbrev pub new_flags : List ℕ → List Member → GType
new_flags name members = plain_type name sorts.flags [] members

-- ** what adding does

-- An added type comes last. Without memory nothing is added, though nothing forbids it; a fault is answered and nothing is added.
abbrev pub Adds : Result ℕ TypeError → Option TypeFault → GType → List GType → List GType → Type 0
Adds (Ok t) fault added old new = (fault ≡ None) × (t ≡ length old) × (new ≡ old ++ added ∷ [])
Adds (Err OutOfMemory) fault added old new = (fault ≡ None) × (new ≡ old)
Adds (Err (Refused cause)) fault added old new = (fault ≡ Some cause) × (new ≡ old)
