-- What the entries of a tree denote.
use Rattle.std.specs.Prelude.{ℕ, false, List, [], map, None, Some}
use Rattle.ui_machine.specs.Definition.Types.{GType, Member}
use Rattle.ui_machine.specs.Definition.Types as sorts
pub use Rattle.type_tree.specs.Members.{enum_member, flags_member}
use Rattle.type_tree.specs.declared.entry.TypeFlags.{TypeFlags}
use Rattle.type_tree.specs.declared.entry.TypeSort.{TypeSort}
use Rattle.type_tree.specs.declared.entry.TypeSort.TheVariants as words
use Rattle.type_tree.specs.declared.entry.TypeEntry.{TypeEntry}
use Rattle.type_tree.specs.declared.entry.TypeEntry.TheVariants.{Class, Interface, Enum, Flags}

-- a type that is no class
abbrev pub plain_type : List ℕ → sorts.Sort → List ℕ → List Member → GType
plain_type name sort required members =
    record { name = name; sort = sort; parent = None; is_abstract = false; is_final = false; interfaces = required; members = members }

-- a class under a parent, with the interfaces that it implements
abbrev pub class_type : List ℕ → ℕ → TypeFlags → List ℕ → GType
class_type name parent flags interfaces =
    record { name = name; sort = sorts.class; parent = Some parent; is_abstract = flags.is_abstract; is_final = flags.is_final; interfaces = interfaces; members = [] }

-- an interface, with the types that it requires
abbrev pub interface_type : List ℕ → List ℕ → GType
interface_type name required = plain_type name sorts.interface required []

-- the type of an entry
abbrev pub type_of : List ℕ → TypeEntry → GType
type_of name (Class c) =
    record { name = name; sort = sorts.class; parent = c.parent; is_abstract = c.flags.is_abstract; is_final = c.flags.is_final; interfaces = c.interfaces.items; members = [] }
type_of name (Interface required) = plain_type name sorts.interface required.items []
type_of name (Enum members) = plain_type name sorts.enum [] (map enum_member members)
type_of name (Flags members) = plain_type name sorts.flags [] (map flags_member members)

-- the sort that the code's word names
abbrev pub view_of_sort : TypeSort → sorts.Sort
view_of_sort words.Class = sorts.class
view_of_sort words.Interface = sorts.interface
view_of_sort words.Enum = sorts.enum
view_of_sort words.Flags = sorts.flags
