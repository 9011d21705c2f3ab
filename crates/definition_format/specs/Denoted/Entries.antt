-- Entries of the document's lists by what they are called. Each counts by itself, however faulty it is, so that those that come later are
-- known too.
use Rattle.std.specs.Prelude.{◌≡◌, ℕ, zero, suc, ◌+◌, List, [], ◌∷◌, ◌++◌, map, length, codes, Bool, false, nat_lt, if◌then◌else◌, Option, None, Some, option_map, option_and_then}
use Rattle.std.specs.Option.{option_or}
use Rattle.std.specs.Str.{bytes_eq}
use Rattle.serde_json.specs.Data.{Data, Items, no_items, item}
use Rattle.serde_json.specs.Find.{get, as_str, as_array}
use Rattle.ui_machine.specs.Definition.Types.{GType}

-- ** entries by name

abbrev pub is_called : Option (List ℕ) → List ℕ → Bool
is_called None name = false
is_called (Some own) name = bytes_eq own name

-- what an entry is called under a key, if it is called something
abbrev pub name_under : List ℕ → Data → Option (List ℕ)
name_under key d = option_and_then as_str (get key d)

-- what the entries of a list are called, in order
abbrev pub names_under : List ℕ → Items → List (Option (List ℕ))
names_under key no_items = []
names_under key (item d ds) = name_under key d ∷ names_under key ds

-- the number of the first entry that is called so, where the first of all has the number i
abbrev pub number_from : ℕ → List (Option (List ℕ)) → List ℕ → Option ℕ
number_from i [] name = None
number_from i (own ∷ names) name = if is_called own name then Some i else number_from (suc i) names name

-- a look-up gives these numbers
abbrev pub AreNumbered : (List ℕ → Option ℕ) → List (Option (List ℕ)) → Type 0
AreNumbered find names = (name : List ℕ) → find name ≡ number_from 0 names name

-- the entries of a list; none, where there is no list
abbrev pub listed : Option Items → Items
listed None = no_items
listed (Some ds) = ds

abbrev pub section : List ℕ → Data → Items
section key d = listed (option_and_then as_array (get key d))

-- a number, or the one behind the last: a document that has so many is refused
abbrev pub at_most : ℕ → ℕ → ℕ
at_most most n = if nat_lt n most then n else most

-- ** types by name

-- what the interfaces and the classes of a document are called, and the number of the first of these types; classes come behind interfaces
pub record TypeNames : Type 0 where
  pub first : ℕ
  pub interfaces : List (Option (List ℕ))
  pub classes : List (Option (List ℕ))

-- the names of a document whose other types are these
abbrev pub type_names : List GType → Data → TypeNames
type_names types d = record {
  first = length types;
  interfaces = names_under (codes "name") (section (codes "interfaces") d);
  classes = names_under (codes "name") (section (codes "classes") d);
}

-- the number of the interface or class that is called so
abbrev pub later_type : TypeNames → List ℕ → Option ℕ
later_type names name =
    option_or (number_from names.first names.interfaces name)
    (number_from (names.first + length names.interfaces) names.classes name)

-- ** programs by name

-- what the programs of a document are called
abbrev pub ProgramNames : Type 0
ProgramNames = List (Option (List ℕ))

abbrev pub program_names : Data → ProgramNames
program_names d = names_under (codes "name") (section (codes "programs") d)

-- the number of the program that is called so; one past the 256 programs that there may be denotes those behind
abbrev pub program_named : ProgramNames → List ℕ → Option ℕ
program_named names name = option_map (at_most 256) (number_from 0 names name)

-- ** objects by id

-- the entries of a list, and behind each what it has
abbrev pub with_all : (Data → List Data) → Items → List Data
with_all below no_items = []
with_all below (item d ds) = d ∷ (below d ++ with_all below ds)

-- The objects of a list in document order: behind each its children. Lists nest so many levels deep.
abbrev pub in_order : (levels : ℕ) → Items → List Data
in_order zero list = []
in_order (suc levels) list = with_all (λ d. in_order levels (section (codes "children") d)) list

-- JSON is read 127 levels deep, and the children of an object are two levels below it
abbrev pub most_levels : ℕ
most_levels = 64

-- the ids of the objects of a document, and the names of their classes
pub record ObjectNames : Type 0 where
  pub ids : List (Option (List ℕ))
  pub classes : List (Option (List ℕ))

abbrev pub names_of : List Data → ObjectNames
names_of objects = record { ids = map (name_under (codes "id")) objects; classes = map (name_under (codes "class")) objects }

abbrev pub object_names : Items → ObjectNames
object_names list = names_of (in_order most_levels list)

-- ** places by id

-- the objects of a document and then its prototypes, which have no children
abbrev pub places_in_order : Data → List Data
places_in_order d = in_order most_levels (section (codes "objects") d) ++ in_order 1 (section (codes "prototypes") d)

-- the place of the object or prototype of an id; one past the 512 places that there may be denotes none
abbrev pub place_with_id : Data → List ℕ → Option ℕ
place_with_id d id = option_map (at_most 512) (number_from 0 (map (name_under (codes "id")) (places_in_order d)) id)
