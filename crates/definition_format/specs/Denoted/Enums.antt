-- Enums and flags types, with their members.
use Rattle.std.specs.Prelude.{ℕ, ℤ, pos, List, [], ◌∷◌, ◌++◌, codes, Bool, if◌then◌else◌, Option, None, Some, option_and_then, Result, Ok, Err}
use Rattle.std.specs.List.{list_any}
use Rattle.std.specs.Str.{bytes_eq}
use Rattle.serde_json.specs.Data.{Data, Items, no_items, item}
use Rattle.serde_json.specs.Find.{get, as_str, as_array}
use Rattle.ui_machine.specs.Outcome.{◌>>=◌}
use Rattle.ui_machine.specs.Definition.Kinds.{int, uint}
use Rattle.ui_machine.specs.Definition.Types.{GType, Member}
use Rattle.ui_machine.specs.Rules.Transform.{least, greatest, is_between, has_number}
use Rattle.type_tree.specs.Adding.{new_enum, new_flags}
use Rattle.g_values.specs.Reading.{whole_number}
use Rattle.definition_format.specs.Refusals.{Refusal, shape, duplicate, or_refused}
use Rattle.definition_format.specs.Document.{under, nth, members_at, text_at, only_at, each, at_entry}
use Rattle.definition_format.specs.Denoted.Names.{is_name}
use Rattle.definition_format.specs.Denoted.Types.{room_for_type, new_type_name}

-- ** members

-- a name, a nick and a number
abbrev pub three_in : Items → Option (Data × Data × Data)
three_in no_items = None
three_in (item a no_items) = None
three_in (item a (item b no_items)) = None
three_in (item a (item b (item c no_items))) = Some (a, b, c)
three_in (item a (item b (item c (item more ds)))) = None

abbrev pub parts_at : List ℕ → Data → Result (Data × Data × Data) Refusal
parts_at path d = or_refused (shape path) (option_and_then three_in (as_array d))

abbrev pub name_if : Option (List ℕ) → Option (List ℕ)
name_if None = None
name_if (Some name) = if is_name name then Some name else None

abbrev pub name_at : List ℕ → Data → Result (List ℕ) Refusal
name_at path d = or_refused (shape path) (name_if (as_str d))

abbrev pub number_if : ℤ → ℤ → Option ℤ → Option ℤ
number_if low high None = None
number_if low high (Some n) = if is_between low high n then Some n else None

-- a whole number between two others, both included
abbrev pub number_at : List ℕ → ℤ → ℤ → Data → Result ℤ Refusal
number_at path low high d = or_refused (shape path) (number_if low high (whole_number d))

abbrev pub unless_there : List ℕ → Bool → Result (Unit {0}) Refusal
unless_there path there = if there then Err (duplicate path) else Ok tt

abbrev pub has_name : List Member → List ℕ → Bool
has_name members name = list_any (λ (m : Member). bytes_eq m.name name) members

abbrev pub member_with : List ℕ → List ℕ → ℤ → Member
member_with name nick number = record { name = name; nick = nick; number = number }

-- an enum's members, with the one that an entry gives: no two have one name or one number
unfoldable pub enum_member_at : List ℕ → List Member → Data → Result (List Member) Refusal
enum_member_at path members d = do
  parts ← parts_at path d
  name ← name_at (nth path 0) parts.0
  unlike ← unless_there (nth path 0) (has_name members name)
  nick ← name_at (nth path 1) parts.1
  number ← number_at (nth path 2) (least int) (greatest int) parts.2
  other ← unless_there (nth path 2) (has_number members number)
  Ok (members ++ member_with name nick number ∷ [])

-- a flags type's members, with the one that an entry gives
unfoldable pub flags_member_at : List ℕ → List Member → Data → Result (List Member) Refusal
flags_member_at path members d = do
  parts ← parts_at path d
  name ← name_at (nth path 0) parts.0
  nick ← name_at (nth path 1) parts.1
  bits ← number_at (nth path 2) (pos 1) (greatest uint) parts.2
  Ok (members ++ member_with name nick bits ∷ [])

-- ** types

abbrev pub some_items : Items → Option Items
some_items no_items = None
some_items (item d ds) = Some (item d ds)

-- the entries of a list, which has one at least
abbrev pub some_entries_at : List ℕ → Data → List ℕ → Result Items Refusal
some_entries_at path d key = or_refused (shape (under path key)) (option_and_then some_items (option_and_then as_array (get key d)))

abbrev pub keys_of_members : List (List ℕ)
keys_of_members = codes "name" ∷ codes "members" ∷ []

-- the members that an entry gives, where each is read so
abbrev pub members_with : (List ℕ → List Member → Data → Result (List Member) Refusal) → List ℕ → Data → Result (List Member) Refusal
members_with read path d = do
  list ← some_entries_at path d (codes "members")
  each (at_entry read (under path (codes "members"))) 0 [] list

-- the types, with the enum that an entry gives, where the enums begin with the first
unfoldable pub enum_at : List ℕ → ℕ → List GType → Data → Result (List GType) Refusal
enum_at path first types d = do
  ms ← members_at path d
  room ← room_for_type types
  name ← text_at path d (codes "name")
  new ← new_type_name (under path (codes "name")) first types name
  members ← members_with enum_member_at path d
  only ← only_at path ms keys_of_members
  Ok (types ++ new_enum name members ∷ [])

-- the same of a flags type
unfoldable pub flags_at : List ℕ → ℕ → List GType → Data → Result (List GType) Refusal
flags_at path first types d = do
  ms ← members_at path d
  room ← room_for_type types
  name ← text_at path d (codes "name")
  new ← new_type_name (under path (codes "name")) first types name
  members ← members_with flags_member_at path d
  only ← only_at path ms keys_of_members
  Ok (types ++ new_flags name members ∷ [])
