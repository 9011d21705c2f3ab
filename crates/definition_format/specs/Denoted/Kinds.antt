-- Kinds of properties, by their words.
use Rattle.std.specs.Prelude.{ℕ, ℤ, pos, ◌==◌, List, length, nat_lt, codes, Bool, true, false, if◌then◌else◌, Option, None, Some, option_map, Result, Err}
use Rattle.std.specs.List.{position_or_len, before_first, after_first}
use Rattle.std.specs.Option.{option_or}
use Rattle.std.specs.Str.{bytes_eq}
use Rattle.serde_json.specs.Data.{Data}
use Rattle.ui_machine.specs.Outcome.{◌>>=◌}
use Rattle.ui_machine.specs.Definition.Kinds.{Kind}
use Rattle.ui_machine.specs.Definition.Kinds as kinds
use Rattle.ui_machine.specs.Definition.Types.{GType, Sort}
use Rattle.ui_machine.specs.Definition.Types as sorts
use Rattle.ui_machine.specs.Rules.Transform.{least, greatest}
use Rattle.type_tree.specs.Adding.{find_type, of_sort, class_named}
use Rattle.definition_format.specs.Refusals.{Refusal, shape, unknown, or_refused}
use Rattle.definition_format.specs.Document.{under, text_at}
use Rattle.definition_format.specs.Denoted.Entries.{TypeNames, later_type, at_most}

-- a kind that names no type, by its word
abbrev pub kind_named : List ℕ → Option Kind
kind_named word =
    if bytes_eq word (codes "bool") then Some kinds.bool else
    (if bytes_eq word (codes "int") then Some (kinds.whole kinds.int) else
    (if bytes_eq word (codes "uint") then Some (kinds.whole kinds.uint) else
    (if bytes_eq word (codes "int64") then Some (kinds.whole kinds.int64) else
    (if bytes_eq word (codes "uint64") then Some (kinds.whole kinds.uint64) else
    (if bytes_eq word (codes "text") then Some kinds.text else None)))))

-- the least and the greatest number of a kind, 0 where it is no kind of whole numbers
abbrev pub lowest : Kind → ℤ
lowest kinds.bool = pos 0
lowest (kinds.whole k) = least k
lowest kinds.text = pos 0
lowest (kinds.enum t) = pos 0
lowest (kinds.flags t) = pos 0
lowest (kinds.object t) = pos 0

abbrev pub highest : Kind → ℤ
highest kinds.bool = pos 0
highest (kinds.whole k) = greatest k
highest kinds.text = pos 0
highest (kinds.enum t) = pos 0
highest (kinds.flags t) = pos 0
highest (kinds.object t) = pos 0

abbrev pub is_object_kind : Kind → Bool
is_object_kind kinds.bool = false
is_object_kind (kinds.whole k) = false
is_object_kind kinds.text = false
is_object_kind (kinds.enum t) = false
is_object_kind (kinds.flags t) = false
is_object_kind (kinds.object t) = true

-- ** kinds that name a type

abbrev pub is_enum : Sort → Bool
is_enum sorts.class = false
is_enum sorts.interface = false
is_enum sorts.enum = true
is_enum sorts.flags = false

abbrev pub is_flags : Sort → Bool
is_flags sorts.class = false
is_flags sorts.interface = false
is_flags sorts.enum = false
is_flags sorts.flags = true

-- the enum of a name
abbrev pub enum_named : List GType → List ℕ → Option ℕ
enum_named types name = of_sort is_enum types (find_type types name)

-- the flags type of a name
abbrev pub flags_named : List GType → List ℕ → Option ℕ
flags_named types name = of_sort is_flags types (find_type types name)

-- The class or interface of a name: a class of these types, or one of the names, whose type may come later. A number past the 256 types
-- that there may be denotes none.
abbrev pub object_type : List GType → TypeNames → List ℕ → Option ℕ
object_type types names name = option_or (class_named types name) (option_map (at_most 256) (later_type names name))

abbrev pub is_colon : ℕ → Bool
is_colon x = x == 58

-- what comes before the first colon and what comes after it, if there is one
abbrev pub parted : List ℕ → Option (List ℕ × List ℕ)
parted word =
    if nat_lt (position_or_len is_colon word) (length word) then Some (before_first is_colon word, after_first is_colon word) else None

-- the kind of a sort and of the type that a name names: of the enum, of the flags type, or of the class or interface
abbrev pub kind_of_type : List ℕ → List GType → TypeNames → List ℕ → List ℕ → Result Kind Refusal
kind_of_type path types names sort name =
    if bytes_eq sort (codes "enum") then or_refused (unknown path name) (option_map kinds.enum (enum_named types name)) else
    (if bytes_eq sort (codes "flags") then or_refused (unknown path name) (option_map kinds.flags (flags_named types name)) else
    (if bytes_eq sort (codes "object") then or_refused (unknown path name) (option_map kinds.object (object_type types names name)) else
    Err (shape path)))

-- the kind of a word, of which these are the parts around the colon
abbrev pub kind_by : List ℕ → List GType → TypeNames → List ℕ → Option (List ℕ × List ℕ) → Result Kind Refusal
kind_by path types names word None = or_refused (shape path) (kind_named word)
kind_by path types names word (Some parts) = kind_of_type path types names parts.0 parts.1

-- the kind of a property
abbrev pub kind_at : List ℕ → List GType → TypeNames → Data → Result Kind Refusal
kind_at path types names d = do
  word ← text_at path d (codes "kind")
  kind_by (under path (codes "kind")) types names word (parted word)
