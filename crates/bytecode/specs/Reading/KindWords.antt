-- Kinds of values, by their words.
use Rattle.std.specs.Prelude.{ℕ, ◌==◌, List, length, nat_lt, codes, Bool, true, false, if◌then◌else◌, Option, None, Some, option_map, Result, Ok, Err}
use Rattle.std.specs.List.{position_or_len, before_first, after_first}
use Rattle.std.specs.Str.{bytes_eq}
use Rattle.ui_machine.specs.Definition.Kinds.{Kind}
use Rattle.ui_machine.specs.Definition.Kinds as kinds
use Rattle.ui_machine.specs.Definition.Types.{GType, Sort}
use Rattle.ui_machine.specs.Definition.Types as sorts
use Rattle.type_tree.specs.Adding.{find_type, of_sort, required_named}

-- a kind that names no type, by its word
abbrev pub kind_named : List ℕ → Option Kind
kind_named word =
    if bytes_eq word (codes "bool") then Some kinds.bool else
    (if bytes_eq word (codes "int") then Some (kinds.whole kinds.int) else
    (if bytes_eq word (codes "uint") then Some (kinds.whole kinds.uint) else
    (if bytes_eq word (codes "int64") then Some (kinds.whole kinds.int64) else
    (if bytes_eq word (codes "uint64") then Some (kinds.whole kinds.uint64) else
    (if bytes_eq word (codes "text") then Some kinds.text else None)))))

-- ** kinds that name a type

abbrev pub is_enum : Sort → Bool
is_enum sorts.class = false
is_enum sorts.interface = false
is_enum sorts.enum = true
is_enum sorts.flags = false

abbrev pub is_flags : Sort → Bool
is_flags sorts.class = false
is_flags sorts.interface = false
is_flags sorts.enum = false
is_flags sorts.flags = true

-- the enum of a name
abbrev pub enum_named : List GType → List ℕ → Option ℕ
enum_named types name = of_sort is_enum types (find_type types name)

-- the flags type of a name
abbrev pub flags_named : List GType → List ℕ → Option ℕ
flags_named types name = of_sort is_flags types (find_type types name)

abbrev pub is_colon : ℕ → Bool
is_colon x = x == 58

-- what comes before the first colon and what comes after it, if there is one
abbrev pub parted : List ℕ → Option (List ℕ × List ℕ)
parted word =
    if nat_lt (position_or_len is_colon word) (length word) then Some (before_first is_colon word, after_first is_colon word) else None

-- ** words

-- why a word names no kind: it has no form of one, or nothing has the name in it
pub data KindFault : Type 0 where
  no_kind : KindFault
  unknown : (name : List ℕ) → KindFault

abbrev pub or_no_kind : {A : Type 0} → Option A → Result A KindFault
or_no_kind None = Err no_kind
or_no_kind (Some x) = Ok x

abbrev pub or_unknown : {A : Type 0} → List ℕ → Option A → Result A KindFault
or_unknown name None = Err (unknown name)
or_unknown name (Some x) = Ok x

-- the kind of a sort and of the type that a name names: of the enum, of the flags type, or of the class or interface
abbrev pub kind_of_type : List GType → List ℕ → List ℕ → Result Kind KindFault
kind_of_type types sort name =
    if bytes_eq sort (codes "enum") then or_unknown name (option_map kinds.enum (enum_named types name)) else
    (if bytes_eq sort (codes "flags") then or_unknown name (option_map kinds.flags (flags_named types name)) else
    (if bytes_eq sort (codes "object") then or_unknown name (option_map kinds.object (required_named types name)) else Err no_kind))

-- the kind of a word, of which these are the parts around the colon
abbrev pub kind_by : List GType → List ℕ → Option (List ℕ × List ℕ) → Result Kind KindFault
kind_by types word None = or_no_kind (kind_named word)
kind_by types word (Some parts) = kind_of_type types parts.0 parts.1
