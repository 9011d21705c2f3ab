-- Kinds of registers, by their words. A kind names types of the tree, and places by their ids.
use Rattle.std.specs.Prelude.{ℕ, List, codes, Bool, ◌&&◌, if◌then◌else◌, Option, None, Some, option_map, Result, Ok, Err}
use Rattle.std.specs.Str.{bytes_eq}
use Rattle.ui_machine.specs.Outcome.{◌>>=◌}
use Rattle.ui_machine.specs.Definition.Kinds.{Kind, RegisterKind}
use Rattle.ui_machine.specs.Definition.Kinds as kinds
use Rattle.ui_machine.specs.Definition.Types.{GType}
use Rattle.type_tree.specs.Adding.{required_named}
use Rattle.ui_machine.specs.declared.ids.Place.{Place}
use Rattle.bytecode.specs.declared.formats.Format.{Format}
use Rattle.bytecode.specs.Reading.KindWords.{KindFault, no_kind, or_no_kind, or_unknown, kind_named, kind_of_type, parted}
use Rattle.bytecode.specs.Reading.Operands.{is_name}

-- with what a program is read: its format, and what kinds may name, which is types, and places by their ids
pub record Names : Type 0 where
  pub format : Format
  pub types : List GType
  pub place : List ℕ → Option ℕ

abbrev pub number_of_place : Option Place → Option ℕ
number_of_place place = option_map (λ (p : Place). p.0) place

-- ** words

-- the place of an id
abbrev pub place_in : Names → List ℕ → Result ℕ KindFault
place_in names id = if is_name id then or_unknown id (names.place id) else Err no_kind

abbrev pub plain : Result Kind KindFault → Result RegisterKind KindFault
plain (Ok kind) = Ok (kinds.plain kind)
plain (Err fault) = Err fault

-- The kind of a sort and of what a name names: an object of a type that is not null, the object of a place, the same or null, or a value of
-- a kind.
abbrev pub register_kind_of : Names → List ℕ → List ℕ → Result RegisterKind KindFault
register_kind_of names sort name =
    if bytes_eq sort (codes "some") then or_unknown name (option_map kinds.some (required_named names.types name)) else
    (if bytes_eq sort (codes "at") then (place_in names name >>= λ place. Ok (kinds.at place)) else
    (if bytes_eq sort (codes "at?") then (place_in names name >>= λ place. Ok (kinds.at_or_null place)) else
    plain (kind_of_type names.types sort name)))

-- the kind of a word, of which these are the parts around the colon
abbrev pub register_kind_by : Names → List ℕ → Option (List ℕ × List ℕ) → Result RegisterKind KindFault
register_kind_by names word None = plain (or_no_kind (kind_named word))
register_kind_by names word (Some parts) = register_kind_of names parts.0 parts.1

-- the kind of a word, which may be `unset` where a register need not be set
abbrev pub register_kind : Names → (may_be_unset : Bool) → List ℕ → Result RegisterKind KindFault
register_kind names may_be_unset word =
    if may_be_unset && bytes_eq word (codes "unset") then Ok kinds.unset else register_kind_by names word (parted word)

-- the kind of a text
abbrev pub register_kind_in : Names → (may_be_unset : Bool) → Option (List ℕ) → Result RegisterKind KindFault
register_kind_in names may_be_unset None = Err no_kind
register_kind_in names may_be_unset (Some word) = register_kind names may_be_unset word
