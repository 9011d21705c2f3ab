-- The members of an enum while they are read, with their names and numbers by themselves.
use Rattle.std.specs.Prelude.{ℕ, ℤ, Bool, true, List, [], ◌∷◌, ◌++◌, if◌then◌else◌, map, Result, Ok}
use Rattle.std.specs.BTreeSet.{contains, contains_text}
use Rattle.std.specs.Ordering.{int_cmp, int_eq}
use Rattle.std.specs.Str.{bytes_eq}
use Rattle.serde_json.specs.Data.{Data}
use Rattle.ui_machine.specs.Outcome.{◌>>=◌}
use Rattle.ui_machine.specs.Definition.Kinds.{int}
use Rattle.ui_machine.specs.Definition.Types.{Member}
use Rattle.ui_machine.specs.Rules.Transform.{least, greatest}
use Rattle.ui_machine.specs.Rules.Transform as pure
use Rattle.type_tree.specs.Entry.{enum_member}
use Rattle.definition_format.specs.Refusals.{Refusal}
use Rattle.definition_format.specs.Document.{nth}
use Rattle.definition_format.specs.Denoted.Enums.{parts_at, name_at, number_at, unless_there, member_with}
use Rattle.definition_format.specs.Denoted.Enums as denoted
use Rattle.read_types.specs.declared.enum_drafts.EnumDraft.{EnumDraft}

pub record EnumParts : Type 0 where
  pub members : List Member
  pub has_name : List ℕ → Bool
  pub has_number : ℤ → Bool

-- these members, with their names and numbers
abbrev pub parts_of : List Member → EnumParts
parts_of members = record { members = members; has_name = λ name. denoted.has_name members name; has_number = λ n. pure.has_number members n }

-- one member more
abbrev pub with_member : EnumParts → Member → EnumParts
with_member e m = record {
  members = e.members ++ m ∷ [];
  has_name = λ name. if bytes_eq m.name name then true else e.has_name name;
  has_number = λ n. if int_eq m.number n then true else e.has_number n;
}

-- the members with the one that an entry gives, whose name and number are looked up among those of the others
unfoldable pub enum_part_at : List ℕ → EnumParts → Data → Result EnumParts Refusal
enum_part_at path e d = do
  parts ← parts_at path d
  name ← name_at (nth path 0) parts.0
  unlike ← unless_there (nth path 0) (e.has_name name)
  nick ← name_at (nth path 1) parts.1
  number ← number_at (nth path 2) (least int) (greatest int) parts.2
  other ← unless_there (nth path 2) (e.has_number number)
  Ok (with_member e (member_with name nick number))

-- what the code keeps
abbrev pub parts_seen : EnumDraft → EnumParts
parts_seen d = record { members = map enum_member d.members.items; has_name = λ name. contains_text d.names name; has_number = λ n. contains int_cmp d.numbers n }
