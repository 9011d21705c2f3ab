-- What members denote.
use Rattle.std.specs.Prelude.{pos, string_bytes}
use Rattle.ui_machine.specs.Definition.Types.{Member}
use Rattle.type_tree.specs.declared.member.EnumMember.{EnumMember}
use Rattle.type_tree.specs.declared.member.FlagsMember.{FlagsMember}

-- a member of an enum
abbrev pub enum_member : EnumMember → Member
enum_member m = record { name = string_bytes m.name; nick = string_bytes m.nick; number = m.number }

-- a member of a flags type
abbrev pub flags_member : FlagsMember → Member
flags_member m = record { name = string_bytes m.name; nick = string_bytes m.nick; number = pos m.bits }
