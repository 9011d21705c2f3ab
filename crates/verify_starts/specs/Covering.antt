-- The kinds of registers, by the places whose objects a register may hold.
use Rattle.ui_machine.specs.Definition.Kinds.{Kind, RegisterKind}
use Rattle.ui_machine.specs.Definition.Kinds as kinds

-- what a kind of values covers
abbrev pub covering_plain : Kind → RegisterKind
covering_plain (kinds.object type) = kinds.some type
covering_plain kind = kinds.unset

-- the kind that covers the same places, with an object that is there
abbrev pub covering : RegisterKind → RegisterKind
covering kinds.unset = kinds.unset
covering (kinds.plain kind) = covering_plain kind
covering (kinds.some type) = kinds.some type
covering (kinds.at place) = kinds.at place
covering (kinds.at_or_null place) = kinds.at place
