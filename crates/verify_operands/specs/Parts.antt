-- Parts of a definition, looked at one by one.
use Rattle.std.specs.Prelude.{ℕ, Bool, List}
use Rattle.ui_machine.specs.Definition.Places.{Bind, Place}
use Rattle.law_typing.specs.Rules.Typing.{is_called}

-- whether a binding has this name
abbrev pub is_named : List ℕ → Bind → Bool
is_named name b = is_called name b.name

-- whether a place is that of a prototype
abbrev pub is_of_prototype : Place → Bool
is_of_prototype p = p.is_prototype
