-- What a branch asks of a register.
use Rattle.std.specs.Prelude.{Bool, Option, None, Some, is_none}
use Rattle.ui_machine.specs.Definition.Values as values

-- whether a text or an object is null; nothing else has an answer
abbrev pub is_null : values.Value → Option Bool
is_null (values.text s) = Some (is_none s)
is_null (values.object i) = Some (is_none i)
is_null _ = None
