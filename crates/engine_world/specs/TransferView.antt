-- What a value becomes in a transfer.
use Rattle.std.specs.Prelude.{Option, None, Some}
use Rattle.ui_machine.specs.Definition.Kinds as kinds
use Rattle.ui_machine.specs.Definition.Values as values

-- a value as it is, if it is of the kind, its type left aside
abbrev pub kept_in : values.Value → kinds.Kind → Option values.Value
kept_in (values.object o) (kinds.object t) = Some (values.object o)
kept_in (values.enum u n) (kinds.enum t) = Some (values.enum u n)
kept_in (values.flags u bits) (kinds.flags t) = Some (values.flags u bits)
kept_in _ _ = None
