-- A source as it is given to be run.
use Rattle.std.specs.Prelude.{ℕ, Option, option_map}
use Rattle.ui_machine.specs.State.Sources.{Source}
use Rattle.ui_machine.specs.declared.ids.ObjectId.{ObjectId}
use Rattle.main_context.specs.declared.source.Due.{Due}

-- the data object's number
abbrev pub identity_of : Option ObjectId → Option ℕ
identity_of arg = option_map (λ id. id.0) arg

-- the source's number, program and data
abbrev pub due_of : Source → Due
due_of s = record { source = s.number; program = s.program; arg = option_map (λ id. record { 0 = id }) s.arg }
