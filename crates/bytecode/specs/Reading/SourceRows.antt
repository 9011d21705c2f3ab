-- The rows of the instructions on sources and peers.
use Rattle.std.specs.Prelude.{Result, Ok}
use Rattle.serde_json.specs.Data.{Data}
use Rattle.ui_machine.specs.Outcome.{◌>>=◌}
use Rattle.ui_machine.specs.Definition.Programs.{Instruction}
use Rattle.ui_machine.specs.Definition.Programs as words
use Rattle.bytecode.specs.Reading.Operands.{Refusal, no_operand, number_at, register_or_null_at, priority_at, interval_at, name_at, registers_at}
use Rattle.bytecode.specs.Reading.Scopes.{Scope}
use Rattle.bytecode.specs.Reading.OperandShapes.{one_name}

-- `idle d p n z`
unfoldable pub idle_row : Scope → Data → Result Instruction Refusal
idle_row s d = do
  only ← no_operand d 5
  to ← number_at s.registers d 1
  program ← name_at d 2
  priority ← priority_at d 3
  with ← register_or_null_at s.registers d 4
  Ok (words.idle to program priority with)

-- `timeout d p n i z`
unfoldable pub timeout_row : Scope → Data → Result Instruction Refusal
timeout_row s d = do
  only ← no_operand d 6
  to ← number_at s.registers d 1
  program ← name_at d 2
  priority ← priority_at d 3
  interval ← interval_at d 4
  with ← register_or_null_at s.registers d 5
  Ok (words.timeout to program priority interval with)

-- `remove p`
unfoldable pub remove_row : Scope → Data → Result Instruction Refusal
remove_row s d = do
  program ← one_name d
  Ok (words.remove program)

-- `call d o m [a..]`
unfoldable pub call_row : Scope → Data → Result Instruction Refusal
call_row s d = do
  only ← no_operand d 5
  to ← number_at s.registers d 1
  object ← number_at s.registers d 2
  method ← name_at d 3
  args ← registers_at s.registers d 4
  Ok (words.call to object method args)
