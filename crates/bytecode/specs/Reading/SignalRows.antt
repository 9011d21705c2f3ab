-- The rows of the instructions on signals, handlers and bindings.
use Rattle.std.specs.Prelude.{Result, Ok}
use Rattle.serde_json.specs.Data.{Data}
use Rattle.ui_machine.specs.Outcome.{◌>>=◌}
use Rattle.ui_machine.specs.Definition.Programs.{Instruction}
use Rattle.ui_machine.specs.Definition.Programs as words
use Rattle.bytecode.specs.Reading.Operands.{Refusal, no_operand, number_at, register_or_null_at, name_at, detail_at, registers_at}
use Rattle.bytecode.specs.Reading.Scopes.{Scope}
use Rattle.bytecode.specs.Reading.OperandShapes.{register_and_name, one_name, connect_at}

-- `emit z o s D [a..]`
unfoldable pub emit_row : Scope → Data → Result Instruction Refusal
emit_row s d = do
  only ← no_operand d 6
  into ← register_or_null_at s.registers d 1
  object ← number_at s.registers d 2
  signal ← name_at d 3
  detail ← detail_at d 4
  args ← registers_at s.registers d 5
  Ok (words.emit into object signal detail args)

-- `connect d o s D p [options] z`
unfoldable pub connect_row : Scope → Data → Result Instruction Refusal
connect_row s d = do
  only ← no_operand d 8
  to ← number_at s.registers d 1
  object ← number_at s.registers d 2
  c ← connect_at s d
  Ok (words.connect to object c)

-- `disconnect o p`
unfoldable pub disconnect_row : Scope → Data → Result Instruction Refusal
disconnect_row s d = do
  r ← register_and_name s d
  Ok (words.disconnect r.0 r.1)

-- `block o p`
unfoldable pub block_row : Scope → Data → Result Instruction Refusal
block_row s d = do
  r ← register_and_name s d
  Ok (words.block r.0 r.1)

-- `unblock o p`
unfoldable pub unblock_row : Scope → Data → Result Instruction Refusal
unblock_row s d = do
  r ← register_and_name s d
  Ok (words.unblock r.0 r.1)

-- `stop`
unfoldable pub stop_row : Scope → Data → Result Instruction Refusal
stop_row s d = do
  only ← no_operand d 1
  Ok words.stop

-- `unbind name`
unfoldable pub unbind_row : Scope → Data → Result Instruction Refusal
unbind_row s d = do
  name ← one_name d
  Ok (words.unbind name)
