-- The rows of the instructions on properties and objects.
use Rattle.std.specs.Prelude.{Result, Ok}
use Rattle.serde_json.specs.Data.{Data}
use Rattle.ui_machine.specs.Outcome.{◌>>=◌}
use Rattle.ui_machine.specs.Definition.Programs.{Instruction}
use Rattle.ui_machine.specs.Definition.Programs as words
use Rattle.bytecode.specs.Reading.Operands.{Refusal, no_operand, number_at, name_at}
use Rattle.bytecode.specs.Reading.Scopes.{Scope}
use Rattle.bytecode.specs.Reading.OperandShapes.{one_register, three_registers, register_and_name}

-- `get d o p`
unfoldable pub get_row : Scope → Data → Result Instruction Refusal
get_row s d = do
  only ← no_operand d 4
  to ← number_at s.registers d 1
  object ← number_at s.registers d 2
  property ← name_at d 3
  Ok (words.get to object property)

-- `set o p s`
unfoldable pub set_row : Scope → Data → Result Instruction Refusal
set_row s d = do
  only ← no_operand d 4
  object ← number_at s.registers d 1
  property ← name_at d 2
  from ← number_at s.registers d 3
  Ok (words.set object property from)

-- `object d id`
unfoldable pub object_row : Scope → Data → Result Instruction Refusal
object_row s d = do
  r ← register_and_name s d
  Ok (words.object r.0 r.1)

-- `new d c`
unfoldable pub new_row : Scope → Data → Result Instruction Refusal
new_row s d = do
  r ← register_and_name s d
  Ok (words.new r.0 r.1)

-- `sink o`
unfoldable pub sink_row : Scope → Data → Result Instruction Refusal
sink_row s d = do
  r ← one_register s d
  Ok (words.sink r)

-- `orphan o`
unfoldable pub orphan_row : Scope → Data → Result Instruction Refusal
orphan_row s d = do
  r ← one_register s d
  Ok (words.orphan r)

-- `dispose o`
unfoldable pub dispose_row : Scope → Data → Result Instruction Refusal
dispose_row s d = do
  r ← one_register s d
  Ok (words.dispose r)

-- `freeze o`
unfoldable pub freeze_row : Scope → Data → Result Instruction Refusal
freeze_row s d = do
  r ← one_register s d
  Ok (words.freeze r)

-- `thaw o`
unfoldable pub thaw_row : Scope → Data → Result Instruction Refusal
thaw_row s d = do
  r ← one_register s d
  Ok (words.thaw r)

-- `adopt d o o`
unfoldable pub adopt_row : Scope → Data → Result Instruction Refusal
adopt_row s d = do
  r ← three_registers s d
  Ok (words.adopt r.0 r.1 r.2)

-- `notify o p`
unfoldable pub notify_row : Scope → Data → Result Instruction Refusal
notify_row s d = do
  r ← register_and_name s d
  Ok (words.notify r.0 r.1)
