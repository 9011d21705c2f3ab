-- The rows of the instructions that touch registers alone: what comes after the word, and the machine's instruction.
use Rattle.std.specs.Prelude.{Result, Ok}
use Rattle.serde_json.specs.Data.{Data}
use Rattle.ui_machine.specs.Outcome.{◌>>=◌}
use Rattle.ui_machine.specs.Definition.Programs.{Arithmetic, Instruction}
use Rattle.ui_machine.specs.Definition.Programs as words
use Rattle.bytecode.specs.Reading.Operands.{Refusal, no_operand, number_at, kind_at, value_at}
use Rattle.bytecode.specs.Reading.Scopes.{Scope}
use Rattle.bytecode.specs.Reading.OperandShapes.{one_register, two_registers, three_registers, comparison_at}

-- `const d k v`
unfoldable pub const_row : Scope → Data → Result Instruction Refusal
const_row s d = do
  only ← no_operand d 4
  to ← number_at s.registers d 1
  kind ← kind_at s.types d 2
  value ← value_at s.types kind d 3
  Ok (words.const to kind value)

-- `move d s`
unfoldable pub move_row : Scope → Data → Result Instruction Refusal
move_row s d = do
  r ← two_registers s d
  Ok (words.move r.0 r.1)

-- `clear d`
unfoldable pub clear_row : Scope → Data → Result Instruction Refusal
clear_row s d = do
  r ← one_register s d
  Ok (words.clear r)

-- `add d a b`, `sub` and `mul`
unfoldable pub arithmetic_row : Arithmetic → Scope → Data → Result Instruction Refusal
arithmetic_row operation s d = do
  r ← three_registers s d
  Ok (words.arithmetic operation r.0 r.1 r.2)

-- `cmp d op a b`
unfoldable pub compare_row : Scope → Data → Result Instruction Refusal
compare_row s d = do
  only ← no_operand d 5
  to ← number_at s.registers d 1
  comparison ← comparison_at d 2
  a ← number_at s.registers d 3
  b ← number_at s.registers d 4
  Ok (words.compare comparison to a b)

-- `same d a b`
unfoldable pub same_row : Scope → Data → Result Instruction Refusal
same_row s d = do
  r ← three_registers s d
  Ok (words.same r.0 r.1 r.2)

-- `not d a`
unfoldable pub not_row : Scope → Data → Result Instruction Refusal
not_row s d = do
  r ← two_registers s d
  Ok (words.negate r.0 r.1)

-- `and d a b`
unfoldable pub and_row : Scope → Data → Result Instruction Refusal
and_row s d = do
  r ← three_registers s d
  Ok (words.both r.0 r.1 r.2)

-- `or d a b`
unfoldable pub or_row : Scope → Data → Result Instruction Refusal
or_row s d = do
  r ← three_registers s d
  Ok (words.either r.0 r.1 r.2)

-- `join d a b`
unfoldable pub join_row : Scope → Data → Result Instruction Refusal
join_row s d = do
  r ← three_registers s d
  Ok (words.join r.0 r.1 r.2)

-- `convert d a k`
unfoldable pub convert_row : Scope → Data → Result Instruction Refusal
convert_row s d = do
  only ← no_operand d 4
  to ← number_at s.registers d 1
  a ← number_at s.registers d 2
  kind ← kind_at s.types d 3
  Ok (words.convert to a kind)
