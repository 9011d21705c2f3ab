-- The rows of the instructions that end a block.
use Rattle.std.specs.Prelude.{Result, Ok}
use Rattle.serde_json.specs.Data.{Data}
use Rattle.ui_machine.specs.Outcome.{◌>>=◌}
use Rattle.ui_machine.specs.Definition.Programs.{Instruction}
use Rattle.ui_machine.specs.Definition.Programs as words
use Rattle.bytecode.specs.Reading.Operands.{Refusal, no_operand, number_at, register_or_null_at}
use Rattle.bytecode.specs.Reading.Scopes.{Scope}
use Rattle.bytecode.specs.Reading.OperandShapes.{register_and_blocks}

-- `jump b`
unfoldable pub jump_row : Scope → Data → Result Instruction Refusal
jump_row s d = do
  only ← no_operand d 2
  to ← number_at s.blocks d 1
  Ok (words.jump to)

-- `if a b b`
unfoldable pub branch_row : Scope → Data → Result Instruction Refusal
branch_row s d = do
  r ← register_and_blocks s d
  Ok (words.branch r.0 r.1 r.2)

-- `ifnull a b b`
unfoldable pub branch_null_row : Scope → Data → Result Instruction Refusal
branch_null_row s d = do
  r ← register_and_blocks s d
  Ok (words.branch_null r.0 r.1 r.2)

-- `return z`
unfoldable pub return_row : Scope → Data → Result Instruction Refusal
return_row s d = do
  only ← no_operand d 2
  from ← register_or_null_at s.registers d 1
  Ok (words.return from)
