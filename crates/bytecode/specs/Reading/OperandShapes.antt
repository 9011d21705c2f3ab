-- Operands that many words have.
use Rattle.std.specs.Prelude.{ℕ, List, codes, if◌then◌else◌, Option, None, Some, Result, Ok}
use Rattle.std.specs.Str.{bytes_eq}
use Rattle.serde_json.specs.Data.{Data}
use Rattle.ui_machine.specs.Outcome.{◌>>=◌}
use Rattle.ui_machine.specs.Definition.Programs.{Comparison, Connect}
use Rattle.ui_machine.specs.Definition.Programs as words
use Rattle.bytecode.specs.Reading.Operands.{Refusal, expected, no_operand, number_at, register_or_null_at, name_at, detail_at, options_at}
use Rattle.bytecode.specs.Reading.Scopes.{Scope}

unfoldable pub one_register : Scope → Data → Result ℕ Refusal
one_register s d = do
  only ← no_operand d 2
  number_at s.registers d 1

unfoldable pub two_registers : Scope → Data → Result (ℕ × ℕ) Refusal
two_registers s d = do
  only ← no_operand d 3
  a ← number_at s.registers d 1
  b ← number_at s.registers d 2
  Ok (a, b)

unfoldable pub three_registers : Scope → Data → Result (ℕ × ℕ × ℕ) Refusal
three_registers s d = do
  only ← no_operand d 4
  a ← number_at s.registers d 1
  b ← number_at s.registers d 2
  c ← number_at s.registers d 3
  Ok (a, b, c)

unfoldable pub register_and_name : Scope → Data → Result (ℕ × List ℕ) Refusal
register_and_name s d = do
  only ← no_operand d 3
  r ← number_at s.registers d 1
  name ← name_at d 2
  Ok (r, name)

unfoldable pub one_name : Data → Result (List ℕ) Refusal
one_name d = do
  only ← no_operand d 2
  name_at d 1

-- a register and two blocks
unfoldable pub register_and_blocks : Scope → Data → Result (ℕ × ℕ × ℕ) Refusal
register_and_blocks s d = do
  only ← no_operand d 4
  r ← number_at s.registers d 1
  b ← number_at s.blocks d 2
  c ← number_at s.blocks d 3
  Ok (r, b, c)

-- how two numbers are compared, by its word
abbrev pub comparison_named : List ℕ → Option Comparison
comparison_named word =
    if bytes_eq word (codes "eq") then Some words.eq else
    (if bytes_eq word (codes "lt") then Some words.lt else
    (if bytes_eq word (codes "le") then Some words.le else None))

abbrev pub comparison_at : Data → ℕ → Result Comparison Refusal
comparison_at d n = do
  word ← name_at d n
  expected (comparison_named word)

-- the operands of `connect` after the object
unfoldable pub connect_at : Scope → Data → Result Connect Refusal
connect_at s d = do
  signal ← name_at d 3
  detail ← detail_at d 4
  program ← name_at d 5
  options ← options_at d 6
  with ← register_or_null_at s.registers d 7
  Ok (record { signal = signal; detail = detail; program = program; after = options.after; swapped = options.swapped; with = with })
