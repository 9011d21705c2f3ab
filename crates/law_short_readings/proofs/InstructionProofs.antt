-- A constant of an instruction that was read is short.
use Rattle.std.proofs.Common.{ℕ, List, Result, Ok, Err, codes}
use Rattle.std.specs.Prelude.{IfOk}
use Rattle.std.specs.Str.{bytes_eq}
use Rattle.serde_json.specs.Data.{Data}
use Rattle.ui_machine.specs.Definition.Kinds.{Kind}
use Rattle.ui_machine.specs.Definition.Programs.{Arithmetic, Instruction}
use Rattle.ui_machine.specs.Definition.Programs as words
use Rattle.ui_machine.specs.Runs.{IsShort}
use Rattle.g_values.specs.Reading.{json_value}
use Rattle.bytecode.specs.Reading.Operands.{Refusal, detail_at, interval_at, kind_at, name_at, no_operand, number_at, operand, priority_at, register_or_null_at, registers_at, taken, value_at}
use Rattle.bytecode.specs.Reading.OperandShapes.{comparison_at, connect_at, one_name, one_register, register_and_blocks, register_and_name, three_registers, two_registers}
use Rattle.bytecode.specs.Reading.Scopes.{Scope}
use Rattle.bytecode.specs.Reading.RegisterRows.{and_row, arithmetic_row, clear_row, compare_row, const_row, convert_row, join_row, move_row, not_row, or_row, same_row}
use Rattle.bytecode.specs.Reading.ObjectRows.{adopt_row, dispose_row, freeze_row, get_row, new_row, notify_row, object_row, orphan_row, set_row, sink_row, thaw_row}
use Rattle.bytecode.specs.Reading.SignalRows.{block_row, connect_row, disconnect_row, emit_row, stop_row, unbind_row, unblock_row}
use Rattle.bytecode.specs.Reading.SourceRows.{call_row, idle_row, remove_row, timeout_row}
use Rattle.bytecode.specs.Reading.JumpRows.{branch_null_row, branch_row, jump_row, return_row}
use Rattle.bytecode.specs.Reading.Words.{instruction_at, jump_word, object_word, register_word, signal_word, source_word}
use Rattle.law_reading.proofs.InstructionProofs.{beside, chosen, on}
use Rattle.law_short_texts.specs.ShortValues.{HasShortConstant}
use Rattle.law_short_readings.proofs.ValueProofs.{value_short}

-- what an operand gives
value_taken : {A E : Type 0} (P : A → Type 0) (r : Result A E) → IfOk r P → IfOk (taken r) P
value_taken P (Ok x) p = p
value_taken P (Err e) p = tt

module _ (s : Scope) where
  abbrev Short : Result Instruction Refusal → Type 0
  Short r = IfOk r HasShortConstant

  constant_short : (kind : Kind) (x : Data) → IfOk (value_at s.types kind x 3) IsShort
  constant_short kind x = beside IsShort (operand x 3) _ λ v. value_taken IsShort (json_value s.types kind v) (value_short s.types kind v)

  -- ** instructions on registers alone, of which one has a constant

  const_short : (x : Data) → Short (const_row s x)
  unfolding const_row
  const_short x =
      beside HasShortConstant (no_operand x 4) _ λ only.
      beside HasShortConstant (number_at s.registers x 1) _ λ to.
      beside HasShortConstant (kind_at s.types x 2) _ λ kind.
      on IsShort HasShortConstant (value_at s.types kind x 3) _ (constant_short kind x) λ value short. short

  move_short : (x : Data) → Short (move_row s x)
  unfolding move_row
  move_short x = beside HasShortConstant (two_registers s x) _ λ r. tt

  clear_short : (x : Data) → Short (clear_row s x)
  unfolding clear_row
  clear_short x = beside HasShortConstant (one_register s x) _ λ r. tt

  arithmetic_short : (operation : Arithmetic) (x : Data) → Short (arithmetic_row operation s x)
  unfolding arithmetic_row
  arithmetic_short operation x = beside HasShortConstant (three_registers s x) _ λ r. tt

  compare_short : (x : Data) → Short (compare_row s x)
  unfolding compare_row
  compare_short x =
      beside HasShortConstant (no_operand x 5) _ λ only.
      beside HasShortConstant (number_at s.registers x 1) _ λ to.
      beside HasShortConstant (comparison_at x 2) _ λ comparison.
      beside HasShortConstant (number_at s.registers x 3) _ λ a.
      beside HasShortConstant (number_at s.registers x 4) _ λ b. tt

  same_short : (x : Data) → Short (same_row s x)
  unfolding same_row
  same_short x = beside HasShortConstant (three_registers s x) _ λ r. tt

  not_short : (x : Data) → Short (not_row s x)
  unfolding not_row
  not_short x = beside HasShortConstant (two_registers s x) _ λ r. tt

  and_short : (x : Data) → Short (and_row s x)
  unfolding and_row
  and_short x = beside HasShortConstant (three_registers s x) _ λ r. tt

  or_short : (x : Data) → Short (or_row s x)
  unfolding or_row
  or_short x = beside HasShortConstant (three_registers s x) _ λ r. tt

  join_short : (x : Data) → Short (join_row s x)
  unfolding join_row
  join_short x = beside HasShortConstant (three_registers s x) _ λ r. tt

  convert_short : (x : Data) → Short (convert_row s x)
  unfolding convert_row
  convert_short x =
      beside HasShortConstant (no_operand x 4) _ λ only.
      beside HasShortConstant (number_at s.registers x 1) _ λ to.
      beside HasShortConstant (number_at s.registers x 2) _ λ a.
      beside HasShortConstant (kind_at s.types x 3) _ λ kind. tt

  -- ** instructions on properties and objects

  get_short : (x : Data) → Short (get_row s x)
  unfolding get_row
  get_short x =
      beside HasShortConstant (no_operand x 4) _ λ only.
      beside HasShortConstant (number_at s.registers x 1) _ λ to.
      beside HasShortConstant (number_at s.registers x 2) _ λ object.
      beside HasShortConstant (name_at x 3) _ λ property. tt

  set_short : (x : Data) → Short (set_row s x)
  unfolding set_row
  set_short x =
      beside HasShortConstant (no_operand x 4) _ λ only.
      beside HasShortConstant (number_at s.registers x 1) _ λ object.
      beside HasShortConstant (name_at x 2) _ λ property.
      beside HasShortConstant (number_at s.registers x 3) _ λ from. tt

  object_short : (x : Data) → Short (object_row s x)
  unfolding object_row
  object_short x = beside HasShortConstant (register_and_name s x) _ λ r. tt

  new_short : (x : Data) → Short (new_row s x)
  unfolding new_row
  new_short x = beside HasShortConstant (register_and_name s x) _ λ r. tt

  sink_short : (x : Data) → Short (sink_row s x)
  unfolding sink_row
  sink_short x = beside HasShortConstant (one_register s x) _ λ r. tt

  orphan_short : (x : Data) → Short (orphan_row s x)
  unfolding orphan_row
  orphan_short x = beside HasShortConstant (one_register s x) _ λ r. tt

  dispose_short : (x : Data) → Short (dispose_row s x)
  unfolding dispose_row
  dispose_short x = beside HasShortConstant (one_register s x) _ λ r. tt

  freeze_short : (x : Data) → Short (freeze_row s x)
  unfolding freeze_row
  freeze_short x = beside HasShortConstant (one_register s x) _ λ r. tt

  thaw_short : (x : Data) → Short (thaw_row s x)
  unfolding thaw_row
  thaw_short x = beside HasShortConstant (one_register s x) _ λ r. tt

  adopt_short : (x : Data) → Short (adopt_row s x)
  unfolding adopt_row
  adopt_short x = beside HasShortConstant (three_registers s x) _ λ r. tt

  notify_short : (x : Data) → Short (notify_row s x)
  unfolding notify_row
  notify_short x = beside HasShortConstant (register_and_name s x) _ λ r. tt

  -- ** instructions on signals, handlers and bindings

  emit_short : (x : Data) → Short (emit_row s x)
  unfolding emit_row
  emit_short x =
      beside HasShortConstant (no_operand x 6) _ λ only.
      beside HasShortConstant (register_or_null_at s.registers x 1) _ λ into.
      beside HasShortConstant (number_at s.registers x 2) _ λ object.
      beside HasShortConstant (name_at x 3) _ λ signal.
      beside HasShortConstant (detail_at x 4) _ λ detail.
      beside HasShortConstant (registers_at s.registers x 5) _ λ args. tt

  connect_short : (x : Data) → Short (connect_row s x)
  unfolding connect_row
  connect_short x =
      beside HasShortConstant (no_operand x 8) _ λ only.
      beside HasShortConstant (number_at s.registers x 1) _ λ to.
      beside HasShortConstant (number_at s.registers x 2) _ λ object.
      beside HasShortConstant (connect_at s x) _ λ c. tt

  disconnect_short : (x : Data) → Short (disconnect_row s x)
  unfolding disconnect_row
  disconnect_short x = beside HasShortConstant (register_and_name s x) _ λ r. tt

  block_short : (x : Data) → Short (block_row s x)
  unfolding block_row
  block_short x = beside HasShortConstant (register_and_name s x) _ λ r. tt

  unblock_short : (x : Data) → Short (unblock_row s x)
  unfolding unblock_row
  unblock_short x = beside HasShortConstant (register_and_name s x) _ λ r. tt

  stop_short : (x : Data) → Short (stop_row s x)
  unfolding stop_row
  stop_short x = beside HasShortConstant (no_operand x 1) _ λ only. tt

  unbind_short : (x : Data) → Short (unbind_row s x)
  unfolding unbind_row
  unbind_short x = beside HasShortConstant (one_name x) _ λ name. tt

  -- ** instructions on sources and peers

  idle_short : (x : Data) → Short (idle_row s x)
  unfolding idle_row
  idle_short x =
      beside HasShortConstant (no_operand x 5) _ λ only.
      beside HasShortConstant (number_at s.registers x 1) _ λ to.
      beside HasShortConstant (name_at x 2) _ λ program.
      beside HasShortConstant (priority_at x 3) _ λ priority.
      beside HasShortConstant (register_or_null_at s.registers x 4) _ λ with. tt

  timeout_short : (x : Data) → Short (timeout_row s x)
  unfolding timeout_row
  timeout_short x =
      beside HasShortConstant (no_operand x 6) _ λ only.
      beside HasShortConstant (number_at s.registers x 1) _ λ to.
      beside HasShortConstant (name_at x 2) _ λ program.
      beside HasShortConstant (priority_at x 3) _ λ priority.
      beside HasShortConstant (interval_at x 4) _ λ interval.
      beside HasShortConstant (register_or_null_at s.registers x 5) _ λ with. tt

  remove_short : (x : Data) → Short (remove_row s x)
  unfolding remove_row
  remove_short x = beside HasShortConstant (one_name x) _ λ program. tt

  call_short : (x : Data) → Short (call_row s x)
  unfolding call_row
  call_short x =
      beside HasShortConstant (no_operand x 5) _ λ only.
      beside HasShortConstant (number_at s.registers x 1) _ λ to.
      beside HasShortConstant (number_at s.registers x 2) _ λ object.
      beside HasShortConstant (name_at x 3) _ λ method.
      beside HasShortConstant (registers_at s.registers x 4) _ λ args. tt

  -- ** instructions that end a block

  jump_short : (x : Data) → Short (jump_row s x)
  unfolding jump_row
  jump_short x =
      beside HasShortConstant (no_operand x 2) _ λ only.
      beside HasShortConstant (number_at s.blocks x 1) _ λ to. tt

  branch_short : (x : Data) → Short (branch_row s x)
  unfolding branch_row
  branch_short x = beside HasShortConstant (register_and_blocks s x) _ λ r. tt

  branch_null_short : (x : Data) → Short (branch_null_row s x)
  unfolding branch_null_row
  branch_null_short x = beside HasShortConstant (register_and_blocks s x) _ λ r. tt

  return_short : (x : Data) → Short (return_row s x)
  unfolding return_row
  return_short x =
      beside HasShortConstant (no_operand x 2) _ λ only.
      beside HasShortConstant (register_or_null_at s.registers x 1) _ λ from. tt

  -- ** by their words

  jump_word_short : (word : List ℕ) (x : Data) → Short (jump_word s word x)
  unfolding jump_word
  jump_word_short word x =
      chosen HasShortConstant (bytes_eq word (codes "jump")) _ _ (jump_short x) (
      chosen HasShortConstant (bytes_eq word (codes "if")) _ _ (branch_short x) (
      chosen HasShortConstant (bytes_eq word (codes "ifnull")) _ _ (branch_null_short x) (
      chosen HasShortConstant (bytes_eq word (codes "return")) _ _ (return_short x) (tt))))

  source_word_short : (word : List ℕ) (x : Data) → Short (source_word s word x)
  unfolding source_word
  source_word_short word x =
      chosen HasShortConstant (bytes_eq word (codes "idle")) _ _ (idle_short x) (
      chosen HasShortConstant (bytes_eq word (codes "timeout")) _ _ (timeout_short x) (
      chosen HasShortConstant (bytes_eq word (codes "remove")) _ _ (remove_short x) (
      chosen HasShortConstant (bytes_eq word (codes "call")) _ _ (call_short x) (jump_word_short word x))))

  signal_word_short : (word : List ℕ) (x : Data) → Short (signal_word s word x)
  unfolding signal_word
  signal_word_short word x =
      chosen HasShortConstant (bytes_eq word (codes "emit")) _ _ (emit_short x) (
      chosen HasShortConstant (bytes_eq word (codes "connect")) _ _ (connect_short x) (
      chosen HasShortConstant (bytes_eq word (codes "disconnect")) _ _ (disconnect_short x) (
      chosen HasShortConstant (bytes_eq word (codes "block")) _ _ (block_short x) (
      chosen HasShortConstant (bytes_eq word (codes "unblock")) _ _ (unblock_short x) (
      chosen HasShortConstant (bytes_eq word (codes "stop")) _ _ (stop_short x) (
      chosen HasShortConstant (bytes_eq word (codes "unbind")) _ _ (unbind_short x) (source_word_short word x)))))))

  object_word_short : (word : List ℕ) (x : Data) → Short (object_word s word x)
  unfolding object_word
  object_word_short word x =
      chosen HasShortConstant (bytes_eq word (codes "get")) _ _ (get_short x) (
      chosen HasShortConstant (bytes_eq word (codes "set")) _ _ (set_short x) (
      chosen HasShortConstant (bytes_eq word (codes "object")) _ _ (object_short x) (
      chosen HasShortConstant (bytes_eq word (codes "new")) _ _ (new_short x) (
      chosen HasShortConstant (bytes_eq word (codes "sink")) _ _ (sink_short x) (
      chosen HasShortConstant (bytes_eq word (codes "orphan")) _ _ (orphan_short x) (
      chosen HasShortConstant (bytes_eq word (codes "dispose")) _ _ (dispose_short x) (
      chosen HasShortConstant (bytes_eq word (codes "adopt")) _ _ (adopt_short x) (
      chosen HasShortConstant (bytes_eq word (codes "freeze")) _ _ (freeze_short x) (
      chosen HasShortConstant (bytes_eq word (codes "thaw")) _ _ (thaw_short x) (
      chosen HasShortConstant (bytes_eq word (codes "notify")) _ _ (notify_short x) (signal_word_short word x)))))))))))

  register_word_short : (word : List ℕ) (x : Data) → Short (register_word s word x)
  unfolding register_word
  register_word_short word x =
      chosen HasShortConstant (bytes_eq word (codes "const")) _ _ (const_short x) (
      chosen HasShortConstant (bytes_eq word (codes "move")) _ _ (move_short x) (
      chosen HasShortConstant (bytes_eq word (codes "clear")) _ _ (clear_short x) (
      chosen HasShortConstant (bytes_eq word (codes "add")) _ _ (arithmetic_short words.add x) (
      chosen HasShortConstant (bytes_eq word (codes "sub")) _ _ (arithmetic_short words.sub x) (
      chosen HasShortConstant (bytes_eq word (codes "mul")) _ _ (arithmetic_short words.mul x) (
      chosen HasShortConstant (bytes_eq word (codes "cmp")) _ _ (compare_short x) (
      chosen HasShortConstant (bytes_eq word (codes "same")) _ _ (same_short x) (
      chosen HasShortConstant (bytes_eq word (codes "not")) _ _ (not_short x) (
      chosen HasShortConstant (bytes_eq word (codes "and")) _ _ (and_short x) (
      chosen HasShortConstant (bytes_eq word (codes "or")) _ _ (or_short x) (
      chosen HasShortConstant (bytes_eq word (codes "join")) _ _ (join_short x) (
      chosen HasShortConstant (bytes_eq word (codes "convert")) _ _ (convert_short x) (object_word_short word x)))))))))))))

  -- an instruction that was read
  pub instruction_short : (x : Data) → Short (instruction_at s x)
  unfolding instruction_at
  instruction_short x = beside HasShortConstant (name_at x 0) _ λ word. register_word_short word x
