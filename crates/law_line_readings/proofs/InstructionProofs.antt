-- An instruction that was read emits with a short detail, if it emits.
use Rattle.std.proofs.Common.{ℕ, List, Result}
use Rattle.std.specs.Prelude.{IfOk, ⊤}
use Rattle.serde_json.specs.Data.{Data}
use Rattle.ui_machine.specs.Definition.Programs.{Instruction}
use Rattle.bytecode.specs.Reading.Operands.{Refusal, detail_at, name_at, no_operand, number_at, register_or_null_at, registers_at}
use Rattle.bytecode.specs.Reading.Scopes.{Scope}
use Rattle.bytecode.specs.Reading.RegisterRows.{and_row, arithmetic_row, clear_row, compare_row, const_row, convert_row, join_row, move_row, not_row, or_row, same_row}
use Rattle.bytecode.specs.Reading.ObjectRows.{adopt_row, dispose_row, freeze_row, get_row, new_row, notify_row, object_row, orphan_row, set_row, sink_row, thaw_row}
use Rattle.bytecode.specs.Reading.SignalRows.{block_row, connect_row, disconnect_row, emit_row, stop_row, unbind_row, unblock_row}
use Rattle.bytecode.specs.Reading.SourceRows.{call_row, idle_row, remove_row, timeout_row}
use Rattle.bytecode.specs.Reading.JumpRows.{branch_null_row, branch_row, jump_row, return_row}
use Rattle.bytecode.specs.Reading.Words.{instruction_at, jump_word, object_word, register_word, signal_word, source_word}
use Rattle.law_reading.proofs.InstructionProofs.{beside, chosen, on}
use Rattle.law_short_lines.specs.ShortParts.{IsShortDetail, SaysShortDetail}
use Rattle.law_line_readings.proofs.DetailProofs.{detail_read}

module _ (s : Scope) where
  abbrev Short : Result Instruction Refusal → Type 0
  Short r = IfOk r SaysShortDetail

  nothing : ⊤
  nothing = tt

  emit_short : (x : Data) → Short (emit_row s x)
  unfolding emit_row
  emit_short x =
      beside SaysShortDetail (no_operand x 6) _ λ only.
      beside SaysShortDetail (register_or_null_at s.registers x 1) _ λ into.
      beside SaysShortDetail (number_at s.registers x 2) _ λ object.
      beside SaysShortDetail (name_at x 3) _ λ signal.
      on IsShortDetail SaysShortDetail (detail_at x 4) _ (detail_read x 4) λ detail short.
      beside SaysShortDetail (registers_at s.registers x 5) _ λ args. short

  -- ** by their words

  jump_word_short : (word : List ℕ) (x : Data) → Short (jump_word s word x)
  unfolding jump_word jump_row branch_row branch_null_row return_row
  jump_word_short word x = search (beside, chosen, nothing) depth 12

  source_word_short : (word : List ℕ) (x : Data) → Short (source_word s word x)
  unfolding source_word idle_row timeout_row remove_row call_row
  source_word_short word x = search (beside, chosen, nothing, jump_word_short) depth 16

  signal_word_short : (word : List ℕ) (x : Data) → Short (signal_word s word x)
  unfolding signal_word connect_row disconnect_row block_row unblock_row stop_row unbind_row
  signal_word_short word x = search (beside, chosen, nothing, emit_short, source_word_short) depth 16

  object_word_short : (word : List ℕ) (x : Data) → Short (object_word s word x)
  unfolding object_word get_row set_row object_row new_row sink_row orphan_row dispose_row adopt_row freeze_row thaw_row notify_row
  object_word_short word x = search (beside, chosen, nothing, signal_word_short) depth 20

  register_word_short : (word : List ℕ) (x : Data) → Short (register_word s word x)
  unfolding register_word const_row move_row clear_row arithmetic_row compare_row same_row not_row and_row or_row join_row convert_row
  register_word_short word x = search (beside, chosen, nothing, object_word_short) depth 20

  -- an instruction that was read
  pub instruction_short : (x : Data) → Short (instruction_at s x)
  unfolding instruction_at
  instruction_short x = beside SaysShortDetail (name_at x 0) _ λ word. register_word_short word x
