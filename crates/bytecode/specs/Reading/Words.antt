-- The instructions, by their words: each word has its row.
use Rattle.std.specs.Prelude.{ℕ, List, codes, if◌then◌else◌, Result, Err}
use Rattle.std.specs.Str.{bytes_eq}
use Rattle.serde_json.specs.Data.{Data}
use Rattle.ui_machine.specs.Outcome.{◌>>=◌}
use Rattle.ui_machine.specs.Definition.Programs.{Instruction}
use Rattle.ui_machine.specs.Definition.Programs as words
use Rattle.bytecode.specs.Reading.Operands.{Refusal, bad_instruction, name_at}
use Rattle.bytecode.specs.Reading.Scopes.{Scope}
use Rattle.bytecode.specs.Reading.RegisterRows.{const_row, move_row, clear_row, arithmetic_row, compare_row, same_row, not_row, and_row, or_row, join_row, convert_row}
use Rattle.bytecode.specs.Reading.ObjectRows.{get_row, set_row, object_row, new_row, sink_row, orphan_row, dispose_row, freeze_row, thaw_row, adopt_row, notify_row}
use Rattle.bytecode.specs.Reading.SignalRows.{emit_row, connect_row, disconnect_row, block_row, unblock_row, stop_row, unbind_row}
use Rattle.bytecode.specs.Reading.SourceRows.{idle_row, timeout_row, remove_row, call_row}
use Rattle.bytecode.specs.Reading.JumpRows.{jump_row, branch_row, branch_null_row, return_row}

-- instructions that end a block
unfoldable pub jump_word : Scope → List ℕ → Data → Result Instruction Refusal
jump_word s word d =
    if bytes_eq word (codes "jump") then jump_row s d else
    (if bytes_eq word (codes "if") then branch_row s d else
    (if bytes_eq word (codes "ifnull") then branch_null_row s d else
    (if bytes_eq word (codes "return") then return_row s d else
    (Err bad_instruction))))

-- instructions on sources and peers
unfoldable pub source_word : Scope → List ℕ → Data → Result Instruction Refusal
source_word s word d =
    if bytes_eq word (codes "idle") then idle_row s d else
    (if bytes_eq word (codes "timeout") then timeout_row s d else
    (if bytes_eq word (codes "remove") then remove_row s d else
    (if bytes_eq word (codes "call") then call_row s d else
    (jump_word s word d))))

-- instructions on signals, handlers and bindings
unfoldable pub signal_word : Scope → List ℕ → Data → Result Instruction Refusal
signal_word s word d =
    if bytes_eq word (codes "emit") then emit_row s d else
    (if bytes_eq word (codes "connect") then connect_row s d else
    (if bytes_eq word (codes "disconnect") then disconnect_row s d else
    (if bytes_eq word (codes "block") then block_row s d else
    (if bytes_eq word (codes "unblock") then unblock_row s d else
    (if bytes_eq word (codes "stop") then stop_row s d else
    (if bytes_eq word (codes "unbind") then unbind_row s d else
    (source_word s word d)))))))

-- instructions on properties and objects
unfoldable pub object_word : Scope → List ℕ → Data → Result Instruction Refusal
object_word s word d =
    if bytes_eq word (codes "get") then get_row s d else
    (if bytes_eq word (codes "set") then set_row s d else
    (if bytes_eq word (codes "object") then object_row s d else
    (if bytes_eq word (codes "new") then new_row s d else
    (if bytes_eq word (codes "sink") then sink_row s d else
    (if bytes_eq word (codes "orphan") then orphan_row s d else
    (if bytes_eq word (codes "dispose") then dispose_row s d else
    (if bytes_eq word (codes "adopt") then adopt_row s d else
    (if bytes_eq word (codes "freeze") then freeze_row s d else
    (if bytes_eq word (codes "thaw") then thaw_row s d else
    (if bytes_eq word (codes "notify") then notify_row s d else
    (signal_word s word d)))))))))))

-- instructions on registers alone
unfoldable pub register_word : Scope → List ℕ → Data → Result Instruction Refusal
register_word s word d =
    if bytes_eq word (codes "const") then const_row s d else
    (if bytes_eq word (codes "move") then move_row s d else
    (if bytes_eq word (codes "clear") then clear_row s d else
    (if bytes_eq word (codes "add") then arithmetic_row words.add s d else
    (if bytes_eq word (codes "sub") then arithmetic_row words.sub s d else
    (if bytes_eq word (codes "mul") then arithmetic_row words.mul s d else
    (if bytes_eq word (codes "cmp") then compare_row s d else
    (if bytes_eq word (codes "same") then same_row s d else
    (if bytes_eq word (codes "not") then not_row s d else
    (if bytes_eq word (codes "and") then and_row s d else
    (if bytes_eq word (codes "or") then or_row s d else
    (if bytes_eq word (codes "join") then join_row s d else
    (if bytes_eq word (codes "convert") then convert_row s d else
    (object_word s word d)))))))))))))

-- the instruction that a JSON array denotes
unfoldable pub instruction_at : Scope → Data → Result Instruction Refusal
instruction_at s d = do
  word ← name_at d 0
  register_word s word d
