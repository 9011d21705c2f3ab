-- The machine's programs that code keeps.
use Rattle.std.specs.Prelude.{ℕ, map, option_map, string_bytes}
use Rattle.std.specs.Rc.{rc_str_bytes}
use Rattle.ui_machine.specs.Definition.Kinds as kinds
use Rattle.ui_machine.specs.Definition.Programs as words
use Rattle.g_values.specs.View.{kind_view}
use Rattle.bytecode.specs.declared.computations.Register.{Register}
use Rattle.bytecode.specs.declared.instructions.Connection.{Connection}
use Rattle.bytecode.specs.declared.instructions.Call.{Call}
use Rattle.bytecode.specs.declared.instructions.ControlInstruction.{ControlInstruction}
use Rattle.bytecode.specs.declared.instructions.ControlInstruction.TheVariants as controls
use Rattle.bytecode.specs.declared.instructions.PropertyInstruction.{PropertyInstruction}
use Rattle.bytecode.specs.declared.instructions.PropertyInstruction.TheVariants as properties
use Rattle.bytecode.specs.declared.instructions.ObjectInstruction.{ObjectInstruction}
use Rattle.bytecode.specs.declared.instructions.ObjectInstruction.TheVariants as objects
use Rattle.bytecode.specs.declared.instructions.SignalInstruction.{SignalInstruction}
use Rattle.bytecode.specs.declared.instructions.SignalInstruction.TheVariants as signals
use Rattle.bytecode.specs.declared.instructions.SourceInstruction.{SourceInstruction}
use Rattle.bytecode.specs.declared.instructions.SourceInstruction.TheVariants as sources
use Rattle.bytecode.specs.declared.instructions.Instruction.{Instruction}
use Rattle.bytecode.specs.declared.instructions.Instruction.TheVariants as instructions
use Rattle.bytecode.specs.declared.programs.RegisterKind.{RegisterKind}
use Rattle.bytecode.specs.declared.programs.RegisterKind.TheVariants as register_kinds
use Rattle.bytecode.specs.declared.programs.Block.{Block}
use Rattle.bytecode.specs.declared.programs.Program.{Program}
use Rattle.bytecode.specs.Computing.{instruction_of}

abbrev pub register_kind_view : RegisterKind → kinds.RegisterKind
register_kind_view register_kinds.Unset = kinds.unset
register_kind_view (register_kinds.Plain kind) = kinds.plain (kind_view kind)
register_kind_view (register_kinds.NotNull t) = kinds.some t
register_kind_view (register_kinds.At c) = kinds.at c.0
register_kind_view (register_kinds.AtOrNull c) = kinds.at_or_null c.0

abbrev pub number_of : Register → ℕ
number_of r = r.0

abbrev pub connect_view : Connection → words.Connect
connect_view c = record {
  signal = string_bytes c.signal;
  detail = option_map string_bytes c.detail;
  program = string_bytes c.program;
  after = c.after;
  swapped = c.swapped;
  with = option_map number_of c.with;
}

abbrev pub control_view : ControlInstruction → words.Instruction
control_view (controls.Jump to) = words.jump to.0
control_view (controls.Branch on then_to else_to) = words.branch on.0 then_to.0 else_to.0
control_view (controls.BranchNull on then_to else_to) = words.branch_null on.0 then_to.0 else_to.0
control_view (controls.Return from) = words.return (option_map number_of from)

abbrev pub property_instruction_view : PropertyInstruction → words.Instruction
property_instruction_view (properties.Get to object property) = words.get to.0 object.0 (string_bytes property)
property_instruction_view (properties.Set object property from) = words.set object.0 (string_bytes property) from.0
property_instruction_view (properties.Notify object property) = words.notify object.0 (string_bytes property)
property_instruction_view (properties.Freeze object) = words.freeze object.0
property_instruction_view (properties.Thaw object) = words.thaw object.0

abbrev pub object_instruction_view : ObjectInstruction → words.Instruction
object_instruction_view (objects.LookUp to id) = words.object to.0 (string_bytes id)
object_instruction_view (objects.New to id) = words.new to.0 (string_bytes id)
object_instruction_view (objects.Sink object) = words.sink object.0
object_instruction_view (objects.Orphan object) = words.orphan object.0
object_instruction_view (objects.Dispose object) = words.dispose object.0
object_instruction_view (objects.Adopt to parent child) = words.adopt to.0 parent.0 child.0

abbrev pub signal_instruction_view : SignalInstruction → words.Instruction
signal_instruction_view (signals.Emit into object signal detail args) =
    words.emit (option_map number_of into) object.0 (string_bytes signal) (option_map rc_str_bytes detail) (map number_of args.items)
signal_instruction_view (signals.Connect to object connection) = words.connect to.0 object.0 (connect_view connection)
signal_instruction_view (signals.Disconnect object program) = words.disconnect object.0 (string_bytes program)
signal_instruction_view (signals.Block object program) = words.block object.0 (string_bytes program)
signal_instruction_view (signals.Unblock object program) = words.unblock object.0 (string_bytes program)
signal_instruction_view signals.Stop = words.stop

abbrev pub source_instruction_view : SourceInstruction → words.Instruction
source_instruction_view (sources.Unbind name) = words.unbind (string_bytes name)
source_instruction_view (sources.Idle to program priority with) = words.idle to.0 (string_bytes program) priority (option_map number_of with)
source_instruction_view (sources.Timeout to program priority interval with) =
    words.timeout to.0 (string_bytes program) priority interval (option_map number_of with)
source_instruction_view (sources.Remove program) = words.remove (string_bytes program)

abbrev pub call_view : Call → words.Instruction
call_view c = words.call c.to.0 c.object.0 (string_bytes c.method) (map number_of c.args.items)

abbrev pub instruction_view : Instruction → words.Instruction
instruction_view (instructions.Compute to computation) = instruction_of computation to.0
instruction_view (instructions.Control i) = control_view i
instruction_view (instructions.Property i) = property_instruction_view i
instruction_view (instructions.Object i) = object_instruction_view i
instruction_view (instructions.Signal i) = signal_instruction_view i
instruction_view (instructions.Source i) = source_instruction_view i
instruction_view (instructions.Peer c) = call_view c

abbrev pub block_view : Block → words.Block
block_view b = record { entry = map register_kind_view b.entry.items; repeat = b.repeat; code = map instruction_view b.code.items }

abbrev pub program_view : Program → words.Program
program_view p = record {
  name = string_bytes p.name;
  params = map register_kind_view p.params.items;
  registers = p.registers;
  result = option_map kind_view p.result;
  blocks = map block_view p.blocks.items;
}
