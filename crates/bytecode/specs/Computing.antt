-- Instructions that touch registers alone, as the machine has them.
use Rattle.std.specs.Prelude.{ℕ, List, map, Option, option_map}
use Rattle.ui_machine.specs.Definition.Types.{GType}
use Rattle.ui_machine.specs.Definition.Programs.{Instruction}
use Rattle.ui_machine.specs.Definition.Programs as words
use Rattle.ui_machine.specs.State.Tasks.{Registers}
use Rattle.g_values.specs.declared.value.Value.{Value}
use Rattle.g_values.specs.View.{kind_view, value_view, value_kind, IsKnown}
use Rattle.bytecode.specs.declared.computations.Arithmetic.{Arithmetic}
use Rattle.bytecode.specs.declared.computations.Arithmetic.TheVariants.{Add, Sub, Mul}
use Rattle.bytecode.specs.declared.computations.Comparison.{Comparison}
use Rattle.bytecode.specs.declared.computations.Comparison.TheVariants.{Equal, Less, AtMost}
use Rattle.bytecode.specs.declared.computations.Computation.{Computation}
use Rattle.bytecode.specs.declared.computations.Computation.TheVariants as computations

-- the machine's registers that these values denote
abbrev pub registers_of : List (Option Value) → Registers
registers_of registers = map (option_map value_view) registers

abbrev pub operation_of : Arithmetic → words.Arithmetic
operation_of Add = words.add
operation_of Sub = words.sub
operation_of Mul = words.mul

abbrev pub comparison_of : Comparison → words.Comparison
comparison_of Equal = words.eq
comparison_of Less = words.lt
comparison_of AtMost = words.le

-- the machine's instruction that writes to this register
abbrev pub instruction_of : Computation → (to : ℕ) → Instruction
instruction_of (computations.Const v) to = words.const to (value_kind v) (value_view v)
instruction_of (computations.Move from) to = words.move to from.0
instruction_of computations.Clear to = words.clear to
instruction_of (computations.Arithmetic operation a b) to = words.arithmetic (operation_of operation) to a.0 b.0
instruction_of (computations.Compare comparison a b) to = words.compare (comparison_of comparison) to a.0 b.0
instruction_of (computations.Same a b) to = words.same to a.0 b.0
instruction_of (computations.Not a) to = words.negate to a.0
instruction_of (computations.And a b) to = words.both to a.0 b.0
instruction_of (computations.Or a b) to = words.either to a.0 b.0
instruction_of (computations.Join a b) to = words.join to a.0 b.0
instruction_of (computations.Convert a kind) to = words.convert to a.0 (kind_view kind)

-- the type that a kind of it names is one of its sort
abbrev pub HasKnownKind : List GType → Computation → Type 0
HasKnownKind types (computations.Const v) = Unit {0}
HasKnownKind types (computations.Move from) = Unit {0}
HasKnownKind types computations.Clear = Unit {0}
HasKnownKind types (computations.Arithmetic operation a b) = Unit {0}
HasKnownKind types (computations.Compare comparison a b) = Unit {0}
HasKnownKind types (computations.Same a b) = Unit {0}
HasKnownKind types (computations.Not a) = Unit {0}
HasKnownKind types (computations.And a b) = Unit {0}
HasKnownKind types (computations.Or a b) = Unit {0}
HasKnownKind types (computations.Join a b) = Unit {0}
HasKnownKind types (computations.Convert a kind) = IsKnown types kind
