-- Instructions that lead to no other block.
use Rattle.std.proofs.Common.{◌≡◌, refl, ℕ, []}
use Rattle.bytecode.specs.Computing.{instruction_of}
use Rattle.bytecode.specs.View.{object_instruction_view, property_instruction_view, signal_instruction_view, source_instruction_view}
use Rattle.bytecode.specs.declared.computations.Computation.{Computation}
use Rattle.bytecode.specs.declared.computations.Computation.TheVariants as computations
use Rattle.bytecode.specs.declared.instructions.ObjectInstruction.{ObjectInstruction}
use Rattle.bytecode.specs.declared.instructions.ObjectInstruction.TheVariants as objects
use Rattle.bytecode.specs.declared.instructions.PropertyInstruction.{PropertyInstruction}
use Rattle.bytecode.specs.declared.instructions.PropertyInstruction.TheVariants as properties
use Rattle.bytecode.specs.declared.instructions.SignalInstruction.{SignalInstruction}
use Rattle.bytecode.specs.declared.instructions.SignalInstruction.TheVariants as signals
use Rattle.bytecode.specs.declared.instructions.SourceInstruction.{SourceInstruction}
use Rattle.bytecode.specs.declared.instructions.SourceInstruction.TheVariants as sources
use Rattle.law_typing.specs.Graph.{next_of}

pub computed : (c : Computation) (to : ℕ) → next_of (instruction_of c to) ≡ []
computed (computations.Const v) to = refl
computed (computations.Move from) to = refl
computed computations.Clear to = refl
computed (computations.Arithmetic operation a b) to = refl
computed (computations.Compare comparison a b) to = refl
computed (computations.Same a b) to = refl
computed (computations.Not a) to = refl
computed (computations.And a b) to = refl
computed (computations.Or a b) to = refl
computed (computations.Join a b) to = refl
computed (computations.Convert a kind) to = refl

pub of_property : (i : PropertyInstruction) → next_of (property_instruction_view i) ≡ []
of_property (properties.Get to object property) = refl
of_property (properties.Set object property from) = refl
of_property (properties.Notify object property) = refl
of_property (properties.Freeze object) = refl
of_property (properties.Thaw object) = refl

pub of_object : (i : ObjectInstruction) → next_of (object_instruction_view i) ≡ []
of_object (objects.LookUp to id) = refl
of_object (objects.New to id) = refl
of_object (objects.Sink object) = refl
of_object (objects.Orphan object) = refl
of_object (objects.Dispose object) = refl
of_object (objects.Adopt to parent child) = refl

pub of_signal : (i : SignalInstruction) → next_of (signal_instruction_view i) ≡ []
of_signal (signals.Emit into object signal detail args) = refl
of_signal (signals.Connect to object connection) = refl
of_signal (signals.Disconnect object program) = refl
of_signal (signals.Block object program) = refl
of_signal (signals.Unblock object program) = refl
of_signal signals.Stop = refl

pub of_source : (i : SourceInstruction) → next_of (source_instruction_view i) ≡ []
of_source (sources.Unbind name) = refl
of_source (sources.Idle to program priority with) = refl
of_source (sources.Timeout to program priority interval with) = refl
of_source (sources.Remove program) = refl
