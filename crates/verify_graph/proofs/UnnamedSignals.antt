-- Instructions that name no signal.
use Rattle.std.proofs.Common.{◌≡◌, refl, ℕ, None}
use Rattle.bytecode.specs.Computing.{instruction_of}
use Rattle.bytecode.specs.View.{control_view, object_instruction_view, property_instruction_view, source_instruction_view}
use Rattle.bytecode.specs.declared.computations.Computation.{Computation}
use Rattle.bytecode.specs.declared.computations.Computation.TheVariants as computations
use Rattle.bytecode.specs.declared.instructions.ControlInstruction.{ControlInstruction}
use Rattle.bytecode.specs.declared.instructions.ControlInstruction.TheVariants as controls
use Rattle.bytecode.specs.declared.instructions.ObjectInstruction.{ObjectInstruction}
use Rattle.bytecode.specs.declared.instructions.ObjectInstruction.TheVariants as objects
use Rattle.bytecode.specs.declared.instructions.PropertyInstruction.{PropertyInstruction}
use Rattle.bytecode.specs.declared.instructions.PropertyInstruction.TheVariants as properties
use Rattle.bytecode.specs.declared.instructions.SourceInstruction.{SourceInstruction}
use Rattle.bytecode.specs.declared.instructions.SourceInstruction.TheVariants as sources
use Rattle.law_idle.specs.Idle.{signal_named}

-- those that touch registers alone
pub computed : (c : Computation) (to : ℕ) → signal_named (instruction_of c to) ≡ None
computed (computations.Const v) to = refl
computed (computations.Move from) to = refl
computed computations.Clear to = refl
computed (computations.Arithmetic operation a b) to = refl
computed (computations.Compare comparison a b) to = refl
computed (computations.Same a b) to = refl
computed (computations.Not a) to = refl
computed (computations.And a b) to = refl
computed (computations.Or a b) to = refl
computed (computations.Join a b) to = refl
computed (computations.Convert a kind) to = refl

-- those that end a block
pub controlled : (i : ControlInstruction) → signal_named (control_view i) ≡ None
controlled (controls.Jump to) = refl
controlled (controls.Branch on then_to else_to) = refl
controlled (controls.BranchNull on then_to else_to) = refl
controlled (controls.Return from) = refl

-- those on properties
pub of_property : (i : PropertyInstruction) → signal_named (property_instruction_view i) ≡ None
of_property (properties.Get to object property) = refl
of_property (properties.Set object property from) = refl
of_property (properties.Notify object property) = refl
of_property (properties.Freeze object) = refl
of_property (properties.Thaw object) = refl

-- those on objects
pub of_object : (i : ObjectInstruction) → signal_named (object_instruction_view i) ≡ None
of_object (objects.LookUp to id) = refl
of_object (objects.New to id) = refl
of_object (objects.Sink object) = refl
of_object (objects.Orphan object) = refl
of_object (objects.Dispose object) = refl
of_object (objects.Adopt to parent child) = refl

-- those on bindings and sources
pub sourced : (i : SourceInstruction) → signal_named (source_instruction_view i) ≡ None
sourced (sources.Unbind name) = refl
sourced (sources.Idle to program priority with) = refl
sourced (sources.Timeout to program priority interval with) = refl
sourced (sources.Remove program) = refl
