-- Instructions that start nothing.
use Rattle.std.proofs.Common.{◌≡◌, refl, ℕ}
use Rattle.bytecode.specs.Computing.{instruction_of}
use Rattle.bytecode.specs.View.{control_view, source_instruction_view}
use Rattle.bytecode.specs.declared.computations.Computation.{Computation}
use Rattle.bytecode.specs.declared.computations.Computation.TheVariants as computations
use Rattle.bytecode.specs.declared.instructions.ControlInstruction.{ControlInstruction}
use Rattle.bytecode.specs.declared.instructions.ControlInstruction.TheVariants as controls
use Rattle.bytecode.specs.declared.instructions.SourceInstruction.{SourceInstruction}
use Rattle.bytecode.specs.declared.instructions.SourceInstruction.TheVariants as sources
use Rattle.ui_machine.specs.Definition.{Definition}
use Rattle.law_typing.specs.Rules.RegisterKinds.{Kinds}
use Rattle.verify_starts.specs.Triggers.{idle, trigger_of}

-- those that touch registers alone
pub computed : (d : Definition) (ks : Kinds) (c : Computation) (to : ℕ) → trigger_of d ks (instruction_of c to) ≡ idle
computed d ks (computations.Const v) to = refl
computed d ks (computations.Move from) to = refl
computed d ks computations.Clear to = refl
computed d ks (computations.Arithmetic operation a b) to = refl
computed d ks (computations.Compare comparison a b) to = refl
computed d ks (computations.Same a b) to = refl
computed d ks (computations.Not a) to = refl
computed d ks (computations.And a b) to = refl
computed d ks (computations.Or a b) to = refl
computed d ks (computations.Join a b) to = refl
computed d ks (computations.Convert a kind) to = refl

-- those that end a block
pub controlled : (d : Definition) (ks : Kinds) (i : ControlInstruction) → trigger_of d ks (control_view i) ≡ idle
controlled d ks (controls.Jump to) = refl
controlled d ks (controls.Branch on then_to else_to) = refl
controlled d ks (controls.BranchNull on then_to else_to) = refl
controlled d ks (controls.Return from) = refl

-- those on bindings and sources
pub sourced : (d : Definition) (ks : Kinds) (i : SourceInstruction) → trigger_of d ks (source_instruction_view i) ≡ idle
sourced d ks (sources.Unbind name) = refl
sourced d ks (sources.Idle to program priority with) = refl
sourced d ks (sources.Timeout to program priority interval with) = refl
sourced d ks (sources.Remove program) = refl
