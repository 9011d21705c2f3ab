-- What instructions do to brackets.
use Rattle.std.proofs.Common.{◌≡◌, refl, ℕ, List, ◌∷◌, None, Some}
use Rattle.bytecode.specs.Computing.{instruction_of}
use Rattle.bytecode.specs.View.{control_view}
use Rattle.bytecode.specs.declared.computations.Computation.{Computation}
use Rattle.bytecode.specs.declared.computations.Computation.TheVariants as computations
use Rattle.bytecode.specs.declared.instructions.ControlInstruction.{ControlInstruction}
use Rattle.bytecode.specs.declared.instructions.ControlInstruction.TheVariants as controls
use Rattle.ui_machine.specs.Definition.Programs.{Instruction}
use Rattle.ui_machine.specs.Definition.Programs as words
use Rattle.law_typing.specs.Rules.Brackets.{keeps_brackets, opened}
use Rattle.verify_rules.specs.BracketSteps.{is_kept, opened_by, step_of, writes}

-- those that touch registers alone
pub computed : (c : Computation) (to : ℕ) → step_of (instruction_of c to) ≡ writes (Some to)
computed (computations.Const v) to = refl
computed (computations.Move from) to = refl
computed computations.Clear to = refl
computed (computations.Arithmetic operation a b) to = refl
computed (computations.Compare comparison a b) to = refl
computed (computations.Same a b) to = refl
computed (computations.Not a) to = refl
computed (computations.And a b) to = refl
computed (computations.Or a b) to = refl
computed (computations.Join a b) to = refl
computed (computations.Convert a kind) to = refl

-- those that end a block
pub controlled : (i : ControlInstruction) → step_of (control_view i) ≡ writes None
controlled (controls.Jump to) = refl
controlled (controls.Branch on then_to else_to) = refl
controlled (controls.BranchNull on then_to else_to) = refl
controlled (controls.Return from) = refl

-- whether an instruction keeps brackets goes by its step
pub kept_by : (after : List ℕ) (i : Instruction) → keeps_brackets after i ≡ is_kept after (step_of i)
kept_by after (words.freeze r) = refl
kept_by after (words.thaw r) = refl
kept_by after i = refl

-- and which are open before it
pub opened_before : (i : Instruction) (rest : List Instruction) → opened (i ∷ rest) ≡ opened_by (opened rest) (step_of i)
opened_before (words.freeze r) rest = refl
opened_before (words.thaw r) rest = refl
opened_before i rest = refl
