-- What is known of programs that are read: the kinds that they name.
use Rattle.std.specs.Prelude.{List, All, IfSome}
use Rattle.ui_machine.specs.Definition.Types.{GType}
use Rattle.g_values.specs.View.{IsKnown}
use Rattle.bytecode.specs.declared.instructions.Instruction.{Instruction}
use Rattle.bytecode.specs.declared.instructions.Instruction.TheVariants as instructions
use Rattle.bytecode.specs.declared.programs.Block.{Block}
use Rattle.bytecode.specs.declared.programs.Program.{Program}
use Rattle.bytecode.specs.declared.programs.RegisterKind.{RegisterKind}
use Rattle.bytecode.specs.declared.programs.RegisterKind.TheVariants as register_kinds
use Rattle.bytecode.specs.Computing.{HasKnownKind}

-- the type that a kind in the instruction names is one of its sort
abbrev pub HasKnownKinds : List GType → Instruction → Type 0
HasKnownKinds types (instructions.Compute to computation) = HasKnownKind types computation
HasKnownKinds types _ = Unit {0}

-- the same of a kind of values that a register is to have
abbrev pub IsKnownRegister : List GType → RegisterKind → Type 0
IsKnownRegister types (register_kinds.Plain kind) = IsKnown types kind
IsKnownRegister types _ = Unit {0}

-- the same of each instruction of a block
abbrev pub HasKnownCode : List GType → Block → Type 0
HasKnownCode types b = All (λ i. HasKnownKinds types i) b.code.items

-- the same of each block of a program, of its parameters and of its result
abbrev pub HasKnownBlocks : List GType → Program → Type 0
HasKnownBlocks types p = All (λ b. HasKnownCode types b) p.blocks.items × All (λ k. IsKnownRegister types k) p.params.items × IfSome p.result (λ k. IsKnown types k)
