-- All instructions of a definition, each with the kinds of the registers before it.
use Rattle.std.specs.Prelude.{ℕ, suc, List, [], ◌∷◌, ◌++◌, Option, None, Some}
use Rattle.ui_machine.specs.Definition.{Definition}
use Rattle.ui_machine.specs.Definition.Programs.{Instruction, Block, Program}
use Rattle.ui_machine.specs.Definition.Lookups.{program_at}
use Rattle.law_typing.specs.Rules.RegisterKinds.{Kinds}
use Rattle.law_typing.specs.Rules.Answers.{Rule}
use Rattle.law_typing.specs.Rules.Typing.{after, block_broken}
use Rattle.law_typing.specs.Rules.Faults.{Fault, ill_typed}

-- an instruction, its place, and the kinds before it
pub record Site : Type 0 where
  pub program : ℕ
  pub block : ℕ
  pub at : ℕ
  pub kinds : Kinds
  pub instruction : Instruction

-- the sites of some instructions of a block
abbrev pub code_sites : Definition → Program → (program block at : ℕ) → Kinds → List Instruction → List Site
code_sites d p program block at ks [] = []
code_sites d p program block at ks (i ∷ rest) =
    record { program = program; block = block; at = at; kinds = ks; instruction = i }
    ∷ code_sites d p program block (suc at) (after d p ks i) rest

-- those of some blocks, where the first has this number
abbrev pub block_sites : Definition → Program → (program block : ℕ) → List Block → List Site
block_sites d p program block [] = []
block_sites d p program block (b ∷ blocks) = code_sites d p program block 0 b.entry b.code ++ block_sites d p program (suc block) blocks

-- those of some programs, where the first has this number
abbrev pub program_sites : Definition → ℕ → List Program → List Site
program_sites d program [] = []
program_sites d program (p ∷ programs) = block_sites d p program 0 p.blocks ++ program_sites d (suc program) programs

-- all of them, in document order
abbrev pub sites : Definition → List Site
sites d = program_sites d 0 d.programs

-- the sites of a program that may be missing
abbrev pub sites_if : Definition → ℕ → Option Program → List Site
sites_if d program None = []
sites_if d program (Some p) = block_sites d p program 0 p.blocks

-- the sites of a program
abbrev pub sites_of : Definition → ℕ → List Site
sites_of d program = sites_if d program (program_at d program)

-- ** what is ill typed

-- the fault of a block, if an instruction of it breaks a rule
abbrev pub broken_at : (program block : ℕ) → Option (ℕ × Rule) → List Fault
broken_at program block None = []
broken_at program block (Some first) = ill_typed program block first.0 first.1 ∷ []

-- the first fault of each block, where the first block has this number
abbrev pub block_faults : Definition → Program → (program block : ℕ) → List Block → List Fault
block_faults d p program block [] = []
block_faults d p program block (b ∷ blocks) =
    broken_at program block (block_broken d p b) ++ block_faults d p program (suc block) blocks

-- the first fault of each block of each program, where the first program has this number
abbrev pub program_faults : Definition → ℕ → List Program → List Fault
program_faults d program [] = []
program_faults d program (p ∷ programs) = block_faults d p program 0 p.blocks ++ program_faults d (suc program) programs

-- the blocks that are not well typed, in document order; whether a program is run does not matter
abbrev pub typing_faults : Definition → List Fault
typing_faults d = program_faults d 0 d.programs
