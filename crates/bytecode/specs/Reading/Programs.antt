-- Which program a value denotes, or why it denotes none. Bad instructions come first, then what `shape_fault` says; of one sort the first
-- block, and the first instruction in it.
use Rattle.std.specs.Prelude.{◌≡◌, ℕ, ◌-◌, min, List, [], ◌∷◌, ◌++◌, length, replicate, if◌then◌else◌, Option, None, Some, Result, Ok, Err}
use Rattle.serde_json.specs.Data.{Data}
use Rattle.ui_machine.specs.Outcome.{◌>>=◌}
use Rattle.ui_machine.specs.Definition.Kinds.{RegisterKind, unset}
use Rattle.ui_machine.specs.Definition.Programs as machine
use Rattle.bytecode.specs.declared.faults.ProgramFault.{ProgramFault}
use Rattle.bytecode.specs.declared.faults.ProgramFault.TheVariants as faults
use Rattle.bytecode.specs.declared.errors.ProgramError.{ProgramError}
use Rattle.bytecode.specs.declared.errors.ProgramError.TheVariants as errors
use Rattle.bytecode.specs.Reading.Operands.{Refusal}
use Rattle.bytecode.specs.Reading.Scopes.{Scope}
use Rattle.bytecode.specs.Reading.Words.{instruction_at}
use Rattle.bytecode.specs.Shape.{at_block, is_ended, shape_fault}
use Rattle.bytecode.specs.Reading.Each.{each}
use Rattle.bytecode.specs.Reading.RegisterKinds.{Names}
use Rattle.bytecode.specs.Reading.Outline.{BlockOutline, Outline}

-- ** instructions

abbrev pub good_at : {A : Type 0} → (block at : ℕ) → Result A Refusal → Result A ProgramFault
good_at block at (Ok x) = Ok x
good_at block at (Err refusal) = Err (faults.BadInstruction (at_block block) at)

-- an instruction, which comes after none that ends the block
abbrev pub instruction_behind : Scope → ℕ → ℕ → List machine.Instruction → Data → Result machine.Instruction ProgramFault
instruction_behind s block at code d =
    if is_ended code then Err (faults.BadInstruction (at_block block) at) else good_at block at (instruction_at s d)

-- the instructions of a block, with the one that an entry gives
abbrev pub with_next_instruction : Scope → ℕ → ℕ → List machine.Instruction → Data → Result (List machine.Instruction) ProgramFault
with_next_instruction s block at code d = do
  instruction ← instruction_behind s block at code d
  Ok (code ++ instruction ∷ [])

unfoldable pub code_in : Scope → ℕ → List Data → Result (List machine.Instruction) ProgramFault
code_in s block ds = each (with_next_instruction s block) 0 [] ds

-- ** blocks

-- Kinds, filled up with unset to so many registers. No more than 32 are added: a program with more registers is refused.
abbrev pub filled : ℕ → List RegisterKind → List RegisterKind
filled registers kinds = kinds ++ replicate (min (registers - length kinds) 32) unset

-- the blocks, with one whose instructions are these
abbrev pub code_step : Scope → ℕ → List machine.Block → BlockOutline → Result (List machine.Block) ProgramFault
code_step s i blocks b = do
  code ← code_in s i b.code
  Ok (blocks ++ (record { entry = filled s.registers b.entry; repeat = b.repeat; code = code }) ∷ [])

unfoldable pub blocks_in : Scope → List BlockOutline → Result (List machine.Block) ProgramFault
blocks_in s bs = each (code_step s) 0 [] bs

-- ** programs

-- what the instructions of a program may name
abbrev pub scope_of : Names → Outline → Scope
scope_of names o = record { types = names.types; registers = o.registers; blocks = length o.blocks }

abbrev pub program_with : Outline → List machine.Block → machine.Program
program_with o blocks = record { name = o.name; params = o.params; registers = o.registers; result = o.result; blocks = blocks }

abbrev pub unless_fault : machine.Program → Option ProgramFault → Result machine.Program ProgramFault
unless_fault p None = Ok p
unless_fault p (Some fault) = Err fault

-- the program of an outline
unfoldable pub program_of : Names → Outline → Result machine.Program ProgramFault
program_of names o = do
  blocks ← blocks_in (scope_of names o) o.blocks
  unless_fault (program_with o blocks) (shape_fault (program_with o blocks))

-- ** what code answers

-- What a function returned, seen by view, is what reading gives, unless memory ran out.
abbrev pub Fails : {Y : Type 0} → ProgramError → Result Y ProgramFault → Type 0
Fails errors.OutOfMemory read = Unit {0}
Fails (errors.Refused fault) read = read ≡ Err fault

abbrev pub Gives : {X Y : Type 0} → (X → Y) → Result X ProgramError → Result Y ProgramFault → Type 0
Gives view (Ok x) read = read ≡ Ok (view x)
Gives view (Err e) read = Fails e read
