-- Programs that run, as the machine has them, and how they go on.
use Rattle.std.specs.Prelude.{◌≡◌, ℕ, List, [], ◌∷◌, map, Option, None, Some, option_map, option_and_then, slice_get}
use Rattle.ui_machine.specs.Definition.Programs.{passes_in}
use Rattle.ui_machine.specs.Definition.Programs as words
use Rattle.ui_machine.specs.Definition.Values.{Value}
use Rattle.ui_machine.specs.State.Tasks as config
use Rattle.ui_machine.specs.Instructions.Jumps.{in_pass, past}
pub use Rattle.frames.specs.declared.frame.Frame.{Frame}
use Rattle.bytecode.specs.Computing.{registers_of}
use Rattle.bytecode.specs.View.{number_of}

-- the machine's frame
abbrev pub frame_view : Frame → config.Frame
frame_view f = record {
  program = f.program;
  block = f.block.0;
  at = f.at;
  passes = f.passes;
  into = option_map number_of f.into;
  registers = registers_of f.registers.items;
}

-- an instruction that was taken, and the frame past it
pub record Taken : Type 0 where
  pub instruction : words.Instruction
  pub frame : config.Frame

-- the next instruction of a block
abbrev pub taken_of : config.Frame → words.Block → Option Taken
taken_of f b = option_map (λ i. record { instruction = i; frame = past (in_pass b f) }) (slice_get b.code (in_pass b f).at)

-- the next instruction of a program, if it has come to one
abbrev pub taken_in : words.Program → config.Frame → Option Taken
taken_in p f = option_and_then (taken_of f) (slice_get p.blocks f.block)

-- what code took, and the frame that it left
abbrev pub Takes : Option words.Instruction → Option Taken → config.Frame → Type 0
Takes None taken new = taken ≡ None
Takes (Some i) taken new = taken ≡ Some (record { instruction = i; frame = new })

-- the frame at the first instruction of a block
abbrev pub at_block : ℕ → config.Frame → words.Block → config.Frame
at_block to f b = record f { block = to; at = 0; passes = passes_in b }

-- ** registers that a program begins with

-- the values of those that are set
abbrev pub set_values : config.Registers → List Value
set_values [] = []
set_values (None ∷ rs) = set_values rs
set_values (Some v ∷ rs) = v ∷ set_values rs

-- all of them are set
abbrev pub AreSet : config.Registers → Type 0
AreSet rs = rs ≡ map (λ v. Some v) (set_values rs)
