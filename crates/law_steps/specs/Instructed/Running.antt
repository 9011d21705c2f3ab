-- The first task is a program that has come to an instruction: what the step that takes it is to keep.
use Rattle.std.specs.Prelude.{◌≡◌, ℕ, ◌≤◌, List, ◌∷◌, Option, None, Some, slice_get}
use Rattle.ui_machine.specs.Definition.{Definition}
use Rattle.ui_machine.specs.Definition.Programs.{Instruction, Block, Program}
use Rattle.ui_machine.specs.Definition.Lookups.{program_at}
use Rattle.ui_machine.specs.State.Tasks.{Frame, Running, Task}
use Rattle.ui_machine.specs.State.Config.{World, Config}
use Rattle.ui_machine.specs.Instructions.{running}
use Rattle.ui_machine.specs.Instructions.Jumps.{in_pass}
use Rattle.ui_machine.specs.Steps.{most_steps, counted_left}
use Rattle.law_typing.specs.Graph.{graph}
use Rattle.law_typing.specs.Graph.Depths.{depth}
use Rattle.law_typing.specs.Verdict.Accepted.{Accepted}
use Rattle.law_typing.specs.Laws.WellRead.{WellRead}
use Rattle.law_typing.specs.Laws.StepsKeepGood.{IsGood, Fine}
use Rattle.law_typing.specs.Good.Programs.{code_of}

-- the block of this number, if there is such a program and it has one
abbrev pub block_if : ℕ → Option Program → Option Block
block_if block None = None
block_if block (Some p) = slice_get p.blocks block

-- the frame in its next pass over a block, where that is due
abbrev pub in_pass_if : Option Block → Frame → Frame
in_pass_if None f = f
in_pass_if (Some b) f = in_pass b f

-- the frame as its program takes an instruction: at the first one of its block, where the block is to be passed again
abbrev pub taking : Definition → Frame → Frame
taking d f = in_pass_if (block_if f.block (program_at d f.program)) f

-- the instruction that a program takes next
abbrev pub instruction_at : Definition → Frame → Option Instruction
instruction_at d f = slice_get (code_of f.block (program_at d f.program)) (taking d f).at

-- the program is the first task
abbrev pub at_top : World → Frame → List Task → ℕ → Config
at_top w f rest n = record { world = w; agenda = Running f ∷ rest; counted = n }

-- from what is good, the counted step that takes an instruction like this is not stuck, and leads to what is good within the same bound
abbrev pub IsFine : Instruction → Type 0
IsFine i =
    (d : Definition) → WellRead d → (a : Accepted d) → (most_counted : ℕ) → most_counted ≤ most_steps → (w : World) (f : Frame)
    (rest : List Task) (n : ℕ) → IsGood d a most_counted (at_top w f rest n) → instruction_at d f ≡ Some i →
    Fine d a.weighed.costs a.weighed.depths most_counted (depth (graph d) a.weighed.depths) (counted_left n (running d w rest f))
