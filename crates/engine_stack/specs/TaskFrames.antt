-- The frames among the tasks, and the vectors that programs and emissions have of a stack's stocks.
use Rattle.std.specs.Prelude.{◌≡◌, ℕ, ◌+◌, ◌*◌, ◌≤◌, ◌||◌, Option, None, Some, Vec, cond, is_some, vec_capacity, vec_len}
use Rattle.std.specs.Global.{Global}
use Rattle.ui_machine.specs.Seq.{total}
use Rattle.engine_stack.specs.Stocks.{Kept, is_usual}
use Rattle.frames.specs.declared.frame.Frame.{Frame}
use Rattle.engine_stack.specs.declared.emission_frames.EmissionFrame.{EmissionFrame}
use Rattle.engine_stack.specs.declared.task.Task.{Task}
use Rattle.engine_stack.specs.declared.task.Task.TheVariants as tasks

-- the program of a task that is one
abbrev pub program_in : Task → Option Frame
program_in (tasks.Running frame) = Some frame
program_in _ = None

-- the emission of a task that is one
abbrev pub emission_in : Task → Option EmissionFrame
emission_in (tasks.Emitting frame) = Some frame
emission_in _ = None

-- 1 for a program or an emission that goes on, and 0 for any other task
abbrev pub is_framed : Task → ℕ
is_framed t = cond (is_some (program_in t) || is_some (emission_in t)) 1 0

-- how many of these tasks are programs or emissions
abbrev pub framed : Vec Task Global → ℕ
framed tasks = total is_framed tasks.items

-- so many tasks more have room, and there is a vector for one of them, if it is a program or an emission
abbrev pub HasPlaces : ℕ → Vec Task Global → Type 0
HasPlaces more tasks = (vec_len tasks + more ≤ vec_capacity tasks) × (2 * (framed tasks + 1) ≤ vec_capacity tasks)

-- ** vectors

-- how many vectors of this room a program has, which is one or none
abbrev pub registers_had : (room : ℕ) → Option Frame → ℕ
registers_had room None = 0
registers_had room (Some f) = is_usual room f.registers

-- the same of an emission
abbrev pub args_had : (room : ℕ) → Option EmissionFrame → ℕ
args_had room None = 0
args_had room (Some f) = is_usual room f.args

-- the same of a task
abbrev pub registers_used : (room : ℕ) → Task → ℕ
registers_used room t = registers_had room (program_in t)

abbrev pub args_used : (room : ℕ) → Task → ℕ
args_used room t = args_had room (emission_in t)

-- The vectors that tasks have and those that are left are all that there are, and there is one for every second task that has room. So one is
-- left while fewer than half of what has room are programs and emissions.
pub record IsStocked (used : (room : ℕ) → Task → ℕ) (tasks : Vec Task Global) (stock : Kept) : Type 0 where
  pub left : total (used stock.room) tasks.items + stock.count ≡ stock.most
  pub enough : vec_capacity tasks ≤ 2 * stock.most + 1

-- a task that is neither a program nor an emission that goes on, and so has no vector of a stock
pub record IsFrameless (t : Task) : Type 0 where
  pub program : program_in t ≡ None
  pub emission : emission_in t ≡ None
