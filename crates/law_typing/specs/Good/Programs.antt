-- The rest of a program, within so many steps and frames, and a call that it waits for.
use Rattle.std.specs.Prelude.{◌≡◌, ℕ, suc, ◌+◌, ◌-◌, ◌≤◌, ◌<◌, true, List, [], ◌∷◌, length, drop, Option, None, Some, slice_get, zero}
use Rattle.std.specs.List.{flat_map}
use Rattle.ui_machine.specs.Rules.Transform.{kind_fits}
use Rattle.ui_machine.specs.Definition.{Definition}
use Rattle.ui_machine.specs.Definition.Signals.{Method}
use Rattle.ui_machine.specs.Definition.Programs.{Instruction, Block, Program, passes_in}
use Rattle.ui_machine.specs.Definition.Lookups.{program_at}
use Rattle.ui_machine.specs.State.Peers.{Peer, method_of}
use Rattle.ui_machine.specs.State.Tasks.{Frame, Call, Task, Running}
use Rattle.ui_machine.specs.Rules.Programs.{all_fit}
use Rattle.law_typing.specs.Rules.RegisterKinds.{Kinds}
use Rattle.law_typing.specs.Rules.Typing.{again, first_broken, after}
use Rattle.law_typing.specs.Rules.Brackets.{opened, is_bracketed, keeps}
use Rattle.law_typing.specs.Graph.{graph, starts_of, stretch_of, stretches_of, next_of}
use Rattle.law_typing.specs.Graph.Tables.{Tables}
use Rattle.law_typing.specs.Graph.Costs.{passes_cost, code_cost}
use Rattle.law_typing.specs.Graph.Depths.{program_depth}
use Rattle.law_typing.specs.Laws.WellRead.{has_values}
use Rattle.law_typing.specs.Good.Standing.{Standing, Lives, class_by, RegistersFit, View}
use Rattle.law_typing.specs.Good.ComingDown.{Down, awaited, Comes}

-- the kinds of the registers in front of the instruction of this number, where a block begins with these
abbrev pub kinds_before : Definition → Program → Kinds → (at : ℕ) → List Instruction → Kinds
kinds_before d p ks zero code = ks
kinds_before d p ks (suc at) [] = ks
kinds_before d p ks (suc at) (i ∷ code) = kinds_before d p (after d p ks i) at code

-- the instructions of a block that may be missing
abbrev pub code_of_block : Option Block → List Instruction
code_of_block None = []
code_of_block (Some b) = b.code

-- the instructions of a program's block
abbrev pub code_of : ℕ → Option Program → List Instruction
code_of block None = []
code_of block (Some p) = code_of_block (slice_get p.blocks block)

-- the instructions that a program's rest has still to take in its block
abbrev pub code_left : Definition → Frame → List Instruction
code_left d f = drop f.at (code_of f.block (program_at d f.program))

-- The rest of a program. Once what it waits for has come, its kinds are those of its place in the code.
pub record RunningGood (d : Definition) (costs depths : Tables) (s : Standing) (up : Down) (f : Frame) (steps frames : ℕ) : Type 0 where
  -- it is at an instruction of its program, with no more passes of the block than there are
  pub p : Program
  pub is : program_at d f.program ≡ Some p
  pub b : Block
  pub in_block : slice_get p.blocks f.block ≡ Some b
  pub inside : f.at < length b.code
  pub few : f.passes ≤ passes_in b
  -- it has as many registers as its program, and they hold what their kinds say
  pub counted : length f.registers ≡ p.registers
  pub ks : Kinds
  pub fit : RegistersFit d s ks f.registers
  -- what it waits for comes, into no register whose bracket is open
  pub comes : Comes f.into up
  pub kept : keeps (opened (drop f.at b.code)) f.into ≡ true
  -- then the kinds are those of its place in the code
  pub at_site : awaited ks f.into up ≡ kinds_before d p b.entry f.at b.code
  -- the code left keeps its rules and its brackets
  pub typed : first_broken d p (again b) f.at (awaited ks f.into up) (drop f.at b.code) ≡ None
  pub bracketed : is_bracketed (drop f.at b.code) ≡ true
  -- the passes that are left and the code left cost no more than the steps, and its program goes no deeper than the frames
  pub cheap :
      passes_cost (graph d) costs (f.passes - 1) (stretch_of d p b)
      + code_cost (graph d) costs (stretches_of d p) (starts_of d p (awaited ks f.into up) (drop f.at b.code))
      (flat_map next_of (drop f.at b.code)) ≤ steps
  pub shallow : program_depth depths (stretches_of d p) ≤ frames

-- a call that is due: the object's own open or closed peer has the method, the arguments fit, what it answers has a value, and the program
-- that waits is the next task, with a register for the answer whose bracket is not open
pub record CallingGood (d : Definition) (w : View) (below : List Task) (call : Call) : Type 0 where
  pub lives : Lives (w.stands) call.object
  pub p : Peer
  pub m : Method
  pub is : slice_get w.peers call.peer ≡ Some p
  pub has : method_of p call.method ≡ Some m
  pub args_fit : all_fit (kind_fits (class_by d (w.stands)) d.types) call.args m.params ≡ true
  pub value : has_values d m.result ≡ true
  pub waits : (frame : Frame) × (rest : List Task) × (below ≡ Running frame ∷ rest) × (call.to < length frame.registers)
      × (keeps (opened (code_left d frame)) (Some call.to) ≡ true)
