-- How a program's rest goes on past an instruction, and where a program begins.
use Rattle.std.specs.Prelude.{◌≡◌, ℕ, suc, ◌+◌, ◌-◌, ◌≤◌, true, false, List, [], length, drop, Option, None, Ok, Some, slice_get}
use Rattle.ui_machine.specs.Definition.{Definition}
use Rattle.ui_machine.specs.Definition.Values.{Value}
use Rattle.ui_machine.specs.Definition.Programs.{Instruction, Block, Program}
use Rattle.ui_machine.specs.Definition.Lookups.{program_at}
use Rattle.ui_machine.specs.State.Tasks.{Registers, Frame}
use Rattle.ui_machine.specs.Rules.Programs.{first_registers, first_frame}
use Rattle.law_typing.specs.Rules.Typing as typing
use Rattle.law_typing.specs.Rules.Typing.{after}
use Rattle.law_typing.specs.Rules.Brackets.{opened, keeps, keeps_brackets}
use Rattle.law_typing.specs.Graph.{graph, start_of}
use Rattle.law_typing.specs.Graph.Tables.{Tables, of_program}
use Rattle.law_typing.specs.Graph.Costs.{start_cost}
use Rattle.law_typing.specs.Graph.Depths.{start_depth}
use Rattle.law_typing.specs.Verdict.Accepted.{Accepted}
use Rattle.law_typing.specs.Laws.WellRead.{WellRead, ends}
use Rattle.law_typing.specs.Good.Standing.{Standing, RegistersFit}
use Rattle.law_typing.specs.Good.ComingDown.{Down, none, awaited, Comes}
use Rattle.law_typing.specs.Good.Programs.{RunningGood}
use Rattle.law_static.specs.Sites.{kinds_at}
use Rattle.law_static.specs.Fits.{AllHold}

-- ** an instruction that is taken

-- what is known of the instruction that a program has come to, and of what it costs
pub record Taken (d : Definition) (costs depths : Tables) (s : Standing) (f : Frame) (steps frames : ℕ)
    (r : RunningGood d costs depths s none f steps frames) (i : Instruction) : Type 0 where
  -- it keeps its rule, with the kinds that the registers have
  pub typed : typing.typed d r.p r.ks i ≡ Ok (after d r.p r.ks i)
  -- these are the kinds of its place
  pub at_site : r.ks ≡ kinds_at d r.p r.b f.at
  -- it keeps the brackets that are open after it
  pub brackets : keeps_brackets (opened (drop (suc f.at) r.b.code)) i ≡ true
  -- it costs a step, and what it may start
  pub cheap : 1 + start_cost (graph d) costs (start_of d r.ks i) ≤ steps
  pub shallow : 1 + start_depth depths (start_of d r.ks i) ≤ frames

abbrev pub InstructionsTaken : Type 0
InstructionsTaken =
    (d : Definition) (costs depths : Tables) (s : Standing) (f : Frame) (steps frames : ℕ)
    (r : RunningGood d costs depths s none f steps frames) (i : Instruction) → slice_get r.b.code f.at ≡ Some i →
    Taken d costs depths s f steps frames r i

-- the frame past an instruction, with these registers
abbrev pub gone_on : Frame → Registers → Frame
gone_on f registers = record f { at = suc f.at; into = None; registers = registers }

-- past an instruction that does not end its block the rest is good with what is left of the steps, wherever its registers fit
abbrev pub ProgramsGoOn : Type 0
ProgramsGoOn =
    (d : Definition) → WellRead d → (costs depths : Tables) (s z : Standing) (f : Frame) (steps frames : ℕ)
    (r : RunningGood d costs depths s none f steps frames) (i : Instruction) → slice_get r.b.code f.at ≡ Some i → ends i ≡ false →
    (registers : Registers) → length registers ≡ r.p.registers → RegistersFit d z (after d r.p r.ks i) registers →
    RunningGood d costs depths z none (gone_on f registers) (steps - (1 + start_cost (graph d) costs (start_of d r.ks i))) frames

-- One that waits for what comes down, in a register whose bracket is not open, goes on as well, where its kinds are those of its next place
-- once that has come.
abbrev pub ProgramsWait : Type 0
ProgramsWait =
    (d : Definition) → WellRead d → (costs depths : Tables) (s z : Standing) (f : Frame) (steps frames : ℕ)
    (r : RunningGood d costs depths s none f steps frames) (i : Instruction) → slice_get r.b.code f.at ≡ Some i → ends i ≡ false →
    (into : Option ℕ) (up : Down) → Comes into up → keeps (opened (drop (suc f.at) r.b.code)) into ≡ true →
    awaited r.ks into up ≡ after d r.p r.ks i → RegistersFit d z r.ks f.registers →
    RunningGood d costs depths z up (record f { at = suc f.at; into = into })
    (steps - (1 + start_cost (graph d) costs (start_of d r.ks i))) frames

-- ** where a program begins

-- the frame of a program at its first instruction, with these registers
abbrev pub begun : ℕ → Program → Registers → Frame
begun number p registers = record (first_frame number p []) { registers = registers }

-- with registers that hold what its first block says a program begins well, within its cost and depth
abbrev pub ProgramsBegin : Type 0
ProgramsBegin =
    (d : Definition) → WellRead d → (a : Accepted d) → (s : Standing) (number : ℕ) (p : Program) (b : Block) (registers : Registers) →
    program_at d number ≡ Some p → slice_get p.blocks 0 ≡ Some b → length registers ≡ p.registers → RegistersFit d s b.entry registers →
    RunningGood d a.weighed.costs a.weighed.depths s none (begun number p registers) (of_program a.weighed.costs number)
    (of_program a.weighed.depths number)

-- the first registers hold what the first block says, where what is given holds what the parameters say
abbrev pub FirstRegistersFit : Type 0
FirstRegistersFit =
    (d : Definition) → WellRead d → (s : Standing) (number : ℕ) (p : Program) (b : Block) (args : List Value) →
    program_at d number ≡ Some p →
    slice_get p.blocks 0 ≡ Some b → AllHold d s args p.params →
    (length (first_registers p args) ≡ p.registers) × RegistersFit d s b.entry (first_registers p args)
