-- What each instruction does, and how a program takes its next one.
pub mod Registers
pub mod Peers
pub mod Arithmetic
pub mod Properties
pub mod Objects
pub mod Signals
pub mod Sources
pub mod Jumps
use Rattle.std.specs.Prelude.{List, None, Some, codes, slice_get, ◌++◌, ◌∷◌}
use Rattle.ui_machine.specs.declared.arm.Arm.TheVariants as arms
use Rattle.ui_machine.specs.Definition.{Definition}
use Rattle.ui_machine.specs.Definition.Programs.{Instruction}
use Rattle.ui_machine.specs.Definition.Programs as words
use Rattle.ui_machine.specs.Instructions.Arithmetic.{comparing, conjunction, converting, disjunction, joining, negating, reckoning, sameness}
use Rattle.ui_machine.specs.Instructions.Jumps.{block_in, branching, branching_null, in_pass, jumping, past, returning}
use Rattle.ui_machine.specs.Instructions.Objects.{adopting, creating, disposing, freezing, look_up_object, orphaning, sinking, thaw_notify}
use Rattle.ui_machine.specs.Instructions.Peers.{calling}
use Rattle.ui_machine.specs.Instructions.Properties.{set_property, get_property, notify_from_program}
use Rattle.ui_machine.specs.Instructions.Registers.{clearing, constant, moving}
use Rattle.ui_machine.specs.Instructions.Signals.{blocking, connecting, disconnecting, emitting, unbinding, unblocking}
use Rattle.ui_machine.specs.Instructions.Sources.{attaching, removing}
use Rattle.ui_machine.specs.Outcome.{Answer, known, ◌>>=◌}
use Rattle.ui_machine.specs.Rules.Accumulation.{stopped}
use Rattle.ui_machine.specs.State.Config.{Left, Started, World, leaves}
use Rattle.ui_machine.specs.State.Tasks.{Frame, Running, Task}

-- what a step starts goes in front of the rest
unfoldable pub in_front : List Task → Answer Started → Answer Left
in_front rest answer = do
  s ← answer
  leaves s.world (s.tasks ++ rest)

-- What each instruction leads to, with the rest of the agenda. `stop` reaches the emission below (g_signal_stop_emission), and `return`
-- ends the program; each other one starts what goes in front of the rest.
abbrev pub instruction_step : Definition → World → List Task → Frame → Instruction → Answer Left
instruction_step d w rest f (words.const to kind v) = in_front rest (constant w f to v)
instruction_step d w rest f (words.move to from) = in_front rest (moving w f to from)
instruction_step d w rest f (words.clear to) = in_front rest (clearing w f to)
instruction_step d w rest f (words.arithmetic operation to a b) = in_front rest (reckoning w f operation to a b)
instruction_step d w rest f (words.compare comparison to a b) = in_front rest (comparing w f comparison to a b)
instruction_step d w rest f (words.same to a b) = in_front rest (sameness w f to a b)
instruction_step d w rest f (words.negate to a) = in_front rest (negating w f to a)
instruction_step d w rest f (words.both to a b) = in_front rest (conjunction w f to a b)
instruction_step d w rest f (words.either to a b) = in_front rest (disjunction w f to a b)
instruction_step d w rest f (words.join to a b) = in_front rest (joining d w f to a b)
instruction_step d w rest f (words.convert to a kind) = in_front rest (converting d w f to a kind)
instruction_step d w rest f (words.get to object name) = in_front rest (get_property d w f to object name)
instruction_step d w rest f (words.set object name from) = in_front rest (set_property d w f object name from)
instruction_step d w rest f (words.object to id) = in_front rest (look_up_object d w f to id)
instruction_step d w rest f (words.new to id) = in_front rest (creating d w rest f to id)
instruction_step d w rest f (words.sink object) = in_front rest (sinking w f object)
instruction_step d w rest f (words.orphan object) = in_front rest (orphaning d w f object)
instruction_step d w rest f (words.dispose object) = in_front rest (disposing d w f object)
instruction_step d w rest f (words.adopt to parent child) = in_front rest (adopting d w f to parent child)
instruction_step d w rest f (words.freeze object) = in_front rest (freezing w f object)
instruction_step d w rest f (words.thaw object) = in_front rest (thaw_notify w f object)
instruction_step d w rest f (words.emit into object name detail args) =
    in_front rest (emitting d w f object (record { into = into; signal = name; detail = detail; args = args }))
instruction_step d w rest f (words.notify object name) = in_front rest (notify_from_program d w f object name)
instruction_step d w rest f (words.connect to object c) = in_front rest (connecting d w rest f to object c)
instruction_step d w rest f (words.disconnect object program) = in_front rest (disconnecting d w f object program)
instruction_step d w rest f (words.block object program) = in_front rest (blocking d w f object program)
instruction_step d w rest f (words.unblock object program) = in_front rest (unblocking d w f object program)
instruction_step d w rest f words.stop = leaves w (Running f ∷ stopped rest)
instruction_step d w rest f (words.unbind name) = in_front rest (unbinding d w f name)
instruction_step d w rest f (words.idle to program priority with) =
    in_front rest (attaching d w f to (record {
      word = codes "idle";
      program = program;
      priority = priority;
      interval = None;
      with = with;
    }))
instruction_step d w rest f (words.timeout to program priority interval with) =
    in_front rest (attaching d w f to (record {
      word = codes "timeout";
      program = program;
      priority = priority;
      interval = Some interval;
      with = with;
    }))
instruction_step d w rest f (words.remove program) = in_front rest (removing d w f program)
instruction_step d w rest f (words.call to object name args) = in_front rest (calling d w f to object name args)
instruction_step d w rest f (words.jump to) = in_front rest (jumping d w f to)
instruction_step d w rest f (words.branch on then_to else_to) = in_front rest (branching d w f on then_to else_to)
instruction_step d w rest f (words.branch_null on then_to else_to) = in_front rest (branching_null d w f on then_to else_to)
instruction_step d w rest f (words.return from) = returning d w f rest from

-- a program takes its next instruction
unfoldable pub running : Definition → World → List Task → Frame → Answer Left
running d w rest f = do
  b ← block_in d f
  i ← known arms.Code (slice_get b.code (in_pass b f).at)
  instruction_step d w rest (past (in_pass b f)) i
