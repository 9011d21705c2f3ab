-- The blocks of a program: jumps, branches, repeated blocks and returns.
use Rattle.std.specs.Prelude.{Bool, Err, List, None, Ok, Option, Some, [], cond, false, length, nat_eq, nat_lt, slice_get, suc, true, ℕ, ◌&&◌, ◌-◌}
use Rattle.ui_machine.specs.declared.arm.Arm.TheVariants as arms
use Rattle.ui_machine.specs.Definition.{Definition}
use Rattle.ui_machine.specs.Definition.Lookups.{program_at}
use Rattle.ui_machine.specs.Definition.Programs.{Block, passes_in}
use Rattle.ui_machine.specs.Definition.Values.{Value}
use Rattle.ui_machine.specs.Definition.Values as values
use Rattle.ui_machine.specs.Instructions.Registers.{goes_on, truth_in, value_in}
use Rattle.ui_machine.specs.Outcome.{Answer, known, only_if, ◌>>=◌}
use Rattle.ui_machine.specs.Rules.Accumulation.{given_down, suits}
use Rattle.ui_machine.specs.Rules.Transform.{kind_fits}
use Rattle.ui_machine.specs.State.Config.{Left, Started, World}
use Rattle.ui_machine.specs.State.Objects.{class_in}
use Rattle.ui_machine.specs.State.Tasks.{Frame, Task}

-- ** jumps

-- the program goes on at the first instruction of a block
unfoldable pub jumping : Definition → World → Frame → ℕ → Answer Started
jumping d w f to = do
  p ← known arms.Code (program_at d f.program)
  b ← known arms.Code (slice_get p.blocks to)
  goes_on w [] (record f { block = to; at = 0; passes = passes_in b })

-- `if a b b`
unfoldable pub branching : Definition → World → Frame → (on then_to else_to : ℕ) → Answer Started
branching d w f on then_to else_to = do
  p ← truth_in f on
  jumping d w f (cond p then_to else_to)

-- whether a text or object is null
abbrev pub null_of : Value → Answer Bool
null_of (values.text None) = Ok true
null_of (values.text (Some s)) = Ok false
null_of (values.object None) = Ok true
null_of (values.object (Some i)) = Ok false
null_of _ = Err arms.Register

-- `ifnull a b b`
unfoldable pub branching_null : Definition → World → Frame → (on then_to else_to : ℕ) → Answer Started
branching_null d w f on then_to else_to = do
  v ← value_in f on
  p ← null_of v
  jumping d w f (cond p then_to else_to)

-- ** blocks and their passes

-- the block that a program is in
unfoldable pub block_in : Definition → Frame → Answer Block
block_in d f = do
  p ← known arms.Code (program_at d f.program)
  known arms.Code (slice_get p.blocks f.block)

-- A block is a body and a last instruction. Whether the program has come to the last one
abbrev pub is_at_last : Block → Frame → Bool
is_at_last b f = nat_eq (suc f.at) (length b.code)

-- whether a further pass of the body is left
abbrev pub has_pass : Frame → Bool
has_pass f = nat_lt 1 f.passes

-- whether the program has come past an instruction of its block
abbrev pub is_past_first : Frame → Bool
is_past_first f = nat_lt 0 f.at

-- whether the body is passed again: the last instruction is due after a body, and a pass is left
abbrev pub is_again : Block → Frame → Bool
is_again b f = is_past_first f && (has_pass f && is_at_last b f)

-- the frame in its next pass
abbrev pub in_pass : Block → Frame → Frame
in_pass b f = cond (is_again b f) (record f { at = 0; passes = f.passes - 1 }) f

-- the frame past an instruction
abbrev pub past : Frame → Frame
past f = record f { at = suc f.at }

-- ** returns

-- the value of a register that may be left out
unfoldable pub given_by : Frame → Option ℕ → Answer (Option Value)
given_by f None = Ok None
given_by f (Some from) = do
  v ← value_in f from
  Ok (Some v)

-- what a program gives, of the kind that it says
unfoldable pub returned : Definition → World → Frame → Option ℕ → Answer (Option Value)
returned d w f from = do
  p ← known arms.Code (program_at d f.program)
  given ← given_by f from
  only_if (suits (kind_fits (class_in w.objects) d.types) given p.result) arms.Result (Ok given)

-- `return z`: the program ends, and what it gives goes to the task below
unfoldable pub returning : Definition → World → Frame → List Task → Option ℕ → Answer Left
returning d w f rest from = do
  given ← returned d w f from
  given_down d w rest given
