-- The registers of a program that runs: what instructions read and write in them, and `const`, `move`, `clear`.
use Rattle.std.specs.Prelude.{Bool, Err, List, None, Ok, Option, Some, [], is_some, length, nat_lt, ℕ, ℤ, ◌++◌, ◌∷◌}
use Rattle.ui_machine.specs.declared.arm.Arm.TheVariants as arms
use Rattle.ui_machine.specs.Definition.Kinds.{Whole}
use Rattle.ui_machine.specs.Definition.Values.{Value}
use Rattle.ui_machine.specs.Definition.Values as values
use Rattle.ui_machine.specs.Outcome.{After, Answer, known, only_if, ◌>>=◌}
use Rattle.ui_machine.specs.Seq.{read, write}
use Rattle.ui_machine.specs.State.Config.{Started, World, starts}
use Rattle.ui_machine.specs.State.Objects.{living}
use Rattle.ui_machine.specs.State.Tasks.{Frame, Registers, Running, Task}

-- ** reading

-- the value of a register that is set
abbrev pub value_in : Frame → ℕ → Answer Value
value_in f from = known arms.Register (read None f.registers from)

-- the values of some registers, all set
unfoldable pub values_in : Frame → List ℕ → Answer (List Value)
values_in f [] = Ok []
values_in f (from ∷ more) = do
  v ← value_in f from
  vs ← values_in f more
  Ok (v ∷ vs)

-- the truth of a value of that kind
abbrev pub truth_of : Value → Answer Bool
truth_of (values.bool b) = Ok b
truth_of _ = Err arms.Register

-- the text of a value of that kind
abbrev pub text_of : Value → Answer (Option (List ℕ))
text_of (values.text s) = Ok s
text_of _ = Err arms.Register

-- a whole number and its kind
pub record WholeNumber : Type 0 where
  pub kind : Whole
  pub number : ℤ

-- the whole number of such a value
abbrev pub whole_of : Value → Answer WholeNumber
whole_of (values.whole kind n) = Ok (record { kind = kind; number = n })
whole_of _ = Err arms.Register

-- the identity that a value names; null names none
abbrev pub identity_of : Value → Answer ℕ
identity_of (values.object (Some i)) = Ok i
identity_of (values.object None) = Err arms.Operand
identity_of _ = Err arms.Register

-- the truth in a register
unfoldable pub truth_in : Frame → ℕ → Answer Bool
truth_in f from = do
  v ← value_in f from
  truth_of v

-- the text in a register
unfoldable pub text_in : Frame → ℕ → Answer (Option (List ℕ))
text_in f from = do
  v ← value_in f from
  text_of v

-- the whole number in a register
unfoldable pub whole_in : Frame → ℕ → Answer WholeNumber
whole_in f from = do
  v ← value_in f from
  whole_of v

-- the living object that a register names
unfoldable pub operand_in : World → Frame → ℕ → Answer ℕ
operand_in w f from = do
  v ← value_in f from
  i ← identity_of v
  only_if (is_some (living w.objects i)) arms.Operand (Ok i)

-- the living object of an operand that may be left out
unfoldable pub data_in : World → Frame → Option ℕ → Answer (Option ℕ)
data_in w f None = Ok None
data_in w f (Some from) = do
  i ← operand_in w f from
  Ok (Some i)

-- ** writing

-- the registers with one written, or unset
abbrev pub with_register : ℕ → Option Value → Registers → Answer Registers
with_register to v registers = only_if (nat_lt to (length registers)) arms.Code (Ok (write None registers to v))

-- ** what an instruction answers

-- what it starts goes in front of the rest of the program
abbrev pub goes_on : World → List Task → Frame → Answer Started
goes_on w tasks f = starts w (tasks ++ Running f ∷ [])

-- a register is written
unfoldable pub written_to : World → ℕ → Option Value → Frame → Answer Started
written_to w to v f = do
  registers ← with_register to v f.registers
  goes_on w [] (record f { registers = registers })

-- a value is written to a register
abbrev pub gives : World → ℕ → Value → Frame → Answer Started
gives w to v f = written_to w to (Some v) f

-- one of two worlds, with what was done as TRUE or FALSE
abbrev pub tells : After World Bool → ℕ → Frame → Answer Started
tells done to f = gives done.state to (values.bool done.answer) f

-- ** registers

-- `const d k v`
abbrev pub constant : World → Frame → ℕ → Value → Answer Started
constant w f to v = gives w to v f

-- `move d s`
unfoldable pub moving : World → Frame → (to from : ℕ) → Answer Started
moving w f to from = do
  v ← value_in f from
  gives w to v f

-- `clear d`
abbrev pub clearing : World → Frame → ℕ → Answer Started
clearing w f to = written_to w to None f
