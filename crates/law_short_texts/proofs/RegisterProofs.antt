-- What a program reads in short registers is short, and so are registers that a short value is written to.
use Rattle.std.proofs.Common.{ℕ, List, [], ◌∷◌, Option, None, Some}
use Rattle.std.specs.Prelude.{IfOk, IfSome, length, nat_lt}
use Rattle.ui_machine.specs.declared.arm.Arm.TheVariants as arms
use Rattle.ui_machine.specs.Definition.Values.{Value}
use Rattle.ui_machine.specs.Definition.Values as values
use Rattle.ui_machine.specs.Instructions.Jumps.{given_by}
use Rattle.ui_machine.specs.Instructions.Registers.{text_in, text_of, value_in, values_in, with_register, written_to}
use Rattle.ui_machine.specs.Rules.Accumulation.{passed_down, received, received_by, taken}
use Rattle.ui_machine.specs.Runs.{IsShort}
use Rattle.ui_machine.specs.Seq.{read}
use Rattle.ui_machine.specs.State.Config.{Left, Started, World}
use Rattle.ui_machine.specs.State.Tasks.{Frame, Registers, Running, Task}
use Rattle.machine_laws.proofs.KeptProofs.{only_keeps}
use Rattle.law_typing.specs.Verdict.Accepted.{Each}
use Rattle.law_short_texts.specs.ShortValues.{IsShortTask, IsShortWorld}
use Rattle.law_short_texts.proofs.Entries.{bind_with, each_read, each_write, known_with}

-- a register's value is short, if it is set
abbrev pub IsShortRegister : Option Value → Type 0
IsShortRegister r = IfSome r IsShort

abbrev pub IsShortFrame : Frame → Type 0
IsShortFrame f = Each IsShortRegister f.registers

-- what a part of a step starts, and what it leaves, is short
abbrev pub StartsShort : Started → Type 0
StartsShort s = IsShortWorld s.world × Each IsShortTask s.tasks

abbrev pub LeavesShort : Left → Type 0
LeavesShort l = IsShortWorld l.world × Each IsShortTask l.agenda

-- ** reading

pub value_in_short : (f : Frame) → IsShortFrame f → (from : ℕ) → IfOk (value_in f from) IsShort
value_in_short f short from = known_with arms.Register (read None f.registers from) IsShort (each_read IsShortRegister None tt f.registers short from)

pub values_in_short : (f : Frame) → IsShortFrame f → (from : List ℕ) → IfOk (values_in f from) (Each IsShort)
unfolding values_in
values_in_short f short [] = tt
values_in_short f short (from ∷ more) = bind_with (value_in f from) _ IsShort (Each IsShort) (value_in_short f short from) (λ v one.
    bind_with (values_in f more) _ (Each IsShort) (Each IsShort) (values_in_short f short more) (λ vs rest. (one, rest)))

of_text : (v : Value) → IsShort v → IfOk (text_of v) (λ s. IsShort (values.text s))
of_text (values.text s) short = short
of_text _ short = tt

pub text_in_short : (f : Frame) → IsShortFrame f → (from : ℕ) → IfOk (text_in f from) (λ s. IsShort (values.text s))
unfolding text_in
text_in_short f short from = bind_with (value_in f from) text_of IsShort (λ s. IsShort (values.text s)) (value_in_short f short from) of_text

-- what a program gives, if it gives something
pub given_short : (f : Frame) → IsShortFrame f → (from : Option ℕ) → IfOk (given_by f from) (λ v. IfSome v IsShort)
unfolding given_by
given_short f short None = tt
given_short f short (Some from) = bind_with (value_in f from) _ IsShort (λ v. IfSome v IsShort) (value_in_short f short from) (λ v one. one)

-- ** writing

pub register_short : (to : ℕ) (v : Option Value) → IfSome v IsShort → (registers : Registers) → Each IsShortRegister registers
    → IfOk (with_register to v registers) (Each IsShortRegister)
register_short to v one registers short = only_keeps (nat_lt to (length registers)) arms.Code _ (Each IsShortRegister) (each_write IsShortRegister None tt registers short to v one)

pub written_short : (w : World) → IsShortWorld w → (to : ℕ) (v : Option Value) → IfSome v IsShort → (f : Frame) → IsShortFrame f → IfOk (written_to w to v f) StartsShort
unfolding written_to
written_short w world to v one f short =
    bind_with (with_register to v f.registers) _ (Each IsShortRegister) StartsShort (register_short to v one f.registers short) (λ registers now. (world, (now, tt)))

-- ** what comes to a program

pub received_by_short : (f : Frame) → IsShortFrame f → (rest : List Task) → Each IsShortTask rest → (to : ℕ) (v : Option Value) → IfSome v IsShort
    → IfOk (received_by f rest to v) (Each IsShortTask)
unfolding received_by
received_by_short f short rest below to v one =
    bind_with (with_register to v f.registers) _ (Each IsShortRegister) (Each IsShortTask) (register_short to v one f.registers short) (λ registers now. (now, below))

pub received_short : (rest : List Task) → Each IsShortTask rest → (to : ℕ) (v : Option Value) → IfSome v IsShort → IfOk (received rest to v) (Each IsShortTask)
received_short (Running f ∷ rest) short to v one = received_by_short f short.0 rest short.1 to v one
received_short _ short to v one = tt

taken_short : (into : Option ℕ) (f : Frame) → IsShortFrame f → (rest : List Task) → Each IsShortTask rest → (v : Option Value) → IfSome v IsShort
    → IfOk (taken into f rest v) (Each IsShortTask)
taken_short None f short rest below v one = (short, below)
taken_short (Some to) f short rest below None one = tt
taken_short (Some to) f short rest below (Some v) one = received_by_short f short rest below to (Some v) one

pub passed_short : (rest : List Task) → Each IsShortTask rest → (v : Option Value) → IfSome v IsShort → IfOk (passed_down rest v) (Each IsShortTask)
passed_short (Running f ∷ rest) short v one = taken_short f.into f short.0 rest short.1 v one
passed_short rest short v one = short
