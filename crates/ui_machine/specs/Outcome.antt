-- An answer is what a part of a step leads to, or the arm by which the machine is stuck.
use Rattle.std.specs.Prelude.{◌≡◌, Bool, true, false, Option, Some, None, Result, Ok, Err}
use Rattle.ui_machine.specs.declared.arm.Arm.{Arm}
use Rattle.ui_machine.specs.declared.arm.Halt.{Halt}
use Rattle.ui_machine.specs.declared.arm.Halt.TheVariants as halts

-- what a part of a step leads to, or the arm
abbrev pub Answer : Type 0 → Type 0
Answer A = Result A Arm

-- what an action leaves, and what it answers
pub record After (S X : Type 0) : Type 0 where
  pub state : S
  pub answer : X

-- one answer after the other: the first that fails is the answer
infixl 10 ◌>>=◌
abbrev pub ◌>>=◌ : {A B E : Type 0} → Result A E → (A → Result B E) → Result B E
(Ok x) >>= f = f x
(Err e) >>= f = Err e

-- what is there, or why not
abbrev pub known : {A E : Type 0} → E → Option A → Result A E
known e None = Err e
known e (Some x) = Ok x

-- the answer if the test holds, or why not
abbrev pub only_if : {A E : Type 0} → Bool → E → Result A E → Result A E
only_if true e answer = answer
only_if false e answer = Err e

-- why code that follows the machine stopped: it found no memory, of which the machine knows nothing, or the machine is stuck there
abbrev pub Stops : {A : Type 0} → Halt → Answer A → Type 0
Stops halts.OutOfMemory answer = Unit {0}
Stops (halts.Stuck arm) answer = answer ≡ Err arm
