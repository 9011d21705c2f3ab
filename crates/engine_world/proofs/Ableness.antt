-- What follows where no arm stops a part of a step.
use Rattle.std.proofs.Common.{◌≡◌, refl, subst, ℕ, suc, ◌<◌, Bool, true, false, nat_lt, List, Option, None, Some, IsOk, Ok, Err}
use Rattle.std.proofs.lemmas.Bool.Decides.{nat_tests}
use Rattle.std.proofs.Common.{arith}
use Rattle.ui_machine.specs.declared.arm.Arm.{Arm}
use Rattle.ui_machine.specs.declared.arm.Arm.TheVariants as arms
use Rattle.ui_machine.specs.Instructions.{in_front}
use Rattle.ui_machine.specs.Outcome.{Answer, known, only_if, ◌>>=◌}
use Rattle.ui_machine.specs.State.Config.{Left, Started}
use Rattle.ui_machine.specs.State.Tasks.{Task}
use Rattle.ui_machine.specs.Steps.{counted, counted_left, left, most_steps, uncounted}
use Rattle.engine_world.specs.Able.{Able}

-- ** parts

-- it is no arm
pub no_arm : {A : Type 0} (a : Answer A) (arm : Arm) → Able a → a ≡ Err arm → ⊥
no_arm {A} a arm able is = subst (λ (x : Answer A). Able x) is able

-- what is no arm
pub none_stops : {A : Type 0} (a : Answer A) → ((arm : Arm) → a ≡ Err arm → ⊥) → Able a
none_stops (Ok x) never = tt
none_stops (Err arm) never = never arm refl

-- and so it leads somewhere
pub is_ok : {A : Type 0} (a : Answer A) → ((arm : Arm) → a ≡ Err arm → ⊥) → IsOk a
is_ok (Ok x) never = refl
is_ok (Err arm) never = absurd (never arm refl)

pub leads_on : {A : Type 0} (a : Answer A) → Able a → (x : A) × (a ≡ Ok x)
leads_on (Ok x) able = (x, refl)
leads_on (Err arm) able = absurd able

-- the same part, named otherwise
pub able_as : {A : Type 0} {a b : Answer A} → a ≡ b → Able a → Able b
able_as {A} is able = subst (λ (x : Answer A). Able x) is able

-- of two parts the first
pub first : {A B : Type 0} (a : Answer A) (f : A → Answer B) → Able (a >>= f) → Able a
first (Ok x) f able = tt
first (Err arm) f able = able

-- and the second, once the first has led somewhere
pub past : {A B : Type 0} (a : Answer A) (f : A → Answer B) (x : A) → a ≡ Ok x → Able (a >>= f) → Able (f x)
past {A} a f x is able = subst (λ (y : Answer A). Able (y >>= f)) is able

-- a test holds
pub tested : {A : Type 0} (b : Bool) (arm : Arm) (a : Answer A) → Able (only_if b arm a) → b ≡ true
tested true arm a able = refl
tested false arm a able = absurd able

-- and what comes after it is able
pub past_test : {A : Type 0} (b : Bool) (arm : Arm) (a : Answer A) → Able (only_if b arm a) → Able a
past_test true arm a able = able
past_test false arm a able = absurd able

-- what is asked for is there
pub is_known : {A : Type 0} (arm : Arm) (o : Option A) → Able (known arm o) → (x : A) × (o ≡ Some x)
is_known arm (Some x) able = (x, refl)
is_known arm None able = absurd able

-- ** steps

pub in_left : (n : ℕ) (a : Answer Left) → Able (left n a) → Able a
unfolding left
in_left n (Ok l) able = tt
in_left n (Err arm) able = able

pub in_uncounted : (rest : List Task) (n : ℕ) (a : Answer Started) → Able (uncounted rest n a) → Able a
in_uncounted rest n (Ok s) able = tt
in_uncounted rest n (Err arm) able = able

pub in_rest : (rest : List Task) (a : Answer Started) → Able (in_front rest a) → Able a
unfolding in_front
in_rest rest (Ok s) able = tt
in_rest rest (Err arm) able = able

-- what an instruction starts
pub instructed : (n : ℕ) (rest : List Task) (a : Answer Started) → Able (left n (in_front rest a)) → Able a
instructed n rest a able = in_rest rest a (in_left n (in_front rest a) able)

-- a counted step is still to be had
few : (n : ℕ) → nat_lt n most_steps ≡ true → n < most_steps
few n is = grind (arith, nat_tests, is)

pub in_counted : (rest : List Task) (n : ℕ) (a : Answer Started) → Able (counted rest n a) → (n < most_steps) × Able a
in_counted rest n a able = (few n (tested _ arms.Steps _ able), in_uncounted rest (suc n) a (past_test (nat_lt n most_steps) arms.Steps _ able))

pub in_counted_left : (n : ℕ) (a : Answer Left) → Able (counted_left n a) → (n < most_steps) × Able (left (suc n) a)
in_counted_left n a able = (few n (tested _ arms.Steps _ able), past_test (nat_lt n most_steps) arms.Steps _ able)
