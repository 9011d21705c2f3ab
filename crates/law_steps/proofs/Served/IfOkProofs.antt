-- What holds of an answer that is no arm: P of what it gives.
use Rattle.std.proofs.Common.{Bool, true, false, cond, Result, Ok, Err}
use Rattle.std.specs.Prelude.{IfOk}
use Rattle.ui_machine.specs.Outcome.{◌>>=◌, only_if}

-- one answer after the other
pub after_each : {A B E : Type 0} (x : Result A E) (f : A → Result B E) (P : B → Type 0) → ((u : A) → IfOk (f u) P) → IfOk (x >>= f) P
after_each (Ok u) f P all = all u
after_each (Err arm) f P all = tt

-- where something is known of the first
pub after_such : {A B E : Type 0} (x : Result A E) (f : A → Result B E) (Q : A → Type 0) (P : B → Type 0) → IfOk x Q →
    ((u : A) → Q u → IfOk (f u) P) → IfOk (x >>= f) P
after_such (Ok u) f Q P such all = all u such
after_such (Err arm) f Q P such all = tt

pub only_such : {A E : Type 0} (b : Bool) (arm : E) (x : Result A E) (P : A → Type 0) → IfOk x P → IfOk (only_if b arm x) P
only_such true arm x P all = all
only_such false arm x P all = tt

pub either_such : {A E : Type 0} (b : Bool) (x y : Result A E) (P : A → Type 0) → IfOk x P → IfOk y P → IfOk (cond b x y) P
either_such true x y P one other = one
either_such false x y P one other = other
