-- What holds of each entry of a list, where the list is read, written or changed.
use Rattle.std.proofs.Common.{◌≡◌, subst, ℕ, zero, suc, Bool, true, false, cond, List, [], ◌∷◌, ◌++◌, map, Option, None, Some, Ok, Err}
use Rattle.std.specs.Prelude.{IfOk, IfSome, slice_get, slice_set}
use Rattle.ui_machine.specs.Outcome.{Answer, known, ◌>>=◌}
use Rattle.ui_machine.specs.declared.arm.Arm.{Arm}
use Rattle.ui_machine.specs.Seq.{read, write}
use Rattle.law_typing.specs.Verdict.Accepted.{Each}

-- ** lists

module _ {A : Type 0} (P : A → Type 0) where
  pub each_read : (x : A) → P x → (xs : List A) → Each P xs → (i : ℕ) → P (read x xs i)
  each_read x p [] all i = p
  each_read x p (y ∷ ys) all zero = all.0
  each_read x p (y ∷ ys) all (suc i) = each_read x p ys all.1 i

  pub each_write : (x : A) → P x → (xs : List A) → Each P xs → (i : ℕ) (y : A) → P y → Each P (write x xs i y)
  each_write x p [] all zero y q = (q, tt)
  each_write x p [] all (suc i) y q = (p, each_write x p [] tt i y q)
  each_write x p (z ∷ zs) all zero y q = (q, all.1)
  each_write x p (z ∷ zs) all (suc i) y q = (all.0, each_write x p zs all.1 i y q)

  pub each_get : (xs : List A) → Each P xs → (i : ℕ) → IfSome (slice_get xs i) P
  each_get [] all i = tt
  each_get (x ∷ xs) all zero = all.0
  each_get (x ∷ xs) all (suc i) = each_get xs all.1 i

  pub each_set : (xs : List A) → Each P xs → (i : ℕ) (y : A) → P y → Each P (slice_set xs i y)
  each_set [] all i y q = tt
  each_set (x ∷ xs) all zero y q = (q, all.1)
  each_set (x ∷ xs) all (suc i) y q = (all.0, each_set xs all.1 i y q)

  pub each_parts : (xs ys : List A) → Each P (xs ++ ys) → Each P xs × Each P ys
  each_parts [] ys all = (tt, all)
  each_parts (x ∷ xs) ys all = let parts = each_parts xs ys all.1 in ((all.0, parts.0), parts.1)

  pub each_cond : (b : Bool) (xs ys : List A) → Each P xs → Each P ys → Each P (cond b xs ys)
  each_cond true xs ys p q = p
  each_cond false xs ys p q = q

  pub either_is : (b : Bool) (x y : A) → P x → P y → P (cond b x y)
  either_is true x y p q = p
  either_is false x y p q = q

pub each_changed : {A B : Type 0} (P : A → Type 0) (Q : B → Type 0) (f : A → B) (xs : List A) → ((x : A) → P x → Q (f x)) → Each P xs → Each Q (map f xs)
each_changed P Q f [] so all = tt
each_changed P Q f (x ∷ xs) so all = (so x all.0, each_changed P Q f xs so all.1)

-- what there is of a list that is read
pub there : {A : Type 0} (P : A → Type 0) (o : Option A) (x : A) → IfSome o P → o ≡ Some x → P x
there {A} P o x p e = subst (λ (o : Option A). IfSome o P) e p

-- ** answers

-- one answer after the other: what is known of the first one serves the other
pub bind_with : {A B : Type 0} (a : Answer A) (f : A → Answer B) (Q : A → Type 0) (P : B → Type 0) → IfOk a Q → ((x : A) → Q x → IfOk (f x) P) → IfOk (a >>= f) P
bind_with (Ok x) f Q P q h = h x q
bind_with (Err arm) f Q P q h = tt

-- what is there answers with what is known of it
pub known_with : {A : Type 0} (arm : Arm) (o : Option A) (Q : A → Type 0) → IfSome o Q → IfOk (known arm o) Q
known_with arm None Q q = tt
known_with arm (Some x) Q q = q

pub weaker_is : {A : Type 0} (P Q : A → Type 0) (a : Answer A) → ((x : A) → P x → Q x) → IfOk a P → IfOk a Q
weaker_is P Q (Ok x) so p = so x p
weaker_is P Q (Err arm) so p = tt
