-- How often a program holds an object frozen, by the registers that its code still thaws, and how a freeze and a thaw change it.
use Rattle.std.proofs.Common.{◌≡◌, inl, inr, ◌⊎◌, refl, sym, ap, ℕ, ◌+◌, Bool, true, false, cond, List, [], ◌∷◌, Option, None, Some, arith}
use Rattle.std.specs.Prelude.{nat_eq}
use Rattle.std.proofs.lemmas.Bool.{eqb-true, eqb-false}
use Rattle.ui_machine.specs.Seq.{read, total}
use Rattle.ui_machine.specs.Definition.{Definition}
use Rattle.ui_machine.specs.Definition.Values.{Value}
use Rattle.ui_machine.specs.Definition.Values as values
use Rattle.ui_machine.specs.State.Tasks.{Frame, Running}
use Rattle.law_typing.specs.Rules.Brackets.{opened, is_among, less_one}
use Rattle.law_typing.proofs.Lists.{either_part}
use Rattle.law_typing.specs.Good.Programs.{code_left}
use Rattle.law_typing.specs.Good.Freezes.{frozen_by}
use Rattle.law_steps.proofs.Instructed.Frozen.{total_same}

-- 1 where a register names the object
abbrev pub names_it : ℕ → Option Value → ℕ
names_it id (Some (values.object (Some i))) = cond (nat_eq i id) 1 0
names_it id _ = 0

-- what holds of each thing that a register may hold
by_value : (o : Option Value) (P : Type 0) → (o ≡ None → P) → ((i : ℕ) → o ≡ Some (values.object (Some i)) → P) → (o ≡ Some (values.object None) → P) →
    ((b : Bool) → o ≡ Some (values.bool b) → P) → ((k : _) (n : _) → o ≡ Some (values.whole k n) → P) → ((t : _) → o ≡ Some (values.text t) → P) →
    ((u : ℕ) (n : _) → o ≡ Some (values.enum u n) → P) → ((u n : ℕ) → o ≡ Some (values.flags u n) → P) → P
by_value None P a b c e f g h k = a refl
by_value (Some (values.object (Some i))) P a b c e f g h k = b i refl
by_value (Some (values.object None)) P a b c e f g h k = c refl
by_value (Some (values.bool x)) P a b c e f g h k = e x refl
by_value (Some (values.whole x n)) P a b c e f g h k = f x n refl
by_value (Some (values.text t)) P a b c e f g h k = g t refl
by_value (Some (values.enum u n)) P a b c e f g h k = h u n refl
by_value (Some (values.flags u n)) P a b c e f g h k = k u n refl

-- a program holds it frozen as often as its open registers name it
pub frozen_is : (d : Definition) (id : ℕ) (f : Frame) → frozen_by d id (Running f) ≡ total (λ r. names_it id (read None f.registers r)) (opened (code_left d f))
frozen_is d id f =
    total_same _ _ (opened (code_left d f))
    (λ r. by_value (read None f.registers r) _ (λ e. rw e refl) (λ i e. rw e refl) (λ e. rw e refl) (λ b e. rw e refl) (λ k n e. rw e refl) (λ t e. rw e refl) (λ u n e. rw e refl) (λ u n e. rw e refl))

-- one entry less
pub total_less : (f : ℕ → ℕ) (r : ℕ) (xs : List ℕ) → is_among xs r ≡ true → total f xs ≡ f r + total f (less_one r xs)
total_less f r [] e = absurd (cc)
total_less f r (x ∷ xs) e = go (nat_eq x r) refl (either_part (nat_eq r x) (is_among xs r) e) (λ h. total_less f r xs h)
  where
    go : (b : Bool) → nat_eq x r ≡ b → (nat_eq r x ≡ true) ⊎ (is_among xs r ≡ true) → (is_among xs r ≡ true → total f xs ≡ f r + total f (less_one r xs)) →
        f x + total f xs ≡ f r + total f (cond b xs (x ∷ less_one r xs))
    go true t h later = let s = ap f (eqb-true x r t) in omega (arith, s)
    go false t (inl h) later = absurd (eqb-false x r t (sym (eqb-true r x h)))
    go false t (inr h) later = let s = later h in omega (arith, s)
