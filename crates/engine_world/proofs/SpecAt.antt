-- The spec of an object's property, found by its class.
use Rattle.std.proofs.Common.{◌≡◌, ℕ, Option, Some, None, Ok, Err, refl, ap, ◌∙◌}
use Rattle.ui_machine.specs.declared.arm.Arm.{Arm}
use Rattle.ui_machine.specs.declared.arm.Arm.TheVariants as arms
use Rattle.ui_machine.specs.Definition.Properties as properties
use Rattle.ui_machine.specs.Definition.{Definition}
use Rattle.ui_machine.specs.Definition.Lookups.{spec_of}
use Rattle.ui_machine.specs.State.Objects.{Object, Objects, living, asked}
use Rattle.ui_machine.specs.Outcome.{Answer, ◌>>=◌, known}
use Rattle.ui_machine.specs.Rules.Sets.{spec_at}

spec_by_class : (d : Definition) (os : Objects) (id slot : ℕ) (r : Answer ℕ) → asked os id (λ o. Ok o.class) ≡ r → spec_at d os id slot ≡ (r >>= λ class. known arms.Code (spec_of d class slot))
unfolding asked spec_at
spec_by_class d os id slot r h = by (living os id) ∙ ap (λ (a : Answer ℕ). a >>= λ class. known arms.Code (spec_of d class slot)) h
  where
    by : (o : Option Object) → (known arms.Operand o >>= λ x. known arms.Code (spec_of d x.class slot)) ≡ ((known arms.Operand o >>= λ x. Ok x.class) >>= λ class. known arms.Code (spec_of d class slot))
    by None = refl
    by (Some x) = refl

module _ (d : Definition) (os : Objects) (id slot : ℕ) where
  pub no_class : (arm : Arm) → asked os id (λ o. Ok o.class) ≡ Err arm → spec_at d os id slot ≡ Err arm
  no_class arm h = spec_by_class d os id slot (Err arm) h

  pub no_spec : (class : ℕ) → asked os id (λ o. Ok o.class) ≡ Ok class → spec_of d class slot ≡ None → spec_at d os id slot ≡ Err arms.Code
  no_spec class h none = spec_by_class d os id slot (Ok class) h ∙ ap (known arms.Code) none

  pub some_spec : (class : ℕ) (s : properties.Spec) → asked os id (λ o. Ok o.class) ≡ Ok class → spec_of d class slot ≡ Some s → spec_at d os id slot ≡ Ok s
  some_spec class s h some = spec_by_class d os id slot (Ok class) h ∙ ap (known arms.Code) some
