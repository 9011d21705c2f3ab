-- Objects by identity.
use Rattle.std.proofs.Common.{◌≡◌, ℕ, zero, suc, [], ◌∷◌, Option, Some, None, IsSome, Ok, Err, refl, subst}
use Rattle.ui_machine.specs.declared.arm.Arm.{Arm}
use Rattle.ui_machine.specs.declared.arm.Arm.TheVariants as arms
use Rattle.ui_machine.specs.Outcome.{After, Answer, known, ◌>>=◌}
use Rattle.ui_machine.specs.Seq.{read, write}
use Rattle.ui_machine.specs.State.Objects.{Object, Objects, asked, changed, living, put}
use Rattle.engine_world.specs.Able.{Able}

-- an object lives of which no arm stops what is asked
pub lives_where : {X : Type 0} (os : Objects) (id : ℕ) (of : Object → X) → ((arm : Arm) → asked os id (λ o. Ok (of o)) ≡ Err arm → ⊥) → IsSome (living os id)
unfolding asked
lives_where os id of never = by (living os id) never
  where
    by : (o : Option Object) → ((arm : Arm) → (known arms.Operand o >>= λ x. Ok (of x)) ≡ Err arm → ⊥) → IsSome o
    by None never = absurd (never arms.Operand refl)
    by (Some x) never = refl

-- and one that is changed
pub lives_changed : {X : Type 0} (os : Objects) (id : ℕ) (change : Object → Answer (After Object X)) → Able (changed os id change) → IsSome (living os id)
unfolding changed
lives_changed {X} os id change able = by (living os id) able
  where
    by : (o : Option Object) → Able {A = After Objects X} (known arms.Operand o >>= λ x. change x >>= λ (new : After Object X). Ok (record { state = put os id (Some new.state); answer = new.answer })) → IsSome o
    by None may = absurd may
    by (Some x) may = refl

-- it lives on
pub lives_on : {X : Type 0} (os : Objects) (id : ℕ) (change : Object → Answer (After Object X)) (new : After Objects X) → changed os id change ≡ Ok new → IsSome (living new.state id)
unfolding changed
lives_on {X} os id change new is = by id (living os id) refl is
  where
    there : (xs : Objects) (i : ℕ) (x : Object) → read None (write None xs i (Some x)) i ≡ Some x
    there [] zero x = refl
    there [] (suc i) x = there [] i x
    there (y ∷ xs) zero x = refl
    there (y ∷ xs) (suc i) x = there xs i x

    put_there : (id : ℕ) (o : Object) → living os id ≡ Some o → (x : Object) → IsSome (living (put os id (Some x)) id)
    put_there zero o at x = cc at
    put_there (suc i) o at x = rw (there os i x) refl

    after : (id : ℕ) (o : Object) → living os id ≡ Some o → (a : Answer (After Object X))
        → (a >>= λ (n : After Object X). Ok (record { state = put os id (Some n.state); answer = n.answer })) ≡ Ok new → IsSome (living new.state id)
    after id o at (Ok n) is = let same : record { state = put os id (Some n.state); answer = n.answer } ≡ new = cc is in subst (λ (r : After Objects X). IsSome (living r.state id)) same (put_there id o at n.state)
    after id o at (Err arm) is = absurd (cc is)

    by : (id : ℕ) (o : Option Object) → living os id ≡ o
        → (known arms.Operand o >>= λ x. change x >>= λ (n : After Object X). Ok (record { state = put os id (Some n.state); answer = n.answer })) ≡ Ok new → IsSome (living new.state id)
    by id None at is = absurd (cc is)
    by id (Some o) at is = after id o at (change o) is
