-- What is asked of an object, and what is changed of it, where no arm stops that.
use Rattle.std.proofs.Common.{◌≡◌, ℕ, Option, None, Some, Ok, IsOk, refl, sym, ap, subst}
use Rattle.ui_machine.specs.declared.arm.Arm.TheVariants as arms
use Rattle.ui_machine.specs.Definition.Values.{Value}
use Rattle.ui_machine.specs.Outcome.{Answer, known, ◌>>=◌}
use Rattle.ui_machine.specs.State.Objects.{Object, Objects, asked, changed, class_in, living, value_at, with_value}
use Rattle.instance_tables.proofs.Written.{was_read}
use Rattle.engine_world.specs.Able.{Able}
use Rattle.engine_world.proofs.Ableness.{is_ok, leads_on, no_arm}

-- it is answered
pub answers : {A : Type 0} (a : Answer A) → Able a → IsOk a
answers a able = is_ok a (λ arm is. no_arm a arm able is)

-- a property that can be written is there
pub slot_there : (os : Objects) (id slot : ℕ) (v : Value) → Able (changed os id (with_value slot v)) → IsOk (asked os id (value_at slot))
slot_there os id slot v able =
    let r = leads_on (changed os id (with_value slot v)) able in
    subst (λ (a : Answer Value). IsOk a) (sym (was_read os r.0.state id slot v r.0.answer r.1)) refl

-- the class that is answered is the object's
pub class_known : (os : Objects) (id class : ℕ) → asked os id (λ o. Ok o.class) ≡ Ok class → class_in os id ≡ Some class
unfolding asked
class_known os id class = by (living os id) refl
  where
    by : (o : Option Object) → living os id ≡ o → (known arms.Operand o >>= λ x. Ok x.class) ≡ Ok class → class_in os id ≡ Some class
    by None is h = cc h
    by (Some x) is h = let e : x.class ≡ class = cc h in rw is (ap Some e)
