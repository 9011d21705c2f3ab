-- What a table answers of an object that lives.
use Rattle.std.proofs.Common.{◌+◌, ◌≡◌, refl, ap, ◌∙◌, ℕ, zero, suc, ◌<◌, ◌-◌, ◌^◌, List, [], ◌∷◌, Bool, true, length, nat_lt, Option, None, Some, IsSome, Result, Ok, Err, IsOk, IfOk, slice_get, arith}
use Rattle.std.specs.Option.{option_map}
use Rattle.std.proofs.lemmas.Bool.Decides.{nat_tests}
use Rattle.ui_machine.specs.declared.arm.Arm.TheVariants as arms
use Rattle.ui_machine.specs.Definition.Properties.{Spec}
use Rattle.ui_machine.specs.Definition.Types.{GType}
use Rattle.ui_machine.specs.Definition.Values.{Value}
use Rattle.ui_machine.specs.Outcome.{After, Answer, known, ◌>>=◌}
use Rattle.ui_machine.specs.State.Objects.{Object, Objects, asked, changed, class_in, living, put, value_at}
use Rattle.ui_machine.specs.Rules.NotifyQueue.{frozen_less, frozen_more, less_frozen, raised}
use Rattle.param_specs.specs.Table.{specs_of}
use Rattle.instance_tables.specs.Release.{values_in}
use Rattle.instance_tables.specs.Store.{Store, count_of, freezes_in, with_count, with_objects}
use Rattle.instance_tables.proofs.Families.{was_made}
use Rattle.instance_tables.proofs.Moves.{count_here}
use Rattle.instances.specs.Calls.{Changes}
use Rattle.instances.specs.Slotted.{AreSlotted}

-- ** what is read

pub asked_there : {X : Type 0} (os : Objects) (id : ℕ) (f : Object → X) (x : X) → asked os id (λ o. Ok (f o)) ≡ Ok x → option_map f (living os id) ≡ Some x
unfolding asked
asked_there {X} os id f x is = by (living os id) is
  where
    by : (o : Option Object) → (known arms.Operand o >>= λ y. Ok (f y)) ≡ Ok x → option_map f o ≡ Some x
    by None e = absurd (cc e)
    by (Some o) e = let here : f o ≡ x = cc e in ap Some here

value_there : (vs : List Value) (slot : ℕ) → slot < length vs → IsOk (known arms.Code (slice_get vs slot))
value_there [] slot small = absurd (omega (arith, small))
value_there (v ∷ vs) zero small = refl
value_there (v ∷ vs) (suc slot) small = value_there vs slot (omega (arith, small))

pub reads_there : (os : Objects) (id slot : ℕ) → slot < length (values_in (living os id)) → IsOk (asked os id (value_at slot))
unfolding asked
reads_there os id slot small = by (living os id) small
  where
    by : (o : Option Object) → slot < length (values_in o) → IsOk (known arms.Operand o >>= value_at slot)
    by None inside = absurd (omega (arith, inside))
    by (Some o) inside = value_there o.values slot inside

-- an object has the slots of its class
pub slots_there : (types : List GType) (specs : List (List Spec)) (os : Objects) (id class : ℕ) → AreSlotted types specs os → class_in os id ≡ Some class
    → (slot : ℕ) → slot < length (specs_of types specs class) → slot < length (values_in (living os id))
slots_there types specs os id class are is slot small = by (living os id) refl is
  where
    by : (x : Option Object) → living os id ≡ x → option_map (λ (o : Object). o.class) x ≡ Some class → slot < length (values_in x)
    by None here e = absurd (cc e)
    by (Some o) here e =
        let same : o.class ≡ class = cc e in
        let full : length o.values ≡ length (specs_of types specs class) = are id o here ∙ ap (λ c. length (specs_of types specs c)) same in
        omega (arith, full, small)

-- ** what is changed

abbrev Allows : {X : Type 0} → (Object → Answer (After Object X)) → Option Object → Type 0
Allows change None = ⊥
Allows {X} change (Some o) = (a : After Object X) × (change o ≡ Ok a)

changes_there : {X : Type 0} (os : Objects) (id : ℕ) (change : Object → Answer (After Object X)) → Allows change (living os id) → IsOk (changed os id change)
unfolding changed
changes_there {X} os id change may = by (living os id) may
  where
    put_in : After Object X → Answer (After Objects X)
    put_in w = Ok (record { state = put os id (Some w.state); answer = w.answer })

    of_one : (r : Answer (After Object X)) (a : After Object X) → r ≡ Ok a → IsOk (r >>= put_in)
    of_one (Err other) a ok = absurd (cc ok)
    of_one (Ok w) a ok = refl

    by : (o : Option Object) → Allows change o → IsOk (known arms.Operand o >>= λ y. (change y >>= put_in))
    by None allowed = absurd allowed
    by (Some o) allowed = of_one (change o) allowed.0 allowed.1

pub freezes_there : (os : Objects) (id : ℕ) → IsSome (living os id) → freezes_in (living os id) < 2 ^ 64 - 1 → IsOk (changed os id frozen_more)
freezes_there os id lives room = changes_there os id frozen_more (by (living os id) lives room)
  where
    by : (o : Option Object) → IsSome o → freezes_in o < 2 ^ 64 - 1 → Allows frozen_more o
    by None some few = absurd (cc some)
    by (Some o) some few =
        let yes : nat_lt o.freezes 18446744073709551615 ≡ true = grind (arith, nat_tests) in
        (record { state = record o { freezes = suc o.freezes }; answer = tt }, rw yes refl)

pub thaws_there : (os : Objects) (id : ℕ) → 0 < freezes_in (living os id) → IsOk (changed os id frozen_less)
thaws_there os id frozen = changes_there os id frozen_less (by (living os id) frozen)
  where
    by : (o : Option Object) → 0 < freezes_in o → Allows frozen_less o
    by None some = omega (arith, some)
    by (Some o) some =
        let yes : nat_lt 0 o.freezes ≡ true = grind (arith, nat_tests) in
        (less_frozen (o.freezes - 1) o, rw yes refl)

-- a notification that is raised changes one object
pub raises : {E : Type 0} (r : Result Bool E) (id slot : ℕ) (s n : Store)
    → IfOk r (λ now. changed s.objects id (raised slot) ≡ Ok (record { state = n.objects; answer = now })) → n ≡ with_objects s n.objects
    → IfOk r (λ now. Changes id (raised slot) now s n)
raises (Ok now) id slot s n is beside = record { objects = is; beside = beside }
raises (Err why) id slot s n is beside = tt

-- ** counts

-- what is held once more is held
pub held_more : (s n : Store) (id : ℕ) → IsSome (living s.objects id) → n ≡ with_count s id (count_of s.counts id + 1) → 0 < count_of n.counts id
held_more s n id lives is =
    let more : count_of n.counts id ≡ count_of s.counts id + 1 =
    ap (λ (t : Store). count_of t.counts id) is ∙ count_here s.counts id (count_of s.counts id + 1) (was_made s.objects id lives).0 in
    omega (arith, more)
