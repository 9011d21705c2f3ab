-- What a property that is written moves.
use Rattle.std.proofs.Common.{◌≡◌, ℕ, zero, suc, ◌<◌, ◌≤◌, length, get_or, List, [], ◌∷◌, Bool, true, false, Option, Some, None, slice_get, slice_set, Ok, IsOk, refl, sym, ap, ◌∙◌, arith}
use Rattle.ui_machine.specs.Seq.{read}
use Rattle.ui_machine.specs.Definition.Values.{Value}
use Rattle.ui_machine.specs.Definition.Values as values
use Rattle.ui_machine.specs.State.Objects.{Object, Objects, asked, changed, living, put, value_at, with_value}
use Rattle.ui_machine.specs.Outcome.{After, Answer, ◌>>=◌, known}
use Rattle.ui_machine.specs.declared.arm.Arm.TheVariants as arms
use Rattle.ui_machine.specs.State.References.{in_option, in_value}
use Rattle.instance_tables.specs.Store.{named_by}
use Rattle.instance_tables.specs.Weak.{Marks, is_strong, strong_in}

pub strong_none : (weak : Marks) (slot : ℕ) (o : Option Object) → o ≡ None → false ≡ strong_in weak slot o
strong_none weak slot o none = rw none refl

pub strong_here : (weak : Marks) (slot : ℕ) (o : Option Object) (x : Object) → o ≡ Some x
    → is_strong weak x.class slot ≡ strong_in weak slot o
strong_here weak slot o x here = rw here refl

pub marked : (bs : List Bool) (i : ℕ) (d : Bool) → i < length bs → get_or bs i d ≡ read true bs i
marked [] i d short = absurd (omega (arith, short))
marked (c ∷ bs) zero d short = refl
marked (c ∷ bs) (suc i) d short = marked bs i d (omega (arith, short))

pub unmarked : (bs : List Bool) (i : ℕ) → length bs ≤ i → read true bs i ≡ true
unmarked [] i long = refl
unmarked (c ∷ bs) zero long = absurd (omega (arith, long))
unmarked (c ∷ bs) (suc i) long = unmarked bs i (omega (arith, long))

-- a value holds what it names
pub by_name : (o : ℕ) (v : Value) → in_option o (named_by v) ≡ in_value o v
by_name o (values.bool b) = refl
by_name o (values.whole kind n) = refl
by_name o (values.text s) = refl
by_name o (values.enum type n) = refl
by_name o (values.flags type bits) = refl
by_name o (values.object id) = refl

-- what a property that was written was is what could be read
pub was_read : (os new : Objects) (id slot : ℕ) (v was : Value) → changed os id (with_value slot v) ≡ Ok (record { state = new; answer = was })
    → asked os id (value_at slot) ≡ Ok was
unfolding asked changed with_value
was_read os new id slot v was is = by (living os id) is
  where
    put_in : After Object Value → Answer (After Objects Value)
    put_in w = Ok (record { state = put os id (Some w.state); answer = w.answer })

    write_in : Object → Value → Answer (After Object Value)
    write_in o old = Ok (record { state = record o { values = slice_set o.values slot v }; answer = old })

    of_one : (o : Object) (x : Option Value) → ((known arms.Code x >>= write_in o) >>= put_in) ≡ Ok (record { state = new; answer = was })
        → ◌≡◌ {A = Answer Value} (known arms.Code x) (Ok was)
    of_one o None e = absurd (cc e)
    of_one o (Some old) e =
        let left : record { state = put os id (Some (record o { values = slice_set o.values slot v })); answer = old } ≡ record { state = new; answer = was } = cc e in
        ap (λ (r : After Objects Value). Ok r.answer) left

    by : (o : Option Object) → (known arms.Operand o >>= λ y. ((value_at slot y >>= write_in y) >>= put_in)) ≡ Ok (record { state = new; answer = was })
        → (known arms.Operand o >>= value_at slot) ≡ Ok was
    by None e = absurd (cc e)
    by (Some o) e = of_one o (slice_get o.values slot) e

-- so what was read before is what is answered
pub same_read : (os before new : Objects) (id slot : ℕ) (v read was : Value) → before ≡ os → asked os id (value_at slot) ≡ Ok read
    → changed before id (with_value slot v) ≡ Ok (record { state = new; answer = was }) → read ≡ was
same_read os before new id slot v read was same here is =
    let both : ◌≡◌ {A = Answer Value} (Ok read) (Ok was) =
    sym here ∙ sym (ap (λ (xs : Objects). asked xs id (value_at slot)) same) ∙ was_read before new id slot v was is in
    cc

-- the same objects are written to, and the same are left
pub writes_same : (os before new last : Objects) (id slot : ℕ) (v was : Value) → before ≡ os → last ≡ new
    → changed before id (with_value slot v) ≡ Ok (record { state = new; answer = was })
    → changed os id (with_value slot v) ≡ Ok (record { state = last; answer = was })
writes_same os before new last id slot v was same still is =
    ap (λ (xs : Objects). changed xs id (with_value slot v)) (sym same) ∙ is
    ∙ ap (λ (xs : Objects). Ok (record { state = xs; answer = was })) (sym still)

-- a value that can be read is one of the object's
pub has_slot : (slot : ℕ) (vs : List Value) → IsOk (known arms.Code (slice_get vs slot)) → slot < length vs
has_slot slot [] ok = let no : false ≡ true = ok in absurd (cc)
has_slot zero (v ∷ vs) ok = omega arith
has_slot (suc i) (v ∷ vs) ok = omega (arith, has_slot i vs ok)
