-- Objects that hold few still do so once they are changed.
use Rattle.std.proofs.Common.{◌≡◌, ℕ, suc, ◌+◌, ◌≤◌, List, [], ◌∷◌, length, Bool, Option, Some, None, Ok, slice_get, slice_set, length-set, ap, subst, refl, ◌∙◌, arith}
use Rattle.ui_machine.specs.Definition.Values.{Value}
use Rattle.ui_machine.specs.Outcome.{After, Answer, ◌>>=◌, known}
use Rattle.ui_machine.specs.Rules.Children.{with_parent, without_child}
use Rattle.ui_machine.specs.Seq.{read}
use Rattle.ui_machine.specs.State.Objects.{Object, with_value}
use Rattle.ui_machine.specs.declared.arm.Arm.TheVariants as arms
use Rattle.instance_tables.specs.Bounds.{HoldsFew}
use Rattle.instance_tables.specs.Release.{emptied}
use Rattle.instance_tables.specs.Weak.{Marks, dropped_value, forgetting, forgotten_value, masked}

-- one with as many values and no more children
pub no_more : (o p : Object) → HoldsFew o → length p.values ≡ length o.values → length p.children ≤ length o.children → HoldsFew p
no_more o p few values children = (omega (arith, few.0, values), omega (arith, few.1, children))

as_many_masked : (change : Bool → Value → Value) (bs : List Bool) (vs : List Value) → length (masked change bs vs) ≡ length vs
as_many_masked change [] vs = refl
as_many_masked change (b ∷ bs) [] = refl
as_many_masked change (b ∷ bs) (v ∷ vs) = ap suc (as_many_masked change bs vs)

pub forgetting_few : (weak : Marks) (id : ℕ) (o : Object) → HoldsFew o → HoldsFew (forgetting weak id o)
forgetting_few weak id o few = no_more o (forgetting weak id o) few (as_many_masked (forgotten_value id) (read [] weak o.class) o.values) (omega arith)

pub emptied_few : (weak : Marks) (o n : Object) → HoldsFew o → n ≡ emptied weak o → HoldsFew n
emptied_few weak o n few is =
    let none : length n.children ≡ 0 = ap (λ (x : Object). length x.children) is in
    no_more o n few (ap (λ (x : Object). length x.values) is ∙ as_many_masked dropped_value (read [] weak o.class) o.values) (omega (arith, none))

pub parent_few : (parent : Option ℕ) (o n : Object) → HoldsFew o → n ≡ with_parent parent o → HoldsFew n
parent_few parent o n few is =
    no_more o n few (ap (λ (x : Object). length x.values) is) (let same : length n.children ≡ length o.children = ap (λ (x : Object). length x.children) is in omega (arith, same))

pub without_few : (child gone : ℕ) (o n : Object) → HoldsFew o → n ≡ without_child child o → gone + length n.children ≡ length o.children → HoldsFew n
without_few child gone o n few is count = no_more o n few (ap (λ (x : Object). length x.values) is) (omega (arith, count))

pub written_few : (slot : ℕ) (v was : Value) (o n : Object) → HoldsFew o → with_value slot v o ≡ Ok (record { state = n; answer = was }) → HoldsFew n
unfolding with_value
written_few slot v was o n few is = by (slice_get o.values slot) is
  where
    write_in : Value → Answer (After Object Value)
    write_in old = Ok (record { state = record o { values = slice_set o.values slot v }; answer = old })

    by : (x : Option Value) → (known arms.Code x >>= write_in) ≡ Ok (record { state = n; answer = was }) → HoldsFew n
    by None e = absurd (cc)
    by (Some old) e =
        let left : After Object Value = record { state = record o { values = slice_set o.values slot v }; answer = old } in
        let same : left ≡ record { state = n; answer = was } = cc in
        subst HoldsFew (ap (λ (a : After Object Value). a.state) same)
        (no_more o (record o { values = slice_set o.values slot v }) few (length-set o.values slot v) (omega arith))
