-- What an `unbind` ends.
use Rattle.std.proofs.Common.{◌≡◌, ◌∙◌, ◌||◌, ◌++◌, ℕ, Bool, true, false, cond, not, nat_eq, List, [], ◌∷◌, refl, sym, ap}
use Rattle.std.specs.List.{list_any}
use Rattle.ui_machine.specs.declared.arm.Arm.TheVariants as arms
use Rattle.ui_machine.specs.Definition.{Definition}
use Rattle.ui_machine.specs.Instructions.Registers.{goes_on}
use Rattle.ui_machine.specs.Instructions.Signals.{unbinding}
use Rattle.ui_machine.specs.State.Bindings.{Binding, bindings_without, is_binding, is_called, is_name}
use Rattle.ui_machine.specs.State.Config.{World}
use Rattle.ui_machine.specs.State.Tasks.{Frame}
use Rattle.bindings.specs.Made.{without_number}
use Rattle.law_typing.specs.Good.Meanings.{binding_name}
use Rattle.law_typing.specs.Verdict.Accepted.{Each}
use Rattle.engine_world.specs.Able.{Able}
use Rattle.engine_instructions.specs.UnbindView.{without_numbers}
use Rattle.engine_instructions.proofs.Tested.{passes}

pub unbinds : (d : Definition) (w : World) (f : Frame) (name : List ℕ) → Able (unbinding d w f name) → unbinding d w f name ≡ goes_on (record w { bindings = bindings_without name w.bindings }) [] f
unbinds d w f name able = passes (is_binding d name) arms.Code (goes_on (record w { bindings = bindings_without name w.bindings }) [] f) able

-- ** the bindings of a name, by their numbers

-- without one more
one_more : (numbers : List ℕ) (n number : ℕ) → list_any (nat_eq number) (numbers ++ n ∷ []) ≡ (list_any (nat_eq number) numbers || nat_eq number n)
one_more [] n number = by (nat_eq number n)
  where
    by : (b : Bool) → (b || false) ≡ b
    by true = refl
    by false = refl
one_more (x ∷ numbers) n number = by (nat_eq number x) (one_more numbers n number)
  where
    by : (b : Bool) → list_any (nat_eq number) (numbers ++ n ∷ []) ≡ (list_any (nat_eq number) numbers || nat_eq number n)
        → (b || list_any (nat_eq number) (numbers ++ n ∷ [])) ≡ ((b || list_any (nat_eq number) numbers) || nat_eq number n)
    by true rest = refl
    by false rest = rest

pub without_more : (numbers : List ℕ) (n : ℕ) (bs : List Binding) → without_number n (without_numbers numbers bs) ≡ without_numbers (numbers ++ n ∷ []) bs
without_more numbers n [] = refl
without_more numbers n (b ∷ bs) =
    by (list_any (nat_eq b.number) numbers) refl (nat_eq b.number n) refl (without_more numbers n bs)
  where
    by : (any : Bool) → list_any (nat_eq b.number) numbers ≡ any → (is : Bool) → nat_eq b.number n ≡ is
        → without_number n (without_numbers numbers bs) ≡ without_numbers (numbers ++ n ∷ []) bs
        → without_number n (without_numbers numbers (b ∷ bs)) ≡ without_numbers (numbers ++ n ∷ []) (b ∷ bs)
    by true e is f rest = rw (one_more numbers n b.number, e) rest
    by false e true f rest = rw (one_more numbers n b.number, e, f) rest
    by false e false f rest = rw (one_more numbers n b.number, e, f) (ap (λ (l : List Binding). b ∷ l) rest)

pub without_none : (bs : List Binding) → without_numbers [] bs ≡ bs
without_none [] = refl
without_none (b ∷ bs) = ap (λ (l : List Binding). b ∷ l) (without_none bs)

-- those of a name's numbers are those that are called so
pub numbers_called : (d : Definition) (name : List ℕ) (numbers : List ℕ) → ((number : ℕ) → list_any (nat_eq number) numbers ≡ is_name name (binding_name d number))
    → (bs : List Binding) → Each (λ (b : Binding). b.name ≡ binding_name d b.number) bs → without_numbers numbers bs ≡ bindings_without name bs
numbers_called d name numbers are [] named = refl
numbers_called d name numbers are (b ∷ bs) named =
    let same : list_any (nat_eq b.number) numbers ≡ is_called name b = are b.number ∙ ap (is_name name) (sym named.0) in
    let rest = numbers_called d name numbers are bs named.1 in
    ap (λ t. cond (not t) (b ∷ without_numbers numbers bs) (without_numbers numbers bs)) same
    ∙ ap (λ (l : List Binding). cond (not (is_called name b)) (b ∷ l) l) rest
