-- Bindings that end, begin and end to set, and are made.
use Rattle.std.specs.Prelude.{◌≡◌, ℕ, suc, ◌+◌, Bool, true, false, cond, nat_eq, List, [], ◌∷◌, ◌++◌, length, Some, slice_get}
use Rattle.std.specs.List.{filter}
use Rattle.ui_machine.specs.Seq.{total}
use Rattle.ui_machine.specs.Definition.{Definition}
use Rattle.ui_machine.specs.Definition.Places.{Bind}
use Rattle.ui_machine.specs.State.Bindings.{Binding, binding_of, with_busy}
use Rattle.ui_machine.specs.State.Tasks.{Task}
use Rattle.ui_machine.specs.Rules.Build.{of_items, new_binding}
use Rattle.law_typing.specs.Good.Standing.{Standing}
use Rattle.law_typing.specs.Good.DueCosts.{unsets}
use Rattle.law_typing.specs.Good.Bindings.{is_binding, BindingsGood}
use Rattle.law_steps.specs.Kept.Agenda.{Stays}

-- those that are left after others ended stay good, where their ends keep their places
abbrev pub BindingsLeft : Type 0
BindingsLeft =
    (d : Definition) (s z : Standing) (agenda : List Task) (bs : List Binding) (test : Binding → Bool) →
    ((b : Binding) → test b ≡ true → Stays s z b.source × Stays s z b.target) → BindingsGood d s agenda bs →
    BindingsGood d z agenda (filter test bs)

-- among them a number finds what it found
abbrev pub LeftBindingsFound : Type 0
LeftBindingsFound =
    (d : Definition) (s : Standing) (agenda : List Task) (bs : List Binding) (test : Binding → Bool) →
    BindingsGood d s agenda bs →
    (number : ℕ) (b : Binding) → binding_of number (filter test bs) ≡ Some b → binding_of number bs ≡ Some b

-- an agenda with one more task that sets the binding of this number free
pub record OneMore (number : ℕ) (agenda more : List Task) : Type 0 where
  pub unset : (n : ℕ) → total (unsets n) more ≡ cond (nat_eq number n) 1 0 + total (unsets n) agenda
  pub items : total (of_items is_binding) more ≡ total (of_items is_binding) agenda

-- a binding that does not set begins to
abbrev pub BindingSets : Type 0
BindingSets =
    (d : Definition) (s : Standing) (agenda more : List Task) (bs : List Binding) (number : ℕ) → OneMore number agenda more →
    total (unsets number) agenda ≡ 0 → BindingsGood d s agenda bs → BindingsGood d s more (with_busy number true bs)

-- and it is set free
abbrev pub BindingUnset : Type 0
BindingUnset =
    (d : Definition) (s : Standing) (agenda more : List Task) (bs : List Binding) (number : ℕ) → OneMore number agenda more →
    BindingsGood d s more bs → BindingsGood d s agenda (with_busy number false bs)

-- a binding that the build is to make next, between objects of its places
pub record NextBinding (d : Definition) (s : Standing) (agenda rest : List Task) (number : ℕ) (b : Bind)
    (source target : ℕ) : Type 0 where
  pub is : slice_get d.bindings number ≡ Some b
  pub from : s source ≡ Some b.source
  pub to : s target ≡ Some b.target
  pub next : number + total (of_items is_binding) agenda ≡ length d.bindings
  pub items : total (of_items is_binding) agenda ≡ suc (total (of_items is_binding) rest)
  pub unset : (n : ℕ) → total (unsets n) rest ≡ total (unsets n) agenda
  pub free : total (unsets number) agenda ≡ 0

-- it is good among the others
abbrev pub BindingMade : Type 0
BindingMade =
    (d : Definition) (s : Standing) (agenda rest : List Task) (bs : List Binding) (number : ℕ) (b : Bind)
    (source target : ℕ) →
    NextBinding d s agenda rest number b source target → BindingsGood d s agenda bs →
    BindingsGood d s rest (bs ++ new_binding number b source target ∷ [])
