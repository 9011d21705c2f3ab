-- The build's items for adoptions, forward values, bindings and signals: each is of an object of the document or of a binding, and all but
-- adoptions come after all objects are made.
use Rattle.std.specs.Prelude.{◌≡◌, ℕ, suc, ◌+◌, true, false, nat_le, List, ◌∷◌, ◌++◌, length, Some, slice_get}
use Rattle.ui_machine.specs.Seq.{total}
use Rattle.ui_machine.specs.Definition.{Definition}
use Rattle.ui_machine.specs.Definition.Places.{named, GivenProperty, Attached, Bind, Place}
use Rattle.ui_machine.specs.Definition.Lookups.{place_at}
use Rattle.ui_machine.specs.State.Tasks.{Item, adopts, forwards, binds, connects}
use Rattle.ui_machine.specs.Rules.Build.{is_making, build_items}
use Rattle.law_typing.specs.Verdict.Accepted.{Accepted}
use Rattle.law_typing.specs.Laws.{IsIn}
use Rattle.law_typing.specs.Laws.WellRead.{WellRead, objects_of}
use Rattle.law_typing.specs.Good.Bindings.{is_binding}
use Rattle.law_static.specs.Attached.{IsAttached}

-- what is known where the build comes to such an item
pub record ComesTo (d : Definition) (done : List Item) (place number : ℕ) : Type 0 where
  pub p : Place
  pub x : Attached
  pub attached : IsAttached d place number p x
  pub made : total is_making done ≡ objects_of d

abbrev pub SignalsComeLast : Type 0
SignalsComeLast =
    (d : Definition) → Accepted d → (done items : List Item) (place number : ℕ) → build_items d ≡ done ++ connects place number ∷ items →
    ComesTo d done place number

-- where the build comes to an adoption the object has just been made, and has a parent
pub record Adopts (d : Definition) (done : List Item) (place : ℕ) : Type 0 where
  pub p : Place
  pub at : place_at d place ≡ Some p
  pub object : p.is_prototype ≡ false
  pub above : ℕ
  pub parent : p.parent ≡ Some above
  pub made : total is_making done ≡ suc place

abbrev pub AdoptsFollow : Type 0
AdoptsFollow =
    (d : Definition) → WellRead d → (done items : List Item) (place : ℕ) → build_items d ≡ done ++ adopts place ∷ items → Adopts d done place

-- where it comes to a forward value an object of the document was given it, and all objects are made
pub record IsForward (d : Definition) (done : List Item) (place slot to : ℕ) : Type 0 where
  pub p : Place
  pub at : place_at d place ≡ Some p
  pub object : p.is_prototype ≡ false
  pub given : GivenProperty
  pub is_given : IsIn given p.given
  pub slot_is : given.slot ≡ slot
  pub names : given.given ≡ named to
  pub later : nat_le place to ≡ true
  pub made : total is_making done ≡ objects_of d

abbrev pub ForwardsFollow : Type 0
ForwardsFollow =
    (d : Definition) → Accepted d → (done items : List Item) (place slot to : ℕ) → build_items d ≡ done ++ forwards place slot to ∷ items →
    IsForward d done place slot to

-- where it comes to a binding all objects are made, and as many bindings as come before it
pub record IsBind (d : Definition) (done items : List Item) (number : ℕ) : Type 0 where
  pub bind : Bind
  pub is : slice_get d.bindings number ≡ Some bind
  pub next : number + suc (total is_binding items) ≡ length d.bindings
  pub made : total is_making done ≡ objects_of d

abbrev pub BindingsFollow : Type 0
BindingsFollow =
    (d : Definition) → Accepted d → (done items : List Item) (number : ℕ) → build_items d ≡ done ++ binds number ∷ items →
    IsBind d done items number
