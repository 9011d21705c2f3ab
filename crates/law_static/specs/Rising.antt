-- Lists whose entries have rising numbers.
use Rattle.std.specs.Prelude.{◌≡◌, ℕ, ◌-◌, ◌≤◌, List, Some, slice_get}
use Rattle.ui_machine.specs.Seq.{total}
use Rattle.ui_machine.specs.Definition.Places.{Bind}
use Rattle.ui_machine.specs.State.Handlers.{Handler, handler_of}
use Rattle.ui_machine.specs.State.Bindings.{Binding}
use Rattle.law_typing.specs.Verdict.Accepted.{Each}
use Rattle.law_typing.specs.Good.Standing.{Rising}

-- each handler is the one that is found under its number
abbrev pub Found : List Handler → Type 0
Found hs = Each (λ (h : Handler). handler_of h.number hs ≡ Some h) hs

-- handlers whose numbers rise are
abbrev pub RisingAreFound : Type 0
RisingAreFound = (k : ℕ) (hs : List Handler) → Rising (λ (h : Handler). h.number) k hs → Found hs

-- a binding is the definition's of its number, where the first of the list has the number k, and costs no more than that
abbrev pub Priced : (Binding → ℕ) → (Bind → ℕ) → ℕ → List Bind → Binding → Type 0
Priced f g k xs b = (x : Bind) × (slice_get xs (b.number - k) ≡ Some x) × (f b ≤ g x)

-- bindings whose numbers rise cost together no more than those of the definition
abbrev pub RisingCosts : Type 0
RisingCosts =
    (f : Binding → ℕ) (g : Bind → ℕ) (k : ℕ) (xs : List Bind) (bs : List Binding) → Rising (λ (b : Binding). b.number) k bs →
    Each (Priced f g k xs) bs → total f bs ≤ total g xs
