-- The bindings that an `unbind` of a program leaves, by their numbers.
use Rattle.std.specs.List.{filter, list_any}
use Rattle.std.specs.Prelude.{List, nat_eq, not, ℕ}
use Rattle.ui_machine.specs.State.Bindings.{Binding}

-- the bindings without those of these numbers
abbrev pub without_numbers : List ℕ → List Binding → List Binding
without_numbers numbers bindings = filter (λ b. not (list_any (nat_eq b.number) numbers)) bindings
