-- Members of an enum by their numbers.
use Rattle.std.specs.Prelude.{◌≡◌, ℕ, ℤ, List, Option, option_and_then, slice_get}
use Rattle.std.specs.BTreeMap.{BTreeMap, get}
use Rattle.std.specs.List.{find}
use Rattle.std.specs.Ordering.{int_cmp, int_eq}
use Rattle.type_tree.specs.declared.member.EnumMember.{EnumMember}

-- the member at the place that is kept of a number
abbrev pub at_place : BTreeMap ℤ ℕ → List EnumMember → ℤ → Option EnumMember
at_place places members n = option_and_then (λ place. slice_get members place) (get int_cmp places n)

-- what is kept of each number is the place of its first member
abbrev pub ArePlaces : BTreeMap ℤ ℕ → List EnumMember → Type 0
ArePlaces places members = (n : ℤ) → at_place places members n ≡ find (λ m. int_eq m.number n) members
