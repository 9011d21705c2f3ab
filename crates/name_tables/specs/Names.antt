-- Names, each with the numbers that it has in classes.
use Rattle.std.specs.BTreeMap.{is_at}
use Rattle.std.specs.Map.{lookup}
use Rattle.std.specs.Ordering.{nat_cmp}
use Rattle.std.specs.Prelude.{◌≡◌, ℕ, Bool, cond, nat_eq, ◌&&◌, List, Option, None, Some, option_and_then, slice_get}
use Rattle.ui_machine.specs.Definition.Names.{place_named, same_name}
use Rattle.ui_machine.specs.Definition.Types.{GType}
use Rattle.ui_machine.specs.Rules.Ancestry.{lineage}
use Rattle.ui_machine.specs.Rules.EmissionPlan.{first_given}

-- a name, and the number that it has in each class that has it, with the class
pub record Named : Type 0 where
  pub name : List ℕ
  pub numbers : List (ℕ × ℕ)

-- the number that a class has
abbrev pub number_in : List (ℕ × ℕ) → (class : ℕ) → Option ℕ
number_in numbers class = lookup (is_at (nat_cmp class)) numbers

-- the number that a name has in a class, by the name's place in the table
abbrev pub number_at : List Named → ℕ → ℕ → Option ℕ
number_at names class place = option_and_then (λ n. number_in n.numbers class) (slice_get names place)

-- the same, where a name may have no place
abbrev pub number_by : List Named → ℕ → Option ℕ → Option ℕ
number_by names class place = option_and_then (number_at names class) place

-- where a name is
abbrev pub place_of : List Named → List ℕ → Option ℕ
place_of names name = place_named (λ n. n.name) names name

-- the number that a name has in a class
abbrev pub number_of : List Named → ℕ → List ℕ → Option ℕ
number_of names class name = number_by names class (place_of names name)

-- a name's number once a class has it under a new number, which it gets only where it has none
abbrev pub with_number : Bool → ℕ → Option ℕ → Option ℕ
with_number is_it number None = cond is_it (Some number) None
with_number is_it number (Some old) = Some old

-- nothing differs but that a class has a name under a number, where it did not have it
abbrev pub Adds : List Named → List Named → ℕ → List ℕ → ℕ → Type 0
Adds old new class name number =
    (c : ℕ) (n : List ℕ) → number_of new c n ≡ with_number (nat_eq c class && same_name name n) number (number_of old c n)

-- no name's number differs
abbrev pub SameNumbers : List Named → List Named → Type 0
SameNumbers old new = (c : ℕ) (n : List ℕ) → number_of new c n ≡ number_of old c n

-- the number that a class or else its nearest ancestor has a name under
abbrev pub inherited_number : List GType → List Named → ℕ → List ℕ → Option ℕ
inherited_number types names class name = first_given (λ c. number_of names c name) (lineage types class)

-- each class has what it or its nearest ancestor had
abbrev pub Inherits : List GType → List Named → List Named → Type 0
Inherits types old new = (c : ℕ) (n : List ℕ) → number_of new c n ≡ inherited_number types old c n
