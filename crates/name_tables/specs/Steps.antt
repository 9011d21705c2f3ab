-- What the steps of an addition and of an inheritance do to names and to a name's numbers.
use Rattle.std.specs.Prelude.{◌≡◌, ℕ, nat_eq, nat_lt, cond, is_some, List, [], ◌∷◌, ◌++◌, Option, None, option_and_then}
use Rattle.ui_machine.specs.Definition.Types.{GType}
use Rattle.ui_machine.specs.Rules.Ancestry.{lineage, parent_of}
use Rattle.ui_machine.specs.Rules.EmissionPlan.{first_given, or_else}
use Rattle.name_tables.specs.Names.{Named, number_in, place_of, with_number}

-- the names with one more, which no class has yet, unless it is there
abbrev pub with_name : List Named → List ℕ → List Named
with_name names name = cond (is_some (place_of names name)) names (names ++ record { name = name; numbers = [] } ∷ [])

-- no class's number differs
abbrev pub ReadsSame : List (ℕ × ℕ) → List (ℕ × ℕ) → Type 0
ReadsSame old new = (c : ℕ) → number_in new c ≡ number_in old c

-- no class's number differs but that of one class, which got this number unless it had one
abbrev pub GivesNumber : List (ℕ × ℕ) → List (ℕ × ℕ) → ℕ → ℕ → Type 0
GivesNumber old new class number = (c : ℕ) → number_in new c ≡ with_number (nat_eq c class) number (number_in old c)

-- the number of a class's parent
abbrev pub parent_number : List GType → List (ℕ × ℕ) → ℕ → Option ℕ
parent_number types numbers class = option_and_then (number_in numbers) (parent_of types class)

-- no class's number differs but that of one class, which got its parent's unless it had one
abbrev pub InheritsNumber : List GType → List (ℕ × ℕ) → List (ℕ × ℕ) → ℕ → Type 0
InheritsNumber types old new class = (c : ℕ) → number_in new c ≡ cond (nat_eq c class) (or_else (number_in old class) (parent_number types old class)) (number_in old c)

-- each class has the number that it or its nearest ancestor had
abbrev pub InheritsNumbers : List GType → List (ℕ × ℕ) → List (ℕ × ℕ) → Type 0
InheritsNumbers types old new = (c : ℕ) → number_in new c ≡ first_given (number_in old) (lineage types c)

-- nothing differs but that a class has the names that this has a number for, each under its number, where it did not have them
abbrev pub AddsAll : (ℕ → List ℕ → Option ℕ) → (ℕ → List ℕ → Option ℕ) → ℕ → (List ℕ → Option ℕ) → Type 0
AddsAll old new class called = (c : ℕ) (n : List ℕ) → new c n ≡ cond (nat_eq c class) (or_else (old c n) (called n)) (old c n)

-- the first classes, so many, have the names that this has a number for, and the others have none
abbrev pub HasUpTo : (ℕ → List ℕ → Option ℕ) → ℕ → (ℕ → List ℕ → Option ℕ) → Type 0
HasUpTo called count has = (c : ℕ) (n : List ℕ) → has c n ≡ cond (nat_lt c count) (called c n) None
