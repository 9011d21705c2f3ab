-- Tables of numbers by channel and by program, and how one that meets equations is found.
use Rattle.std.specs.Prelude.{ℕ, zero, suc, max, Bool, true, false, cond, ◌&&◌, nat_eq, List, [], ◌∷◌, map, Option, None, Some}
use Rattle.ui_machine.specs.Seq.{read}
use Rattle.law_typing.specs.Graph.Channels.{Channel, same_channel}

-- a number for each of some channels
abbrev pub Table : Type 0
Table = List (Channel × ℕ)

-- the number of a channel; one that is not in the table has 0
abbrev pub entry : Table → Channel → ℕ
entry [] c = 0
entry (x ∷ xs) c = cond (same_channel x.0 c) x.1 (entry xs c)

-- a number for each channel and each program
pub record Tables : Type 0 where
  pub channels : Table
  pub programs : List ℕ

-- the number of a program
abbrev pub of_program : Tables → ℕ → ℕ
of_program t program = read 0 t.programs program

-- the greatest of the values of f, 0 of none
abbrev pub greatest : {A : Type 0} → (A → ℕ) → List A → ℕ
greatest f [] = 0
greatest f (x ∷ xs) = max (f x) (greatest f xs)

-- ** finding one

-- whether two lists have the same numbers
abbrev pub same_numbers : List ℕ → List ℕ → Bool
same_numbers [] [] = true
same_numbers [] (y ∷ ys) = false
same_numbers (x ∷ xs) [] = false
same_numbers (x ∷ xs) (y ∷ ys) = nat_eq x y && same_numbers xs ys

-- the numbers of a table
abbrev pub numbers_of : Table → List ℕ
numbers_of t = map (λ (x : Channel × ℕ). x.1) t

-- whether two tables of the same channels have the same numbers
abbrev pub same_table : Table → Table → Bool
same_table t u = same_numbers (numbers_of t) (numbers_of u)

abbrev pub same_tables : Tables → Tables → Bool
same_tables t u = same_table t.channels u.channels && same_numbers t.programs u.programs

-- the second of two where they are the same, and else what more goes lead to from it
abbrev pub goes_on : {A : Type 0} → Bool → (A → Option A) → A → Option A
goes_on true more next = Some next
goes_on false more next = more next

-- what is reached where going on changes nothing any more, if it is reached in so many goes
abbrev pub settled : {A : Type 0} → (A → A → Bool) → ℕ → (A → A) → A → Option A
settled same zero next at = None
settled same (suc n) next at = goes_on (same at (next at)) (settled same n next) (next at)
