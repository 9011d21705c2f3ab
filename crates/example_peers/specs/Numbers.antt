-- What may be asked of numbers.
use Rattle.std.specs.Prelude.{◌≡◌, ℕ, suc, zero, ℤ, pos, List, [], ◌∷◌, SomeIff, codes, int_div, int_rem, true}
use Rattle.std.specs.Int.{CanDivide, w64}
use Rattle.ui_machine.specs.Definition.Kinds as kinds
use Rattle.ui_machine.specs.Definition.Signals.{Method}
use Rattle.ui_machine.specs.Definition.Values.{Value}
use Rattle.ui_machine.specs.Definition.Values as values
use Rattle.ui_machine.specs.State.Peers.{PeerState}
use Rattle.native_peers.specs.Moves.{Relation}

-- `quotient(int64, int64) -> int64` and `remainder(int64, int64) -> int64`
abbrev pub numbers_shape : List Method
numbers_shape =
    record { name = codes "quotient"; params = kinds.whole kinds.int64 ∷ kinds.whole kinds.int64 ∷ []; result = kinds.whole kinds.int64 }
    ∷ record { name = codes "remainder"; params = kinds.whole kinds.int64 ∷ kinds.whole kinds.int64 ∷ []; result = kinds.whole kinds.int64 }
    ∷ []

abbrev pub number : ℤ → Value
number n = values.whole kinds.int64 n

-- the number of a value of 64 bits with a sign
abbrev pub number_in : Value → ℤ
number_in (values.whole kinds.int64 n) = n
number_in _ = pos 0

-- the numbers of the first two arguments
abbrev pub numbers_of : List Value → ℤ × ℤ
numbers_of (a ∷ b ∷ more) = (number_in a, number_in b)
numbers_of _ = (pos 0, pos 0)

-- what a method answers where it can divide
abbrev pub divided : ℕ → ℤ → ℤ → ℤ
divided zero a b = int_div a b
divided (suc method) a b = int_rem a b

-- a call answers a quotient or a remainder, and faults exactly where there is none
abbrev pub Divides : Relation
Divides s method args answer t =
    SomeIff answer (CanDivide w64 (numbers_of args).0 (numbers_of args).1) (number (divided method (numbers_of args).0 (numbers_of args).1))
    × (t.values ≡ s.values)

-- numbers begin open
abbrev pub new_numbers : PeerState
new_numbers = record { shape = numbers_shape; is_open = true; calls = 0; faults = 0; values = [] }
