-- What a tally may do, which adds whole numbers up.
use Rattle.std.specs.Prelude.{◌≡◌, ◌+ℤ◌, ℕ, suc, zero, ℤ, pos, List, [], ◌∷◌, Some, codes, true}
use Rattle.std.specs.Int.{int_wrap, w64}
use Rattle.ui_machine.specs.Definition.Kinds as kinds
use Rattle.ui_machine.specs.Definition.Signals.{Method}
use Rattle.ui_machine.specs.Definition.Values.{Value}
use Rattle.ui_machine.specs.Definition.Values as values
use Rattle.ui_machine.specs.State.Peers.{PeerState}
use Rattle.native_peers.specs.Moves.{Relation}

-- `add(int64) -> int64` and `read() -> int64`
abbrev pub tally_shape : List Method
tally_shape =
    record { name = codes "add"; params = kinds.whole kinds.int64 ∷ []; result = kinds.whole kinds.int64 }
    ∷ record { name = codes "read"; params = []; result = kinds.whole kinds.int64 }
    ∷ []

abbrev pub number : ℤ → Value
number n = values.whole kinds.int64 n

-- the number of a value of 64 bits with a sign
abbrev pub number_in : Value → ℤ
number_in (values.whole kinds.int64 n) = n
number_in _ = pos 0

-- the number of the first argument
abbrev pub first_number : List Value → ℤ
first_number [] = pos 0
first_number (v ∷ vs) = number_in v

-- the sum after a method: `add` adds its argument, and goes round at 64 bits with a sign; `read` leaves the sum
abbrev pub sum_after : ℤ → ℕ → List Value → ℤ
sum_after sum zero args = int_wrap w64 (sum +ℤ first_number args)
sum_after sum (suc method) args = sum

-- a call never faults: it answers the new sum
abbrev pub Tallies : Relation
Tallies s method args answer t =
    (sum : ℤ) × (s.values ≡ number sum ∷ [])
    × (answer ≡ Some (number (sum_after sum method args)))
    × (t.values ≡ number (sum_after sum method args) ∷ [])

-- a tally begins open, at 0
abbrev pub new_tally : PeerState
new_tally = record { shape = tally_shape; is_open = true; calls = 0; faults = 0; values = number (pos 0) ∷ [] }
