-- A worked peer: what a tally may do, which adds whole numbers up.
use Rattle.std.specs.Prelude.{◌≡◌, ◌+ℤ◌, IsSomeAnd, IsTrue, MatchOption, ℕ, suc, zero, ℤ, pos, List, [], ◌∷◌, codes, slice_get}
use Rattle.ui_machine.specs.Definition.Kinds as kinds
use Rattle.ui_machine.specs.Definition.Signals.{Method}
use Rattle.ui_machine.specs.Definition.Values.{Value}
use Rattle.ui_machine.specs.Definition.Values as values
use Rattle.native_peers.specs.Moves.{Relation}
use Rattle.native_peers.specs.Seen.{Seen}

-- `add(int64) -> int64` and `read() -> int64`
abbrev pub tally_shape : List Method
tally_shape =
    record { name = codes "add"; params = kinds.whole kinds.int64 ∷ []; result = kinds.whole kinds.int64 }
    ∷ record { name = codes "read"; params = []; result = kinds.whole kinds.int64 }
    ∷ []

abbrev pub number : ℤ → Value
number n = values.whole kinds.int64 n

-- the number of a value of 64 bits with a sign
abbrev pub number_in : Value → ℤ
number_in (values.whole kinds.int64 n) = n
number_in _ = pos 0

-- the number of the first argument
abbrev pub first_number : List Value → ℤ
first_number [] = pos 0
first_number (v ∷ vs) = number_in v

-- the sum after a method: `add` adds its argument, and `read` leaves it
abbrev pub sum_after : ℤ → ℕ → List Value → ℤ
sum_after sum zero args = sum +ℤ first_number args
sum_after sum (suc method) args = sum

-- the answer is the new sum; a fault leaves the sum as it is
abbrev pub Tallies : Relation
Tallies s method args answer t =
    (sum : ℤ) × (s.values ≡ number sum ∷ [])
    × MatchOption answer (t.values ≡ s.values) (λ v. (v ≡ number (sum_after sum method args)) × (t.values ≡ v ∷ []))

-- the peer of a number is an open tally
abbrev pub IsTallyAt : ℕ → List Seen → Type 0
IsTallyAt k peers = IsSomeAnd (slice_get peers k) (λ p. (p.state.shape ≡ tally_shape) × IsTrue p.state.is_open)
