-- What may be asked of texts.
use Rattle.std.specs.Prelude.{◌≡◌, ℕ, suc, zero, ℤ, pos, List, [], ◌∷◌, Option, Some, FitsSigned, SomeIff, codes, length, true}
use Rattle.std.specs.Int.{w64}
use Rattle.std.specs.Str.Parse.{IsNumeral, signed_digits_value, without_leading_sign}
use Rattle.ui_machine.specs.Definition.Kinds as kinds
use Rattle.ui_machine.specs.Definition.Signals.{Method}
use Rattle.ui_machine.specs.Definition.Values.{Value}
use Rattle.ui_machine.specs.Definition.Values as values
use Rattle.ui_machine.specs.State.Peers.{PeerState}
use Rattle.native_peers.specs.Moves.{Relation}

-- `length(text) -> uint64` and `number(text) -> int64`
abbrev pub texts_shape : List Method
texts_shape =
    record { name = codes "length"; params = kinds.text ∷ []; result = kinds.whole kinds.uint64 }
    ∷ record { name = codes "number"; params = kinds.text ∷ []; result = kinds.whole kinds.int64 }
    ∷ []

-- the bytes of a text, none for null
abbrev pub bytes_in : Value → List ℕ
bytes_in (values.text (Some bytes)) = bytes
bytes_in _ = []

-- the bytes of the first argument
abbrev pub first_bytes : List Value → List ℕ
first_bytes [] = []
first_bytes (v ∷ vs) = bytes_in v

-- a text writes a number of 64 bits: decimal digits after a sign or none
abbrev pub IsNumber : List ℕ → Type 0
IsNumber bytes = IsNumeral 10 (without_leading_sign bytes) × FitsSigned w64 (signed_digits_value 10 bytes)

abbrev pub value_of : List ℕ → ℤ
value_of bytes = signed_digits_value 10 bytes

-- what a method answers for a text: its length; or the number that it writes, and a fault where it writes none
abbrev pub Answers : ℕ → List ℕ → Option Value → Type 0
Answers zero bytes answer = answer ≡ Some (values.whole kinds.uint64 (pos (length bytes)))
Answers (suc method) bytes answer = SomeIff answer (IsNumber bytes) (values.whole kinds.int64 (value_of bytes))

abbrev pub Measures : Relation
Measures s method args answer t = Answers method (first_bytes args) answer × (t.values ≡ s.values)

-- texts begin open
abbrev pub new_texts : PeerState
new_texts = record { shape = texts_shape; is_open = true; calls = 0; faults = 0; values = [] }
