-- Handlers that are connected (GObject manual, signals: g_signal_connect_data).
use Rattle.std.specs.List.{find}
use Rattle.std.specs.Prelude.{Bool, List, Option, nat_eq, ℕ}

-- which signal of an object a handler or an emission is about; 0 is `notify`, and then the detail is a property's name
pub record Handler : Type 0 where
  pub number : ℕ
  pub object : ℕ
  pub signal : ℕ  -- its number in the list of the class
  pub detail : Option (List ℕ)
  pub program : ℕ
  pub after : Bool
  pub swapped : Bool
  pub arg : Option ℕ  -- the data object
  pub blocks : ℕ
  pub by_code : Bool  -- whether bytecode connected it

-- ** entries

-- the handler of a number, if it is connected
abbrev pub handler_of : ℕ → List Handler → Option Handler
handler_of number hs = find (λ h. nat_eq h.number number) hs
