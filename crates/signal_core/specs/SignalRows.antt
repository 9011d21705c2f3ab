-- Where the signals of types are.
use Rattle.std.specs.List.{AllByRecursion}
use Rattle.std.specs.Prelude.{[], List, length, map, ℕ, ◌<◌, ◌≡◌, ◌≤◌}
use Rattle.ui_machine.specs.Definition.Signals.{Signal}
use Rattle.ui_machine.specs.Definition.Types.{GType}
use Rattle.ui_machine.specs.Seq.{read}
use Rattle.ui_machine.specs.Words.{notify}
use Rattle.signal_core.specs.Sources.{declared_of, own_of}
use Rattle.signal_core.specs.declared.signal_rows.SignalPlace.{SignalPlace}

-- the place of a type's own signal
abbrev pub own_place : (t at : ℕ) → SignalPlace
own_place t at = record { owner = t; at = at }

-- the signal at a place
abbrev pub signal_at : List (List Signal) → SignalPlace → Signal
signal_at own place = read notify (own_of own place.owner) place.at

-- the signals at these places
abbrev pub signals_at : List (List Signal) → List SignalPlace → List Signal
signals_at own places = map (signal_at own) places

-- there is a signal at each of these places
abbrev pub AreThere : List (List Signal) → List SignalPlace → Type 0
AreThere own places = AllByRecursion (λ place. place.at < length (own_of own place.owner)) places

-- these are the places of these signals
abbrev pub ArePlaces : List (List Signal) → List SignalPlace → List Signal → Type 0
ArePlaces own places signals = AreThere own places × (signals_at own places ≡ signals)

-- these are the places of the declared signals of all types
pub record HasSignals (types : List GType) (own : List (List Signal)) (rows : List (List SignalPlace)) : Type 0 where
  pub all : length rows ≡ length types
  pub each : (t : ℕ) → t < length rows → ArePlaces own (read [] rows t) (declared_of types own t)

-- no type has more signals than 256 types may have of their own
abbrev pub AreFew : List (List SignalPlace) → Type 0
AreFew rows = AllByRecursion (λ row. length row ≤ 16384) rows
