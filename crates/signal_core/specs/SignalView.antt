-- What a signal denotes.
use Rattle.std.specs.Prelude.{List, map, option_map, string_bytes}
use Rattle.ui_machine.specs.Definition.Signals as machine
use Rattle.g_values.specs.View.{kind_view}
use Rattle.signal_core.specs.Emission.{accumulator_of}
use Rattle.signal_core.specs.declared.signal.DeclaredSignal.{DeclaredSignal}
use Rattle.signal_core.specs.declared.signal.Signal.{Signal}

-- the pure signal
abbrev pub signal_view : Signal → machine.Signal
signal_view s = record {
  name = string_bytes s.name;
  params = map kind_view s.params.items;
  result = option_map kind_view s.result;
  flags = s.flags.0;
  accumulator = option_map accumulator_of s.accumulator;
}

-- one that a table gives
abbrev pub declared_view : DeclaredSignal → machine.Signal
declared_view s = record {
  name = s.name.now;
  params = map kind_view s.params.now;
  result = option_map kind_view s.result;
  flags = s.flags.0;
  accumulator = option_map accumulator_of s.accumulator;
}

-- lists of signals
abbrev pub signals_in : {A : Type 0} → (A → List Signal) → List A → List (List machine.Signal)
signals_in items vs = map (λ v. map signal_view (items v)) vs
