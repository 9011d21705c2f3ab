-- The channels of a definition that are busy: all but the signals at which nothing runs, and which no program names.
use Rattle.std.specs.Prelude.{ℕ, Bool, true, ◌||◌, List, map, Option, None, Some, is_some, option_and_then}
use Rattle.std.specs.List.{filter, filter_map, flat_map, list_any}
use Rattle.ui_machine.specs.Definition.{Definition}
use Rattle.ui_machine.specs.Definition.Places.{Attached}
use Rattle.ui_machine.specs.Definition.Programs.{Block, Instruction, Program}
use Rattle.ui_machine.specs.Definition.Programs as words
use Rattle.ui_machine.specs.Definition.Signals.{Signal}
use Rattle.ui_machine.specs.Rules.Connections.{signal_number}
use Rattle.ui_machine.specs.Rules.EmissionPlan.{class_handler_of, signal_of}
use Rattle.ui_machine.specs.Rules.Programs.{is_number}
use Rattle.law_typing.specs.Graph.{Graph, attached_to, graph}
use Rattle.law_typing.specs.Graph.Channels.{Channel, channels, constructed, property, signal}
use Rattle.law_typing.specs.Rules.RegisterKinds.{class_at}
use Rattle.law_idle.specs.Resting.{OthersAreIdle, without_idle}

-- the signal that an instruction emits, or to which it connects a handler
abbrev pub signal_named : Instruction → Option (List ℕ)
signal_named (words.emit into object name detail args) = Some name
signal_named (words.connect to object c) = Some c.signal
signal_named _ = None

-- those of some instructions
abbrev pub named_in : List Instruction → List (List ℕ)
named_in code = filter_map signal_named code

-- those of some blocks
abbrev pub named_in_blocks : List Block → List (List ℕ)
named_in_blocks blocks = flat_map (λ (b : Block). named_in b.code) blocks

-- those of all programs
abbrev pub named_signals : Definition → List (List ℕ)
named_signals d = flat_map (λ (p : Program). named_in_blocks p.blocks) d.programs

-- whether one of some names is that of a signal of a class
abbrev pub is_named : Definition → List (List ℕ) → (class number : ℕ) → Bool
is_named d names class number = list_any (λ (name : List ℕ). is_number number (signal_number d class name)) names

-- whether a class runs a program for a signal
abbrev pub is_handled : Definition → (class number : ℕ) → Bool
is_handled d class number = is_some (option_and_then (λ (s : Signal). class_handler_of d class s.name) (signal_of d class number))

-- whether a class runs a program for a signal, or a program names it
abbrev pub is_used : Definition → (class number : ℕ) → Bool
is_used d class number = is_handled d class number || is_named d (named_signals d) class number

-- the signals for which the object of a place runs programs
abbrev pub signals_attached : List Attached → List (List ℕ)
signals_attached signals = map (λ (a : Attached). a.signal) signals

-- whether a signal of a place is busy, if the place has a class
abbrev pub is_busy_at : Definition → (place number : ℕ) → Option ℕ → Bool
is_busy_at d place number None = true
is_busy_at d place number (Some class) = is_used d class number || is_named d (signals_attached (attached_to d place)) class number

-- whether a channel is busy
abbrev pub is_busy : Definition → Channel → Bool
is_busy d (constructed place) = true
is_busy d (property place slot) = true
is_busy d (signal place number) = is_busy_at d place number (class_at d place)

-- the busy channels, in the order of the report
abbrev pub busy_channels : Definition → List Channel
busy_channels d = filter (is_busy d) (channels d)

-- the graph of a definition without its idle channels
abbrev pub busy_graph : Definition → Graph
busy_graph d = without_idle (graph d) (is_busy d)

-- nothing runs at the other channels of a definition, and nothing leads there
abbrev pub OthersAreIdleIn : Type 0
OthersAreIdleIn = (d : Definition) → OthersAreIdle (graph d) (is_busy d)
