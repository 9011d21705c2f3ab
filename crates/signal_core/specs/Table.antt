-- Which signals are declared, and why not: each fault is that of the first test that fails (GObject manual, signals: g_signal_newv,
-- g_signal_is_valid_name, g_signal_override_class_handler).
use Rattle.std.specs.Prelude.{Bool, Err, List, None, Ok, Option, Result, Some, [], cond, false, if◌then◌else◌, is_some, length, map, nat_eq, nat_le, not, true, ℕ, ◌++◌, ◌≡◌, ◌≤◌, ◌∷◌}
use Rattle.ui_machine.specs.Definition.Kinds as kinds
use Rattle.ui_machine.specs.Definition.Names.{canonical, same_name}
use Rattle.ui_machine.specs.Definition.Signals.{Accumulator, ClassHandler, Signal, first_wins, true_handled}
use Rattle.ui_machine.specs.Definition.Types.{GType}
use Rattle.ui_machine.specs.Rules.Ancestry.{lineage}
use Rattle.ui_machine.specs.Rules.EmissionPlan.{Planned, first_given, handler_in}
use Rattle.ui_machine.specs.Seq.{read, total}
use Rattle.type_tree.specs.PropertyName.{is_property_name}
use Rattle.signal_core.specs.Sources.{number_named, own_of, signals_of}
use Rattle.signal_core.specs.declared.fault.SignalError.{SignalError}
use Rattle.signal_core.specs.declared.fault.SignalError.TheVariants.{OutOfMemory, Refused}
use Rattle.signal_core.specs.declared.fault.SignalFault.{SignalFault}
use Rattle.signal_core.specs.declared.fault.SignalFault.TheVariants.{AccumulatorKind, BadName, Duplicate, Limit}

-- what types were given, by type
pub record Declared : Type 0 where
  pub signals : List (List Signal)  -- of its own, without `notify`
  pub handlers : List (List ClassHandler)  -- that it names itself

abbrev pub nothing_declared : Declared
nothing_declared = record { signals = []; handlers = [] }

-- no type has more than 64 signals of its own, and there are 256 types at most
pub record IsTable (signals : List (List Signal)) : Type 0 where
  pub own : (t : ℕ) → length (own_of signals t) ≤ 64
  pub few : length signals ≤ 256

-- ** faults

abbrev pub fault_if : Bool → SignalFault → Option SignalFault
fault_if b fault = if b then Some fault else None

infixr 20 ◌or_else◌
-- the first fault of two
abbrev pub ◌or_else◌ : Option SignalFault → Option SignalFault → Option SignalFault
(Some fault) or_else next = Some fault
None or_else next = next

abbrev pub is_bool : Option kinds.Kind → Bool
is_bool (Some kinds.bool) = true
is_bool (Some (kinds.whole w)) = false
is_bool (Some kinds.text) = false
is_bool (Some (kinds.enum t)) = false
is_bool (Some (kinds.flags t)) = false
is_bool (Some (kinds.object t)) = false
is_bool None = false

-- whether results of this kind can be put together so
abbrev pub takes_result : Option Accumulator → Option kinds.Kind → Bool
takes_result None result = true
takes_result (Some true_handled) result = is_bool result
takes_result (Some first_wins) result = is_some result

-- how many signals a type and its ancestors have of their own
abbrev pub line_count : List GType → List (List Signal) → ℕ → ℕ
line_count types signals t = total (λ c. length (own_of signals c)) (lineage types t)

-- what forbids a further signal of a type
abbrev pub declare_fault : List GType → List (List Signal) → ℕ → Signal → Option SignalFault
declare_fault types signals t s =
    fault_if (not (is_property_name s.name)) BadName
    or_else fault_if (is_some (number_named (signals_of types signals t) s.name)) Duplicate
    or_else fault_if (not (takes_result s.accumulator s.result)) AccumulatorKind
    or_else fault_if (nat_le 64 (line_count types signals t)) Limit

-- ** what declaring does

-- the signal as a table keeps it
abbrev pub canonical_signal : Signal → Signal
canonical_signal s = record s { name = canonical s.name }

-- a type has one more signal of its own, and the others have theirs
abbrev pub AddsSignal : List (List Signal) → List (List Signal) → ℕ → Signal → Type 0
AddsSignal old new t s = (u : ℕ) → own_of new u ≡ (if nat_eq u t then own_of old u ++ s ∷ [] else own_of old u)

-- all types have their signals
abbrev pub SameSignals : List (List Signal) → List (List Signal) → Type 0
SameSignals old new = (u : ℕ) → own_of new u ≡ own_of old u

-- A declared signal comes last among its type's own, and no class handler changes. Without memory nothing is declared, though nothing
-- forbids it; a fault is answered and nothing is declared.
abbrev pub Declares : Result (Unit {0}) SignalError → Option SignalFault → ℕ → Signal → Declared → Declared → Type 0
Declares (Ok done) fault t s old new =
    (fault ≡ None) × AddsSignal old.signals new.signals t (canonical_signal s) × (new.handlers ≡ old.handlers)
Declares (Err OutOfMemory) fault t s old new = (fault ≡ None) × SameSignals old.signals new.signals × (new.handlers ≡ old.handlers)
Declares (Err (Refused cause)) fault t s old new = (fault ≡ Some cause) × SameSignals old.signals new.signals × (new.handlers ≡ old.handlers)

-- ** class handlers

-- the programs that a type names itself
abbrev pub named_of : List (List ClassHandler) → ℕ → List ClassHandler
named_of handlers t = read [] handlers t

-- whether one of these programs is for the signal of a name, in either spelling
abbrev pub is_handled : List ClassHandler → List ℕ → Bool
is_handled hs name = is_some (handler_in hs (canonical name))

-- the program that a class or else its nearest ancestor names for a signal
abbrev pub class_handler_named : List GType → List (List ClassHandler) → ℕ → List ℕ → Option ℕ
class_handler_named types handlers t name = first_given (λ c. handler_in (named_of handlers c) name) (lineage types t)

-- what the turns of an emission of a type's signal are taken from, where it makes no transfers
abbrev pub planned_for : List GType → List (List ClassHandler) → (t object number : ℕ) → (detail : Option (List ℕ)) → Signal → Planned
planned_for types handlers t object number detail s = record {
  object = object;
  signal = number;
  detail = detail;
  flags = s.flags;
  class_program = class_handler_named types handlers t s.name;
  transfers = [];
}

-- a class handler of this name with a program
abbrev pub with_program : List ℕ → ℕ → ClassHandler → ClassHandler
with_program name program h = cond (same_name h.signal name) (record h { program = program }) h

-- the programs once one is named for a signal: in place of the one before, or else last
abbrev pub naming : List ℕ → ℕ → List ClassHandler → List ClassHandler
naming name program hs =
    cond (is_some (handler_in hs name)) (map (with_program name program) hs) (hs ++ record { signal = name; program = program } ∷ [])

-- a type names a program for a signal, and the others name what they did
abbrev pub Names : List (List ClassHandler) → List (List ClassHandler) → ℕ → List ℕ → ℕ → Type 0
Names old new t name program = (u : ℕ) → named_of new u ≡ (if nat_eq u t then naming name program (named_of old u) else named_of old u)

-- all types name what they did
abbrev pub SameHandlers : List (List ClassHandler) → List (List ClassHandler) → Type 0
SameHandlers old new = (u : ℕ) → named_of new u ≡ named_of old u

-- a type names one more class handler
abbrev pub AddsHandler : List (List ClassHandler) → List (List ClassHandler) → ℕ → ClassHandler → Type 0
AddsHandler old new t h = (u : ℕ) → named_of new u ≡ (if nat_eq u t then named_of old u ++ h ∷ [] else named_of old u)

-- the class handlers of a name that a type names have a program
abbrev pub RenamesHandlers : List (List ClassHandler) → List (List ClassHandler) → ℕ → List ℕ → ℕ → Type 0
RenamesHandlers old new t name program =
    (u : ℕ) → named_of new u ≡ (if nat_eq u t then map (with_program name program) (named_of old u) else named_of old u)
