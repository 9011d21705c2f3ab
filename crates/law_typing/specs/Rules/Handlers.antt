-- The programs that classes and objects name for signals take what they are given there.
use Rattle.std.specs.Prelude.{ℕ, suc, Bool, true, false, ◌&&◌, List, [], ◌∷◌, ◌++◌, Option, None, Some, option_map}
use Rattle.ui_machine.specs.Definition.Kinds as kinds
use Rattle.ui_machine.specs.Definition.{Definition, Class}
use Rattle.ui_machine.specs.Definition.Signals.{Signal, ClassHandler}
use Rattle.ui_machine.specs.Definition.Places.{Attached, Place}
use Rattle.ui_machine.specs.Definition.Lookups.{program_at}
use Rattle.ui_machine.specs.Rules.EmissionPlan.{signal_of}
use Rattle.ui_machine.specs.Rules.Connections.{signal_number}
use Rattle.law_typing.specs.Rules.Signatures.{is_taken_by, given_kinds, takes_detail}
use Rattle.law_typing.specs.Rules.Faults.{Fault, handler_signature}
use Rattle.law_typing.specs.Rules.Faults as faults

-- a test of a signal of a class, with its number; a signal that is not there fails it
abbrev pub at_signal : Definition → ℕ → Option ℕ → (ℕ → Signal → Bool) → Bool
at_signal d class None test = false
at_signal d class (Some number) test = of (signal_of d class number)
  where
    of : Option Signal → Bool
    of None = false
    of (Some s) = test number s

-- whether a class's handler takes an instance of the class and the arguments
abbrev pub class_handler_fits : Definition → ℕ → ClassHandler → Bool
class_handler_fits d class h =
    at_signal d class (signal_number d class h.signal)
    (λ number s. is_taken_by d (program_at d h.program) (given_kinds false (kinds.some class) s.params None) s.result)

-- whether a `constructed` program takes an instance of the class alone, and gives nothing
abbrev pub constructed_fits : Definition → (class program : ℕ) → Bool
constructed_fits d class program = is_taken_by d (program_at d program) (kinds.some class ∷ []) None

-- whether an object's signal takes its detail, and its program the object, the arguments and the data
abbrev pub attached_fits : Definition → ℕ → Place → Attached → Bool
attached_fits d place p a =
    at_signal d p.class (signal_number d p.class a.signal)
    (λ number s.
    takes_detail d p.class number s a.detail
    && is_taken_by d (program_at d a.program) (given_kinds a.swapped (kinds.at place) s.params (option_map kinds.at a.with)) s.result)

-- the fault where a test fails
abbrev pub unless : Bool → Fault → List Fault
unless true fault = []
unless false fault = fault ∷ []

-- of a class's own handlers, where the first has this number
abbrev pub class_handler_faults : Definition → (class number : ℕ) → List ClassHandler → List Fault
class_handler_faults d class number [] = []
class_handler_faults d class number (h ∷ hs) =
    unless (class_handler_fits d class h) (handler_signature (faults.class_handler class number))
    ++ class_handler_faults d class (suc number) hs

-- of a class's `constructed` program
abbrev pub constructed_faults : Definition → ℕ → Option ℕ → List Fault
constructed_faults d class None = []
constructed_faults d class (Some program) = unless (constructed_fits d class program) (handler_signature (faults.constructed class))

-- of the classes from this number on
abbrev pub class_faults : Definition → ℕ → List Class → List Fault
class_faults d class [] = []
class_faults d class (c ∷ cs) =
    class_handler_faults d class 0 c.handlers ++ (constructed_faults d class c.constructed ++ class_faults d (suc class) cs)

-- of an object's signals, where the first has this number
abbrev pub attached_faults : Definition → ℕ → Place → ℕ → List Attached → List Fault
attached_faults d place p number [] = []
attached_faults d place p number (a ∷ more) =
    unless (attached_fits d place p a) (handler_signature (faults.attached place number)) ++ attached_faults d place p (suc number) more

-- of the places from this number on
abbrev pub place_faults : Definition → ℕ → List Place → List Fault
place_faults d place [] = []
place_faults d place (p ∷ ps) = attached_faults d place p 0 p.signals ++ place_faults d (suc place) ps

-- the handlers that do not fit, in document order: those of classes before those of objects
abbrev pub handler_faults : Definition → List Fault
handler_faults d = class_faults d 0 d.classes ++ place_faults d 0 d.places
