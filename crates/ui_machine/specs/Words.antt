-- Short forms in which definitions are written as data.
use Rattle.std.specs.Prelude.{ℕ, ℤ, Bool, true, false, List, [], ◌∷◌, codes, Option, None, Some}
use Rattle.ui_machine.specs.Definition.Kinds.{Kind, RegisterKind}
use Rattle.ui_machine.specs.Definition.Values.{Value}
use Rattle.ui_machine.specs.Definition.Types.{GType, Member, plain_class}
use Rattle.ui_machine.specs.Definition.Types as types
use Rattle.ui_machine.specs.Definition.Properties.{Spec}
use Rattle.ui_machine.specs.Definition.Signals.{Accumulator, Signal, Method, Shape, ClassHandler}
use Rattle.ui_machine.specs.Definition.{Class}
use Rattle.ui_machine.specs.Definition.Programs.{Instruction, Block, Connect, Program}
use Rattle.ui_machine.specs.Definition.Places.{Given, GivenProperty, Attached, Place, Bind}
use Rattle.ui_machine.specs.State.Peers.{Peer}

-- ** types

abbrev pub member : List ℕ → List ℕ → ℤ → Member
member name nick number = record { name = name; nick = nick; number = number }

abbrev pub enum_type : List ℕ → List Member → GType
enum_type name members = record (plain_class name None []) { sort = types.enum; members = members }

abbrev pub flags_type : List ℕ → List Member → GType
flags_type name members = record (plain_class name None []) { sort = types.flags; members = members }

abbrev pub interface_type : List ℕ → List ℕ → GType
interface_type name required = record (plain_class name None required) { sort = types.interface }

abbrev pub class_type : List ℕ → ℕ → (is_abstract is_final : Bool) → List ℕ → GType
class_type name parent is_abstract is_final interfaces =
    record (plain_class name (Some parent) interfaces) { is_abstract = is_abstract; is_final = is_final }

-- ** properties and signals

abbrev pub property : List ℕ → Kind → ℕ → Value → (low high : ℤ) → (weak : Bool) → Spec
property name kind flags default low high weak =
    record { name = name; kind = kind; flags = flags; default = default; low = low; high = high; weak = weak }

abbrev pub signal : List ℕ → List Kind → Option Kind → ℕ → Option Accumulator → Signal
signal name params result flags accumulator =
    record { name = name; params = params; result = result; flags = flags; accumulator = accumulator }

-- the signal that each class has
abbrev pub notify : Signal
notify = signal (codes "notify") [] None 17 None

abbrev pub class_handler : List ℕ → ℕ → ClassHandler
class_handler signal program = record { signal = signal; program = program }

abbrev pub class_with : List Spec → List Signal → List ClassHandler → Option ℕ → Option ℕ → Class
class_with specs signals handlers constructed shape =
    record { specs = specs; signals = signals; handlers = handlers; constructed = constructed; shape = shape }

-- a type without properties and signals of its own
abbrev pub bare : Class
bare = class_with [] (notify ∷ []) [] None None

-- ** shapes and programs

abbrev pub method : List ℕ → List Kind → Kind → Method
method name params result = record { name = name; params = params; result = result }

abbrev pub shape : List ℕ → List Method → Shape
shape name methods = record { name = name; methods = methods }

abbrev pub block : List RegisterKind → Option ℕ → List Instruction → Block
block entry repeat code = record { entry = entry; repeat = repeat; code = code }

abbrev pub program : List ℕ → List RegisterKind → ℕ → Option Kind → List Block → Program
program name params registers result blocks =
    record { name = name; params = params; registers = registers; result = result; blocks = blocks }

-- ** objects

abbrev pub gives : ℕ → Given → GivenProperty
gives slot given = record { slot = slot; given = given }

abbrev pub attached : List ℕ → Option (List ℕ) → ℕ → (after swapped : Bool) → Option ℕ → Attached
attached signal detail program after swapped with =
    record { signal = signal; detail = detail; program = program; after = after; swapped = swapped; with = with }

abbrev pub object : List ℕ → ℕ → Option ℕ → List GivenProperty → List (List ℕ) → List Attached → Place
object id class parent given peers signals =
    record { id = id; class = class; is_prototype = false; parent = parent; given = given; peers = peers; signals = signals }

abbrev pub prototype : List ℕ → ℕ → List GivenProperty → List (List ℕ) → Place
prototype id class given peers =
    record { id = id; class = class; is_prototype = true; parent = None; given = given; peers = peers; signals = [] }

abbrev pub bind : Option (List ℕ) → (source source_slot target target_slot flags at : ℕ) → Bind
bind name source source_slot target target_slot flags at =
    record { name = name; source = source; source_slot = source_slot; target = target; target_slot = target_slot; flags = flags; at = at }

-- ** instructions and peers

-- what `connect` says, in the order of the format
abbrev pub connects : (signal : List ℕ) (detail : Option (List ℕ)) (program : List ℕ) (after swapped : Bool) (with : Option ℕ) → Connect
connects signal detail program after swapped with =
    record { signal = signal; detail = detail; program = program; after = after; swapped = swapped; with = with }

-- a peer that was not called yet
abbrev pub peer : List ℕ → List Method → List Value → Peer
peer name methods state =
    record { name = name; state = record { shape = methods; is_open = true; calls = 0; faults = 0; values = state }; holder = None }
