-- Which definition and event of the machine the code's denote.
use Rattle.std.specs.Prelude.{◌≡◌, ℕ, ◌<◌, ◌≤◌, ◌+◌, ◌≤ℤ◌, Bool, true, false, not, nat_le, List, [], ◌++◌, map, length, count_by, if◌then◌else◌, Option, None, Some, option_map, option_and_then, String, string_bytes, slice_get, IfSome}
use Rattle.std.specs.Global.{Global}
use Rattle.std.specs.List.{AllByRecursion}
use Rattle.std.specs.Rc.{rc_str_bytes}
use Rattle.ui_machine.specs.Seq.{listed, read}
use Rattle.ui_machine.specs.declared.ids.Place.{Place}
use Rattle.ui_machine.specs.declared.limits.Limits.{Limits}
use Rattle.ui_machine.specs.Definition.Kinds as kinds
use Rattle.ui_machine.specs.Definition.Types.{GType}
use Rattle.ui_machine.specs.Definition.Types as sorts
use Rattle.ui_machine.specs.Rules.Transform.{least, greatest}
use Rattle.ui_machine.specs.Definition.Properties.{Spec}
use Rattle.ui_machine.specs.Rules.Validation.{is_valid}
use Rattle.ui_machine.specs.Definition.Places as machine
use Rattle.ui_machine.specs.Definition as definition
use Rattle.ui_machine.specs.Definition.Signals.{ClassHandler, Method, Shape, Signal}
use Rattle.ui_machine.specs.Definition.Programs.{Program}
use Rattle.ui_machine.specs.Definition.Lookups as lookups
use Rattle.ui_machine.specs.Rules.EmissionPlan.{Planned, class_handler_of, signal_of}
use Rattle.ui_machine.specs.State.Tasks as config
use Rattle.ui_machine.specs.Words.{notify}
use Rattle.type_tree.specs.Adding.{sort_of}
use Rattle.g_values.specs.View.{value_view}
use Rattle.param_specs.specs.Table.{specs_of}
use Rattle.signal_core.specs.Sources.{signals_of}
use Rattle.signal_core.specs.Table.{Declared, named_of}
use Rattle.bytecode.specs.declared.programs.Program as code_program
use Rattle.bytecode.specs.View.{program_view}
use Rattle.bytecode.specs.Known.{HasKnownBlocks}
use Rattle.bytecode.specs.Shape.{shape_fault}
use Rattle.definition_format.specs.declared.objects.Attached.{Attached}
use Rattle.definition_format.specs.declared.objects.Bind.{Bind}
use Rattle.definition_format.specs.declared.objects.Given.{Given}
use Rattle.definition_format.specs.declared.objects.Given.TheVariants as givens
use Rattle.definition_format.specs.declared.objects.GivenValue.{GivenValue}
use Rattle.definition_format.specs.declared.objects.ObjectBody.{ObjectBody}
use Rattle.definition_format.specs.declared.objects.PrototypeBody.{PrototypeBody}
use Rattle.definition_format.specs.declared.events.Event.{Event}
use Rattle.definition_format.specs.declared.events.Event.TheVariants as events
use Rattle.definition_format.specs.declared.events.Request.{Request}
use Rattle.definition_format.specs.declared.events.Request.TheVariants as requests

-- a type with these properties and signals, the programs that it names, for signals and for its objects once they are constructed, and its shape
abbrev pub type_with : List Spec → List Signal → List ClassHandler → Option ℕ → Option ℕ → definition.Class
type_with specs signals handlers constructed shape =
    record { specs = specs; signals = signals; handlers = handlers; constructed = constructed; shape = shape }

-- a value itself, or the object of a place
abbrev pub given_view : Given → machine.Given
given_view (givens.Value v) = machine.value (value_view v)
given_view (givens.Object place) = machine.named place.0

-- what is given to a property
abbrev pub given_property : GivenValue → machine.GivenProperty
given_property g = record { slot = g.slot; given = given_view g.given }

-- an object or a prototype
abbrev pub place_with : List ℕ → ℕ → Bool → Option ℕ → List (List ℕ) → List machine.GivenProperty → List machine.Attached → machine.Place
place_with id class is_prototype parent peers given signals =
    record { id = id; class = class; is_prototype = is_prototype; parent = parent; given = given; peers = peers; signals = signals }

-- an object, the child of the object at a place, if it is a child
abbrev pub plain_place : List ℕ → ℕ → Option ℕ → List (List ℕ) → List machine.GivenProperty → List machine.Attached → machine.Place
plain_place id class parent peers given signals = place_with id class false parent peers given signals

-- a prototype: it has neither a parent nor signals
abbrev pub prototype_with : List ℕ → ℕ → List (List ℕ) → List machine.GivenProperty → machine.Place
prototype_with id class peers given = place_with id class true None peers given []

-- the bytes of names
abbrev pub name_bytes : List (String Global) → List (List ℕ)
name_bytes names = map (λ name. string_bytes name) names

-- the number of a place, if there is one
abbrev pub place_number : Option Place → Option ℕ
place_number place = option_map (λ (p : Place). p.0) place

-- a signal of an object, with the program that it runs
abbrev pub attached_view : Attached → machine.Attached
attached_view a = record {
  signal = string_bytes a.signal;
  detail = option_map (λ text. string_bytes text) a.detail;
  program = a.program;
  after = a.after;
  swapped = a.swapped;
  with = place_number a.with;
}

-- a binding between a property of one object and one of another
abbrev pub bind_view : Bind → machine.Bind
bind_view b = record {
  name = option_map (λ text. string_bytes text) b.name;
  source = b.source.0;
  source_slot = b.source_slot;
  target = b.target.0;
  target_slot = b.target_slot;
  flags = b.flags.0;
  at = b.at;
}

-- the id of an object, and what it has under it
abbrev pub Entry : Type 0
Entry = String Global × ObjectBody

-- the object of an entry
abbrev pub plain_object : Entry → machine.Place
plain_object entry =
    plain_place (string_bytes entry.0) entry.1.class (place_number entry.1.parent) (name_bytes entry.1.peers.items) (map given_property entry.1.given.items) (map attached_view entry.1.signals.items)

-- the id of a prototype, and what it has under it
abbrev pub Prototype : Type 0
Prototype = String Global × PrototypeBody

-- the prototype of an entry
abbrev pub plain_prototype : Prototype → machine.Place
plain_prototype entry = prototype_with (string_bytes entry.0) entry.1.class (name_bytes entry.1.peers.items) (map given_property entry.1.given.items)

-- a program, and the name under which it is found
abbrev pub NamedProgram : Type 0
NamedProgram = String Global × code_program.Program

-- the program of an entry
abbrev pub plain_program : NamedProgram → Program
plain_program entry = program_view entry.1

-- the methods of a shape, under its name
abbrev pub NamedShape : Type 0
NamedShape = String Global × List Method

-- the shape of an entry
abbrev pub plain_shape : NamedShape → Shape
plain_shape entry = record { name = string_bytes entry.0; methods = entry.1 }

-- what a definition has that sets no limits: 64 objects live at a time, and programs connect no handlers
abbrev pub default_limits : Limits
default_limits = record { objects = 64; handlers = 0 }

-- what a definition is made of
pub record Parts : Type 0 where
  pub types : List GType
  pub specs : List (List Spec)
  pub declared : Declared
  pub constructed : List (Option ℕ)  -- the program that a class names itself, by class
  pub shapes : List NamedShape
  pub shaped : List (Option ℕ)  -- the shape that a class names itself, by class
  pub programs : List NamedProgram
  pub prototypes : List Prototype
  pub objects : List Entry
  pub bindings : List Bind
  pub limits : Limits

abbrev pub parts : List GType → List (List Spec) → Declared → List (Option ℕ) → List NamedShape → List (Option ℕ) → List NamedProgram → List Prototype → List Entry → List Bind → Limits → Parts
parts types specs declared constructed shapes shaped programs prototypes objects bindings limits = record {
  types = types;
  specs = specs;
  declared = declared;
  constructed = constructed;
  shapes = shapes;
  shaped = shaped;
  programs = programs;
  prototypes = prototypes;
  objects = objects;
  bindings = bindings;
  limits = limits;
}

-- what it has of a type
abbrev pub class_in : Parts → ℕ → definition.Class
class_in p t = type_with (specs_of p.types p.specs t) (signals_of p.types p.declared.signals t) (named_of p.declared.handlers t) (read None p.constructed t) (read None p.shaped t)

-- the places of these objects and, behind them, of these prototypes
abbrev pub places_of : List Entry → List Prototype → List machine.Place
places_of objects prototypes = map plain_object objects ++ map plain_prototype prototypes

-- the definition of these parts
abbrev pub meaning : Parts → definition.Definition
meaning p = record {
  types = p.types;
  classes = listed (class_in p) (length p.types);
  shapes = map plain_shape p.shapes;
  programs = map plain_program p.programs;
  places = places_of p.objects p.prototypes;
  bindings = map bind_view p.bindings;
  most_objects = p.limits.objects;
  most_handlers = p.limits.handlers;
}

-- A property of a kind that there is, among these types: a truth value, a number of a range within its kind, a text, a value of an enum or
-- a flags type, or an object.
abbrev pub IsPlainKind : List GType → kinds.Kind → Spec → Type 0
IsPlainKind types kinds.bool s = Unit {0}
IsPlainKind types (kinds.whole k) s = (least k ≤ℤ s.low) × (s.low ≤ℤ greatest k) × (least k ≤ℤ s.high) × (s.high ≤ℤ greatest k)
IsPlainKind types kinds.text s = Unit {0}
IsPlainKind types (kinds.enum t) s = sort_of types t ≡ sorts.enum
IsPlainKind types (kinds.flags t) s = sort_of types t ≡ sorts.flags
IsPlainKind types (kinds.object t) s = Unit {0}

-- and with a valid default
pub record IsPlain (types : List GType) (s : Spec) : Type 0 where
  pub kind : IsPlainKind types s.kind s
  pub default : is_valid (λ id. None) types s s.default ≡ true

-- an enum's kind names an enum of these types, and a flags kind a flags type
abbrev pub IsKnownKind : List GType → kinds.Kind → Type 0
IsKnownKind types kinds.bool = Unit {0}
IsKnownKind types (kinds.whole k) = Unit {0}
IsKnownKind types kinds.text = Unit {0}
IsKnownKind types (kinds.enum t) = sort_of types t ≡ sorts.enum
IsKnownKind types (kinds.flags t) = sort_of types t ≡ sorts.flags
IsKnownKind types (kinds.object t) = Unit {0}

-- the kinds of a signal's arguments and of its result are known
pub record HasKnownKinds (types : List GType) (s : Signal) : Type 0 where
  pub params : AllByRecursion (IsKnownKind types) s.params
  pub result : IfSome s.result (IsKnownKind types)

-- and those of all signals of all types
pub record HaveKnownKinds (types : List GType) (signals : List (List Signal)) : Type 0 where
  pub at : (t number : ℕ) (s : Signal) → slice_get (signals_of types signals t) number ≡ Some s → HasKnownKinds types s

-- all properties of all types are plain
pub record ArePlain (types : List GType) (specs : List (List Spec)) : Type 0 where
  pub at : (t slot : ℕ) (s : Spec) → slice_get (specs_of types specs t) slot ≡ Some s → IsPlain types s

-- limits that a definition may declare: those that their own test accepts
pub record AreLimits (limits : Limits) : Type 0 where
  pub some_objects : 1 ≤ limits.objects
  pub most_objects : limits.objects ≤ 4096
  pub most_handlers : limits.handlers ≤ 16

-- a program is under its own name
abbrev pub HasOwnName : NamedProgram → Type 0
HasOwnName entry = string_bytes entry.0 ≡ string_bytes entry.1.name

-- the kinds in its code are known, its blocks fit together, and it is not too long
pub record IsSoundProgram (types : List GType) (entry : NamedProgram) : Type 0 where
  pub known : HasKnownBlocks types entry.1
  pub shaped : shape_fault (program_view entry.1) ≡ None

-- What is so of every definition.
pub record IsSound (p : Parts) : Type 0 where
  pub plain : ArePlain p.types p.specs
  pub kinds : HaveKnownKinds p.types p.declared.signals
  pub limited : AreLimits p.limits
  pub few : length p.objects ≤ p.limits.objects
  pub places : length p.objects + length p.prototypes ≤ 512
  pub named : AllByRecursion HasOwnName p.programs
  pub programs : AllByRecursion (IsSoundProgram p.types) p.programs
  pub few_programs : length p.programs ≤ 256
  pub handlers : (t : ℕ) → length p.types ≤ t → named_of p.declared.handlers t ≡ []
  pub shaped : (t : ℕ) → length p.types ≤ t → read None p.shaped t ≡ None

abbrev pub class_of_place : Option machine.Place → ℕ
class_of_place None = 0
class_of_place (Some place) = place.class

-- the class of the object at a place, and the first class where there is none
abbrev pub class_at : definition.Definition → ℕ → ℕ
class_at d place = class_of_place (lookups.place_at d place)

-- whether a place is of an object
abbrev pub is_object : machine.Place → Bool
is_object place = not place.is_prototype

-- how many places of a definition are objects
abbrev pub object_count : definition.Definition → ℕ
object_count d = count_by is_object d.places

abbrev pub is_object_there : Option machine.Place → Bool
is_object_there None = false
is_object_there (Some place) = is_object place

-- a place, if it is of an object
abbrev pub if_object : definition.Definition → ℕ → Option ℕ
if_object d place = if is_object_there (lookups.place_at d place) then Some place else None

-- the place of the object of an id
abbrev pub object_place : definition.Definition → List ℕ → Option ℕ
object_place d id = option_and_then (if_object d) (lookups.place_of d id)

-- What is known of every definition. Its objects come first among its places.
pub record IsBasic (d : definition.Definition) : Type 0 where
  pub plain : (t slot : ℕ) (s : Spec) → lookups.spec_of d t slot ≡ Some s → IsPlain d.types s
  pub prototypes : (p : ℕ) (place : machine.Place) → slice_get d.places p ≡ Some place → place.is_prototype ≡ nat_le (object_count d) p
  pub no_parents : (p : ℕ) (place : machine.Place) → slice_get d.places p ≡ Some place → place.is_prototype ≡ true → place.parent ≡ None
  pub silent : (p : ℕ) (place : machine.Place) → slice_get d.places p ≡ Some place → place.is_prototype ≡ true → place.signals ≡ []
  pub few_programs : length d.programs ≤ 256
  pub shaped : (number : ℕ) (p : Program) → lookups.program_at d number ≡ Some p → shape_fault p ≡ None
  pub few_registers : (number : ℕ) (p : Program) → lookups.program_at d number ≡ Some p → p.registers ≤ 32
  pub first_signal : (t : ℕ) → t < length d.types → signal_of d t 0 ≡ Some notify
  pub signal_kinds : (t number : ℕ) (s : Signal) → signal_of d t number ≡ Some s → HasKnownKinds d.types s
  pub unknown_signals : (t : ℕ) → length d.types ≤ t → (lookups.class_of d t).signals ≡ []
  pub unknown_specs : (t : ℕ) → length d.types ≤ t → lookups.specs_of d t ≡ []

-- what an emission of a signal of a class takes its turns from; it makes no transfers
abbrev pub planned : definition.Definition → (class object number : ℕ) → (detail : Option (List ℕ)) → Signal → Planned
planned d class object number detail s = record {
  object = object;
  signal = number;
  detail = detail;
  flags = s.flags;
  class_program = class_handler_of d class s.name;
  transfers = [];
}

abbrev pub request_of : Request → config.Request
request_of (requests.Set place slot given) = config.set place.0 slot (given_view given)
request_of (requests.Get place slot) = config.get place.0 slot
request_of (requests.Release place) = config.release place.0
request_of (requests.Emit place signal args detail) = config.emit place.0 signal (map given_view args.items) (option_map (λ text. rc_str_bytes text) detail)

abbrev pub event_of : Event → config.Event
event_of (events.Request request) = config.request (request_of request)
event_of (events.Turn moment) = config.turn moment
