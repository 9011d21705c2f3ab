-- The graph of a definition: what runs at each channel, and which channels each program may start. In it everything goes by number.
pub mod Channels
pub mod Tables
pub mod Ranks
pub mod Costs
pub mod Depths
use Rattle.std.specs.Prelude.{ℕ, suc, Bool, true, false, cond, not, ◌&&◌, ◌||◌, nat_eq, nat_lt, List, [], ◌∷◌, ◌++◌, length, map, codes, Option, None, Some}
use Rattle.std.specs.List.{filter, filter_map, flat_map, list_any}
use Rattle.ui_machine.specs.Seq.{read}
use Rattle.ui_machine.specs.Definition.Properties.{Spec, has_flags}
use Rattle.ui_machine.specs.Definition.{Definition}
use Rattle.ui_machine.specs.Definition.Signals.{Signal}
use Rattle.ui_machine.specs.Definition.Places.{Attached, Place, Bind, GivenProperty}
use Rattle.ui_machine.specs.Definition.Programs.{Instruction, Block, Program, passes_in}
use Rattle.ui_machine.specs.Definition.Programs as words
use Rattle.ui_machine.specs.Definition.Lookups.{slot_of, specs_of, place_at, place_of, program_of}
use Rattle.ui_machine.specs.Rules.EmissionPlan.{signal_of, class_handler_of}
use Rattle.ui_machine.specs.Rules.Programs.{is_number}
use Rattle.ui_machine.specs.Rules.Connections.{signal_number}
use Rattle.ui_machine.specs.Rules.Construction.{is_at_construction, is_forward}
use Rattle.law_typing.specs.Rules.RegisterKinds.{Kinds, kind_in, class_at, places}
use Rattle.law_typing.specs.Rules.Typing.{after}
use Rattle.law_typing.specs.Graph.Channels.{Channel, constructed, property, signal, same_channel, of_class, constructed_at, channels, present, readable_at, is_paired, is_pair, source_of, target_of}
use Rattle.law_typing.specs.Rules.Sites.{Site, sites}

-- what runs at a channel
pub record Raised : Type 0 where
  pub channel : Channel
  pub class_handler : List ℕ  -- one program at most
  pub stages : ℕ  -- how often the class handler runs
  pub handlers : List ℕ  -- the programs of the objects' handlers; of a construction, those of its classes
  pub connectable : List ℕ  -- the programs that bytecode may connect
  pub targets : List Channel  -- of the bindings that lead from here one way

-- what an instruction may start
pub data Start : Type 0 where
  nothing : Start
  raises : List Channel → Start  -- one of these
  makes : List Channel → Start  -- an object: its construction, and the notifications of its built properties
  thaws : List (List Channel) → Start  -- all of one of these lists: what may wait in the queue of an object

-- a block: what each instruction may start, and which blocks come next
pub record Stretch : Type 0 where
  pub starts : List Start
  pub passes : ℕ  -- how often those before the last are taken
  pub next : List ℕ

pub record Graph : Type 0 where
  pub raised : List Raised  -- in the order of the report
  pub programs : List (List Stretch)
  pub pairs : List (Channel × Channel)  -- the properties that are bound both ways, the first in the report first
  pub makings : List (List Channel)  -- by place: what the making of an object raises
  pub built : List (List Channel)  -- what the build's makings raise
  pub forwards : List Channel  -- what its forward values raise
  pub created : List Channel  -- the targets of its first transfers
  pub sources : List ℕ  -- the programs of sources
  pub most_handlers : ℕ
  pub most_objects : ℕ

-- ** what runs at a channel

-- whether a detail, if there is one, names the property of the slot
abbrev pub names_slot : Definition → (class slot : ℕ) → Option (List ℕ) → Bool
names_slot d class slot None = true
names_slot d class slot (Some detail) = is_number slot (slot_of d class detail)

-- Whether a signal of an object of the class, with a detail or none, can mean the channel. A property's is `notify`, number 0, without a
-- detail or with its name.
abbrev pub can_mean : Definition → ℕ → Channel → List ℕ → Option (List ℕ) → Bool
can_mean d class (constructed place) name detail = false
can_mean d class (property place slot) name detail = is_number 0 (signal_number d class name) && names_slot d class slot detail
can_mean d class (signal place number) name detail = is_number number (signal_number d class name)

abbrev pub place_of_channel : Channel → ℕ
place_of_channel (constructed place) = place
place_of_channel (property place slot) = place
place_of_channel (signal place number) = place

-- a list of one or none
abbrev pub listed_if : {A : Type 0} → Option A → List A
listed_if None = []
listed_if (Some x) = x ∷ []

-- the program that a class runs for a signal, if the signal is there
abbrev pub handler_of_signal : Definition → ℕ → Option Signal → List ℕ
handler_of_signal d class None = []
handler_of_signal d class (Some s) = listed_if (class_handler_of d class s.name)

-- the class handler's program; a property's is that of `notify`
abbrev pub class_handler_for : Definition → Channel → ℕ → List ℕ
class_handler_for d (constructed place) class = []
class_handler_for d (property place slot) class = listed_if (class_handler_of d class (codes "notify"))
class_handler_for d (signal place number) class = handler_of_signal d class (signal_of d class number)

-- the stages of a signal's flags: RUN_FIRST, RUN_LAST, RUN_CLEANUP
abbrev pub stages_of : Option Signal → ℕ
stages_of None = 0
stages_of (Some s) = length (filter (λ stage. has_flags stage s.flags) (1 ∷ 2 ∷ 4 ∷ []))

-- how often the class handler runs; that of `notify` once
abbrev pub stages_at : Definition → Channel → ℕ
stages_at d (constructed place) = 0
stages_at d (property place slot) = 1
stages_at d (signal place number) = of (class_at d place)
  where
    of : Option ℕ → ℕ
    of None = 0
    of (Some class) = stages_of (signal_of d class number)

-- the signals of a place, if there is one
abbrev pub signals_of : Option Place → List Attached
signals_of None = []
signals_of (Some p) = p.signals

-- the signals that an object of the definition names for itself
abbrev pub attached_to : Definition → ℕ → List Attached
attached_to d place = signals_of (place_at d place)

-- the programs of those that can mean the channel
abbrev pub attached_for : Definition → Channel → ℕ → List ℕ
attached_for d c class =
    map (λ (a : Attached). a.program) (filter (λ (a : Attached). can_mean d class c a.signal a.detail) (attached_to d (place_of_channel c)))

-- what the definition's objects run at a channel; at a construction the classes' programs
abbrev pub handlers_for : Definition → Channel → List ℕ
handlers_for d (constructed place) = constructed_at d place
handlers_for d c = of_class (attached_for d c) (class_at d (place_of_channel c))

-- a connection that a program may make: the places of its object, the signal, the detail, and the program
pub record Connection : Type 0 where
  pub places : List ℕ
  pub signal : List ℕ
  pub detail : Option (List ℕ)
  pub program : Option ℕ

-- the connection of an instruction
abbrev pub connection_of : Definition → Kinds → Instruction → Option Connection
connection_of d ks (words.connect to object c) =
    Some (record { places = places d (kind_in ks object); signal = c.signal; detail = c.detail; program = program_of d c.program })
connection_of d ks _ = None

-- all of them
abbrev pub connections : Definition → List Site → List Connection
connections d ss = filter_map (λ (s : Site). connection_of d s.kinds s.instruction) ss

-- whether a connection may be at the channel
abbrev pub may_be_at : Definition → Channel → ℕ → Connection → Bool
may_be_at d c class n = list_any (nat_eq (place_of_channel c)) n.places && can_mean d class c n.signal n.detail

-- the programs that bytecode may connect at a channel
abbrev pub connectable_at : Definition → List Connection → Channel → List ℕ
connectable_at d ns c =
    of_class (λ class. filter_map (λ (n : Connection). n.program) (filter (may_be_at d c class) ns)) (class_at d (place_of_channel c))

-- the targets of the bindings that lead from a channel one way
abbrev pub targets_from : Definition → Channel → List Channel
targets_from d c = map target_of (filter (λ b. not (is_pair b) && same_channel (source_of b) c) d.bindings)

-- what runs at a channel, where these connections may be made; where no handler may be connected there are none
abbrev pub raised_at : Definition → List Connection → Channel → Raised
raised_at d ns c = record {
  channel = c;
  class_handler = of_class (class_handler_for d c) (class_at d (place_of_channel c));
  stages = stages_at d c;
  handlers = handlers_for d c;
  connectable = cond (nat_lt 0 d.most_handlers) (connectable_at d ns c) [];
  targets = targets_from d c;
}

-- ** what a program may start

-- the number of something of a class, if there is a class
abbrev pub number_for : (ℕ → Option ℕ) → Option ℕ → Option ℕ
number_for number_in None = None
number_for number_in (Some class) = number_in class

-- the channel of a place, if its class has the number
abbrev pub channel_for : (ℕ → Channel) → Option ℕ → Option Channel
channel_for channel None = None
channel_for channel (Some number) = Some (channel number)

-- the channel of a property or signal at a place, where `number_in` gives its number in a class
abbrev pub channel_over : Definition → (ℕ → Option ℕ) → (ℕ → ℕ → Channel) → ℕ → Option Channel
channel_over d number_in channel place = channel_for (channel place) (number_for number_in (class_at d place))

-- those over some places
abbrev pub over : Definition → (ℕ → Option ℕ) → (ℕ → ℕ → Channel) → List ℕ → List Channel
over d number_in channel ps = present d (filter_map (channel_over d number_in channel) ps)

-- whether a property is among the given ones, by a value that is not a forward one
abbrev pub is_given : (place slot : ℕ) → GivenProperty → Bool
is_given place slot g = nat_eq g.slot slot && not (is_forward place g.given)

-- the properties of a place that are set as its object is made, from this slot on: construct, construct-only, or given by a value that is not
-- a forward one
abbrev pub set_from : (place : ℕ) → List GivenProperty → ℕ → List Spec → List Channel
set_from place given slot [] = []
set_from place given slot (s ∷ specs) =
    cond (is_at_construction s || list_any (is_given place slot) given) (property place slot ∷ []) []
    ++ set_from place given (suc slot) specs

-- what the making of a place's object raises: its construction, and its built properties, which are the readable ones of those
abbrev pub raised_by_making : Definition → ℕ → Place → List Channel
raised_by_making d place p = present d (constructed place ∷ set_from place p.given 0 (specs_of d p.class))

-- of the places from this number on
abbrev pub makings_from : Definition → ℕ → List Place → List (List Channel)
makings_from d place [] = []
makings_from d place (p ∷ ps) = raised_by_making d place p ∷ makings_from d (suc place) ps

-- what the making of an id's object raises
abbrev pub making_of : Definition → Option ℕ → List Channel
making_of d None = []
making_of d (Some place) = read [] (makings_from d 0 d.places) place

-- the paired properties of a place, which a thaw of its object may notify
abbrev pub paired_at : Definition → ℕ → List Channel
paired_at d place = filter (is_paired d) (readable_at d place)

-- what an instruction may start
abbrev pub start_of : Definition → Kinds → Instruction → Start
start_of d ks (words.set object name from) = raises (over d (λ class. slot_of d class name) property (places d (kind_in ks object)))
start_of d ks (words.notify object name) = raises (over d (λ class. slot_of d class name) property (places d (kind_in ks object)))
start_of d ks (words.emit into object name detail args) =
    raises (over d (λ class. signal_number d class name) signal (places d (kind_in ks object)))
start_of d ks (words.new to id) = makes (making_of d (place_of d id))
start_of d ks (words.thaw object) = thaws (map (paired_at d) (places d (kind_in ks object)))
start_of d ks _ = nothing

-- the blocks that an instruction may go to
abbrev pub next_of : Instruction → List ℕ
next_of (words.jump to) = to ∷ []
next_of (words.branch on then_to else_to) = then_to ∷ else_to ∷ []
next_of (words.branch_null on then_to else_to) = then_to ∷ else_to ∷ []
next_of _ = []

-- what each of some instructions may start, from these kinds on
abbrev pub starts_of : Definition → Program → Kinds → List Instruction → List Start
starts_of d p ks [] = []
starts_of d p ks (i ∷ rest) = start_of d ks i ∷ starts_of d p (after d p ks i) rest

-- a block's stretch
abbrev pub stretch_of : Definition → Program → Block → Stretch
stretch_of d p b = record { starts = starts_of d p b.entry b.code; passes = passes_in b; next = flat_map next_of b.code }

-- a program's stretches
abbrev pub stretches_of : Definition → Program → List Stretch
stretches_of d p = map (stretch_of d p) p.blocks

-- ** the build and sources

-- the forward values of a place's object that raise something
abbrev pub forwards_of : Definition → ℕ → Place → List Channel
forwards_of d place p =
    present d (map (λ (g : GivenProperty). property place g.slot) (filter (λ (g : GivenProperty). is_forward place g.given) p.given))

-- of the objects from this place on
abbrev pub forwards_from : Definition → ℕ → List Place → List Channel
forwards_from d place [] = []
forwards_from d place (p ∷ ps) = cond p.is_prototype [] (forwards_of d place p) ++ forwards_from d (suc place) ps

-- what the makings of the objects from this place on raise
abbrev pub built_objects : Definition → ℕ → List Place → List (List Channel)
built_objects d place [] = []
built_objects d place (p ∷ ps) = cond p.is_prototype [] (raised_by_making d place p ∷ []) ++ built_objects d (suc place) ps

-- the targets of the bindings that are carried out as they are made
abbrev pub created_by : List Bind → List Channel
created_by bindings = map target_of (filter (λ (b : Bind). has_flags 2 b.flags) bindings)

-- the program that an instruction makes a source of
abbrev pub source_named : Definition → Instruction → Option ℕ
source_named d (words.idle to program priority with) = program_of d program
source_named d (words.timeout to program priority interval with) = program_of d program
source_named d _ = None

-- whether some instruction makes a source of the program
abbrev pub is_source : Definition → List Site → ℕ → Bool
is_source d ss program = list_any (λ (s : Site). is_number program (source_named d s.instruction)) ss

-- those programs, in document order
abbrev pub sources_of : Definition → List Site → ℕ → List Program → List ℕ
sources_of d ss number [] = []
sources_of d ss number (p ∷ programs) = cond (is_source d ss number) (number ∷ []) [] ++ sources_of d ss (suc number) programs

-- ** pairs

-- whether a property comes before another in the report
abbrev pub is_before : Channel → Channel → Bool
is_before (property p s) (property q t) = nat_lt p q || (nat_eq p q && nat_lt s t)
is_before _ _ = false

-- two ends, the first in the report first
abbrev pub in_order : Channel → Channel → Channel × Channel
in_order c e = cond (is_before e c) (e, c) (c, e)

-- the pairs of some bindings
abbrev pub pairs_of : List Bind → List (Channel × Channel)
pairs_of bindings = map (λ b. in_order (source_of b) (target_of b)) (filter is_pair bindings)

-- ** the whole

-- the graph, where these are the sites and connections
abbrev pub graph_by : Definition → List Site → List Connection → Graph
graph_by d ss ns = record {
  raised = map (raised_at d ns) (channels d);
  programs = map (stretches_of d) d.programs;
  pairs = pairs_of d.bindings;
  makings = makings_from d 0 d.places;
  built = built_objects d 0 d.places;
  forwards = forwards_from d 0 d.places;
  created = created_by d.bindings;
  sources = sources_of d ss 0 d.programs;
  most_handlers = d.most_handlers;
  most_objects = d.most_objects;
}

abbrev pub graph_at : Definition → List Site → Graph
graph_at d ss = graph_by d ss (connections d ss)

-- the graph of a definition
abbrev pub graph : Definition → Graph
graph d = graph_at d (sites d)
