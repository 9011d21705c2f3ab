-- What the names in programs mean.
use Rattle.std.specs.List.{list_any}
use Rattle.std.specs.Prelude.{◌≡◌, ℕ, nat_eq, List, [], Option, None, Some, IfSome, option_and_then, option_map, slice_get}
use Rattle.ui_machine.specs.Definition.{Definition}
use Rattle.ui_machine.specs.Definition.Programs.{Block, Connect, Instruction, Program}
use Rattle.ui_machine.specs.Definition.Programs as words
use Rattle.ui_machine.specs.Definition.Lookups.{place_of, program_at, program_of, slot_of}
use Rattle.ui_machine.specs.Definition.Names.{canonical, place_named}
use Rattle.ui_machine.specs.Definition.Signals.{Method}
use Rattle.ui_machine.specs.Rules.Connections.{signal_number}
use Rattle.ui_machine.specs.Rules.EmissionPlan.{class_handler_of, signal_of}
use Rattle.ui_machine.specs.Seq.{read}
use Rattle.ui_machine.specs.State.Bindings.{is_name}
use Rattle.law_typing.specs.Good.Meanings.{binding_name, shape_methods}
use Rattle.definitions.specs.ClassNames.{AreSignals}
use Rattle.name_tables.specs.Names.{Named, number_by, number_in, number_of}
use Rattle.engine_links.specs.declared.link.Link.{Link}
use Rattle.ui_machine.specs.declared.ids.Place.{Place}
use Rattle.engine_links.specs.declared.link.Link.TheVariants as links

-- what is kept of a definition: the names of its properties and of its signals; of each name of a method, the shapes that have one, each
-- with the number of its method of that name; of each name of a binding, the numbers of the bindings of that name; the programs that its classes run for
-- signals, by class and number; and of each instruction of each block of each program what its names mean
pub record Linked : Type 0 where
  pub slots : List Named
  pub signals : List Named
  pub methods : List (List (ℕ × ℕ))
  pub bindings : List (List ℕ)
  pub handlers : List (List (Option ℕ))
  pub programs : List (List (List Link))

-- the names of properties are those of a definition, with their slots
abbrev pub AreSlots : Definition → List Named → Type 0
AreSlots d names = (class : ℕ) (name : List ℕ) → number_of names class (canonical name) ≡ slot_of d class name

-- the number of the method of a shape, by the place of the method's name
abbrev pub method_by : List (List (ℕ × ℕ)) → (shape : ℕ) → Option ℕ → Option ℕ
method_by methods shape at = option_and_then (λ (row : List (ℕ × ℕ)). number_in row shape) (option_and_then (slice_get methods) at)

-- the numbers of the bindings of a name, by its place
abbrev pub numbers_by : List (List ℕ) → Option ℕ → List ℕ
numbers_by bindings None = []
numbers_by bindings (Some at) = read [] bindings at

-- the program that a class runs for the signal of a number
abbrev pub handler_at : List (List (Option ℕ)) → ℕ → ℕ → Option ℕ
handler_at handlers class number = read None (read [] handlers class) number

-- a class runs for each of its signals the program that it names itself, or that its nearest ancestor names that names one
abbrev pub AreHandlers : Definition → List (List (Option ℕ)) → Type 0
AreHandlers d handlers = (class number : ℕ) → IfSome (signal_of d class number) (λ s. handler_at handlers class number ≡ class_handler_of d class s.name)

-- ** what one name means

-- a place in the table is a property's name
abbrev pub IsProperty : Definition → Linked → List ℕ → Option ℕ → Type 0
IsProperty d l name at = (class : ℕ) → number_by l.slots class at ≡ slot_of d class name

-- a place in the table is a signal's name
abbrev pub IsSignal : Definition → Linked → List ℕ → Option ℕ → Type 0
IsSignal d l name at = (class : ℕ) → number_by l.signals class at ≡ signal_number d class name

-- where there is a detail, a place in the table is that of the property that it would name, in canonical spelling
abbrev pub IsDetail : Definition → Linked → Option (List ℕ) → Option ℕ → Type 0
IsDetail d l None at = Unit {0}
IsDetail d l (Some detail) at = IsProperty d l detail at × IfSome at (λ n. option_map (λ (named : Named). named.name) (slice_get l.slots n) ≡ Some (canonical detail))

-- the numbers at a place are those of the methods that are called so
abbrev pub IsMethod : Definition → Linked → List ℕ → Option ℕ → Type 0
IsMethod d l name at = (shape : ℕ) → method_by l.methods shape at ≡ place_named (λ (m : Method). m.name) (shape_methods (slice_get d.shapes shape)) name

-- the numbers at a place are those of the bindings that are called so
abbrev pub IsCalled : Definition → Linked → List ℕ → Option ℕ → Type 0
IsCalled d l name at = (number : ℕ) → list_any (nat_eq number) (numbers_by l.bindings at) ≡ is_name name (binding_name d number)

-- ** what a link says; nothing where it does not speak of it

abbrev pub property_in : Link → Option ℕ
property_in (links.Property at) = at
property_in _ = None

abbrev pub place_in : Link → Option Place
place_in (links.Place place) = place
place_in _ = None

abbrev pub program_in : Link → Option ℕ
program_in (links.Program number) = number
program_in (links.Connection signal detail number) = number
program_in _ = None

abbrev pub signal_in : Link → Option ℕ
signal_in (links.Emission signal detail) = signal
signal_in (links.Connection signal detail number) = signal
signal_in _ = None

abbrev pub detail_in : Link → Option ℕ
detail_in (links.Emission signal detail) = detail
detail_in (links.Connection signal detail number) = detail
detail_in _ = None

abbrev pub method_in : Link → Option ℕ
method_in (links.Method at) = at
method_in _ = None

abbrev pub bindings_in : Link → Option ℕ
bindings_in (links.Bindings at) = at
bindings_in _ = None

-- ** what the names of an instruction mean

abbrev pub LinksProperty : Definition → Linked → List ℕ → Link → Type 0
LinksProperty d l name link = IsProperty d l name (property_in link)

abbrev pub LinksPlace : Definition → List ℕ → Link → Type 0
LinksPlace d id link = option_map (λ (p : Place). p.0) (place_in link) ≡ place_of d id

abbrev pub LinksProgram : Definition → List ℕ → Link → Type 0
LinksProgram d name link = program_in link ≡ program_of d name

abbrev pub LinksEmission : Definition → Linked → List ℕ → Option (List ℕ) → Link → Type 0
LinksEmission d l name detail link = IsSignal d l name (signal_in link) × IsDetail d l detail (detail_in link)

abbrev pub LinksConnection : Definition → Linked → Connect → Link → Type 0
LinksConnection d l c link = LinksEmission d l c.signal c.detail link × LinksProgram d c.program link

abbrev pub LinksMethod : Definition → Linked → List ℕ → Link → Type 0
LinksMethod d l name link = IsMethod d l name (method_in link)

abbrev pub LinksBindings : Definition → Linked → List ℕ → Link → Type 0
LinksBindings d l name link = IsCalled d l name (bindings_in link)

-- a link says what the names of an instruction mean
abbrev pub IsLink : Definition → Linked → Instruction → Link → Type 0
IsLink d l (words.get to object property) link = LinksProperty d l property link
IsLink d l (words.set object property from) link = LinksProperty d l property link
IsLink d l (words.notify object property) link = LinksProperty d l property link
IsLink d l (words.object to id) link = LinksPlace d id link
IsLink d l (words.new to id) link = LinksPlace d id link
IsLink d l (words.emit into object signal detail args) link = LinksEmission d l signal detail link
IsLink d l (words.connect to object c) link = LinksConnection d l c link
IsLink d l (words.disconnect object program) link = LinksProgram d program link
IsLink d l (words.block object program) link = LinksProgram d program link
IsLink d l (words.unblock object program) link = LinksProgram d program link
IsLink d l (words.idle to program priority with) link = LinksProgram d program link
IsLink d l (words.timeout to program priority interval with) link = LinksProgram d program link
IsLink d l (words.remove program) link = LinksProgram d program link
IsLink d l (words.call to object method args) link = LinksMethod d l method link
IsLink d l (words.unbind name) link = LinksBindings d l name link
IsLink d l _ link = Unit {0}

-- ** of all programs

-- the instruction at a place of a block of a program
abbrev pub instruction_at : Definition → ℕ → ℕ → ℕ → Option Instruction
instruction_at d program block at =
    option_and_then (λ (b : Block). slice_get b.code at) (option_and_then (λ (p : Program). slice_get p.blocks block) (program_at d program))

-- the link of an instruction
abbrev pub link_at : List (List (List Link)) → ℕ → ℕ → ℕ → Link
link_at ls program block at = read links.Nothing (read [] (read [] ls program) block) at

-- Each instruction has its link, the tables have the names of all properties and signals, and each class has its programs for signals.
pub record AreLinked (d : Definition) (l : Linked) : Type 0 where
  pub slots : AreSlots d l.slots
  pub signals : AreSignals d l.signals
  pub handlers : AreHandlers d l.handlers
  pub at : (program block at : ℕ) → IfSome (instruction_at d program block at) (λ i. IsLink d l i (link_at l.programs program block at))
