-- Triggers: what instructions do that may start something, and what that is by the numbers of channels.
use Rattle.std.specs.Prelude.{ℕ, List, Option, None, Some}
use Rattle.std.specs.List.{filter_map}
use Rattle.ui_machine.specs.Definition.Kinds.{RegisterKind}
use Rattle.ui_machine.specs.Definition.Kinds as kinds
use Rattle.ui_machine.specs.Definition.{Definition}
use Rattle.ui_machine.specs.Definition.Lookups.{place_of, slot_of}
use Rattle.ui_machine.specs.Definition.Programs.{Instruction, Program}
use Rattle.ui_machine.specs.Definition.Programs as words
use Rattle.ui_machine.specs.Rules.Connections.{signal_number}
use Rattle.bytecode.specs.View.{register_kind_view}
use Rattle.definition_format.specs.Meaning.{place_number}
use Rattle.law_typing.specs.Graph.{channel_over, making_of, number_for}
use Rattle.law_typing.specs.Graph.Channels.{Channel, property, signal}
use Rattle.law_typing.specs.Rules.RegisterKinds.{Kinds, class_at, kind_in, places}
use Rattle.verify_sketches.specs.Sketches.{SketchedStart}
use Rattle.verify_sketches.specs.Sketches as sketched
use Rattle.verify_graph.specs.Numbering.{Key}
use Rattle.verify_graph.specs.Numbers.{numbers_of}
use Rattle.verify_starts.specs.Covering.{covering}
use Rattle.verify_starts.specs.declared.triggers.Trigger as code
use Rattle.verify_starts.specs.declared.triggers.Trigger.TheVariants as variants

pub data Trigger : Type 0 where
  idle : Trigger
  on_property : RegisterKind → (name : List ℕ) → Trigger  -- of the objects that a register of the kind may hold
  on_signal : RegisterKind → (name : List ℕ) → Trigger
  making : (place : Option ℕ) → Trigger
  thawing : RegisterKind → Trigger

abbrev pub trigger_view : code.Trigger → Trigger
trigger_view variants.Idle = idle
trigger_view (variants.Property kind name) = on_property (register_kind_view kind) name.now
trigger_view (variants.Signal kind name) = on_signal (register_kind_view kind) name.now
trigger_view (variants.Making place) = making (place_number place)
trigger_view (variants.Thaw kind) = thawing (register_kind_view kind)

-- the trigger of an instruction
abbrev pub trigger_of : Definition → Kinds → Instruction → Trigger
trigger_of d ks (words.set object name from) = on_property (covering (kind_in ks object)) name
trigger_of d ks (words.notify object name) = on_property (covering (kind_in ks object)) name
trigger_of d ks (words.emit into object name detail args) = on_signal (covering (kind_in ks object)) name
trigger_of d ks (words.new to id) = making (place_of d id)
trigger_of d ks (words.thaw object) = thawing (covering (kind_in ks object))
trigger_of d ks _ = idle

-- ** what they start

-- the numbers of the channels over the places that a kind covers
abbrev pub numbers_over : Definition → List Channel → (ℕ → Option ℕ) → (ℕ → ℕ → Channel) → RegisterKind → List ℕ
numbers_over d all number_in channel kind = numbers_of all (filter_map (channel_over d number_in channel) (places d kind))

-- what a trigger may start
abbrev pub start_for : Definition → List Channel → Trigger → SketchedStart
start_for d all idle = sketched.nothing
start_for d all (on_property kind name) = sketched.raises (numbers_over d all (λ class. slot_of d class name) property kind)
start_for d all (on_signal kind name) = sketched.raises (numbers_over d all (λ class. signal_number d class name) signal kind)
start_for d all (making place) = sketched.makes (numbers_of all (making_of d place))
start_for d all (thawing kind) = sketched.thaws (places d kind)

-- ** keys

-- the key of a member, if it is known
abbrev pub member_key : (x sort : ℕ) → Option ℕ → Option Key
member_key x sort None = None
member_key x sort (Some n) = Some (x, sort, n)

-- the key of a property of what a kind covers
abbrev pub property_key : Definition → RegisterKind → List ℕ → Option Key
property_key d (kinds.some type) name = member_key type 0 (slot_of d type name)
property_key d (kinds.at place) name = member_key place 1 (number_for (λ class. slot_of d class name) (class_at d place))
property_key d _ name = None

-- and of a signal
abbrev pub signal_key : Definition → RegisterKind → List ℕ → Option Key
signal_key d (kinds.some type) name = member_key type 2 (signal_number d type name)
signal_key d (kinds.at place) name = member_key place 3 (number_for (λ class. signal_number d class name) (class_at d place))
signal_key d _ name = None

-- of the object of a place that is made
abbrev pub making_key : Option ℕ → Option Key
making_key None = None
making_key (Some place) = Some (place, 4, 0)

-- of a thaw
abbrev pub thaw_key : RegisterKind → Option Key
thaw_key (kinds.some type) = Some (type, 5, 0)
thaw_key (kinds.at place) = Some (place, 6, 0)
thaw_key _ = None

-- what triggers that start the same have in common, where names are known
abbrev pub key_for : Definition → Trigger → Option Key
key_for d idle = None
key_for d (on_property kind name) = property_key d kind name
key_for d (on_signal kind name) = signal_key d kind name
key_for d (making place) = making_key place
key_for d (thawing kind) = thaw_key kind
