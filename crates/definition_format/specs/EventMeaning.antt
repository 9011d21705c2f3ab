-- Which event of a definition a line denotes, or why it denotes none: the first fault in the order of the tests.
use Rattle.std.specs.Prelude.{◌≡◌, ℕ, zero, suc, nat_eq, List, [], ◌∷◌, ◌++◌, length, codes, Bool, true, false, nat_le, nat_lt, if◌then◌else◌, Option, None, Some, option_and_then, Result, Ok, Err, string_bytes}
use Rattle.std.specs.Str.{is_utf8}
use Rattle.serde_json.specs.Data.{Data, null, boolean, number, string, array, object, Items, no_items, item, Members, no_members, member}
use Rattle.serde_json.specs.Find.{get, as_str, as_array, as_number, as_u64}
use Rattle.serde_json.specs.Read.{read}
use Rattle.ui_machine.specs.Definition.Types.{GType}
use Rattle.ui_machine.specs.Definition.Kinds as kinds
use Rattle.ui_machine.specs.Definition.Values.{Value}
use Rattle.ui_machine.specs.Rules.Ancestry.{is_a}
use Rattle.ui_machine.specs.Definition.Properties.{Spec, has_flags, is_readable, is_writable, is_construct_only}
use Rattle.ui_machine.specs.Definition.Signals.{Signal}
use Rattle.ui_machine.specs.Rules.Connections.{signal_number}
use Rattle.ui_machine.specs.Rules.EmissionPlan.{signal_of}
use Rattle.ui_machine.specs.Definition as machine
use Rattle.ui_machine.specs.Definition.Places as places
use Rattle.ui_machine.specs.Definition.Lookups.{slot_of, spec_of}
use Rattle.ui_machine.specs.State.Tasks as config
use Rattle.g_values.specs.Reading.{json_value}
use Rattle.g_values.specs.declared.error.JsonFault.{JsonFault}
use Rattle.definition_format.specs.Meaning.{class_at, object_place}
use Rattle.definition_format.specs.Denoted.Given.{reference}
use Rattle.ui_machine.specs.Outcome.{◌>>=◌}
use Rattle.ui_machine.specs.Limits.{most_line_bytes}
pub use Rattle.definition_format.specs.EventWords.{words_of_set, words_of_get, Emitted, detail_word, emitted, words_of_emit}
use Rattle.definition_format.specs.declared.event_faults.EventFault.{EventFault}
use Rattle.definition_format.specs.declared.event_faults.EventFault.TheVariants as faults
use Rattle.definition_format.specs.declared.event_faults.EventError.{EventError}
use Rattle.definition_format.specs.declared.event_faults.EventError.TheVariants as errors

-- why a line denotes no event
pub data EventRefusal : Type 0 where
  too_long : EventRefusal
  not_json : EventRefusal
  shape : EventRefusal
  unknown : (name : List ℕ) → EventRefusal
  not_readable : EventRefusal
  not_writable : EventRefusal
  construct_only : EventRefusal
  value_fault : EventRefusal

-- a fault without where its text lies in memory
abbrev pub event_refusal : EventFault → EventRefusal
event_refusal faults.TooLong = too_long
event_refusal faults.NotJson = not_json
event_refusal faults.Shape = shape
event_refusal (faults.Unknown name) = unknown (string_bytes name)
event_refusal faults.NotReadable = not_readable
event_refusal faults.NotWritable = not_writable
event_refusal faults.ConstructOnly = construct_only
event_refusal faults.ValueFault = value_fault

-- What a function returned, seen by view, is what reading gives, unless memory ran out.
abbrev pub Fails : {Y : Type 0} → EventError → Result Y EventRefusal → Type 0
Fails errors.OutOfMemory meant = Unit {0}
Fails (errors.Refused fault) meant = meant ≡ Err (event_refusal fault)

abbrev pub Gives : {X Y : Type 0} → (X → Y) → Result X EventError → Result Y EventRefusal → Type 0
Gives view (Ok x) meant = meant ≡ Ok (view x)
Gives view (Err e) meant = Fails e meant

-- the same of a function that changes something in its place
abbrev pub Leads : {X Y : Type 0} → Result X EventError → Result Y EventRefusal → Y → Type 0
Leads (Ok x) meant new = meant ≡ Ok new
Leads (Err e) meant new = Fails e meant

-- what is there, or the refusal
abbrev pub or_refused : {A : Type 0} → EventRefusal → Option A → Result A EventRefusal
or_refused refusal None = Err refusal
or_refused refusal (Some x) = Ok x

-- ** the words of a line

-- the JSON value that a line holds
unfoldable pub line_value : List ℕ → Result Data EventRefusal
line_value bytes = if nat_lt most_line_bytes (length bytes) then Err too_long else (if is_utf8 bytes then or_refused not_json (read bytes) else Err not_json)

abbrev pub is_one_member : Members → Bool
is_one_member no_members = false
is_one_member (member key d no_members) = true
is_one_member (member key d (member other e ms)) = false

-- whether a value is an object of exactly one member
abbrev pub has_one_member : Data → Bool
has_one_member null = false
has_one_member (boolean b) = false
has_one_member (number n) = false
has_one_member (string s) = false
has_one_member (array ds) = false
has_one_member (object ms) = is_one_member ms

-- ** what they name

-- a property of an object
pub record Target : Type 0 where
  pub place : ℕ
  pub slot : ℕ
  pub spec : Spec

-- the property of an object that an id and a name name
unfoldable pub target : machine.Definition → List ℕ → List ℕ → Result Target EventRefusal
target d id name = do
  place ← or_refused (unknown id) (object_place d id)
  slot ← or_refused (unknown name) (slot_of d (class_at d place) name)
  spec ← or_refused (unknown name) (spec_of d (class_at d place) slot)
  Ok (record { place = place; slot = slot; spec = spec })

-- ** the value of a set

-- the value, or the one refusal for whichever cause there is none
abbrev pub or_value_fault : {A : Type 0} → Result A JsonFault → Result A EventRefusal
or_value_fault (Ok x) = Ok x
or_value_fault (Err cause) = Err value_fault

-- the object of an id
unfoldable pub object_of : machine.Definition → List ℕ → Result (Option ℕ) EventRefusal
object_of d id = do
  place ← or_refused (unknown id) (object_place d id)
  Ok (Some place)

-- the object that a value refers to, if it refers to one
abbrev pub object_named : machine.Definition → Option (ℕ × List ℕ) → Result (Option ℕ) EventRefusal
object_named d None = Ok None
object_named d (Some r) = object_of d r.1

-- whether an object of the class is one of the kind
abbrev pub is_of_kind : List GType → kinds.Kind → ℕ → Bool
is_of_kind types kinds.bool class = false
is_of_kind types (kinds.whole k) class = false
is_of_kind types kinds.text class = false
is_of_kind types (kinds.enum t) class = false
is_of_kind types (kinds.flags t) class = false
is_of_kind types (kinds.object t) class = is_a types class t

-- a value itself
abbrev pub itself : Result Value EventRefusal → Result places.Given EventRefusal
itself (Ok v) = Ok (places.value v)
itself (Err refusal) = Err refusal

-- the object of a place, which must be one of the kind
abbrev pub object_given : machine.Definition → kinds.Kind → ℕ → Result places.Given EventRefusal
object_given d kind place = if is_of_kind d.types kind (class_at d place) then Ok (places.named place) else Err value_fault

-- a value of a kind, or the object that it refers to
abbrev pub given_by : machine.Definition → kinds.Kind → Data → Option ℕ → Result places.Given EventRefusal
given_by d kind v None = itself (or_value_fault (json_value d.types kind v))
given_by d kind v (Some place) = object_given d kind place

-- ** the signal and the arguments of an emission

-- a signal that an event may emit: all but `notify`, which has number 0
abbrev pub but_notify : Option ℕ → Option ℕ
but_notify None = None
but_notify (Some zero) = None
but_notify (Some (suc n)) = Some (suc n)

-- a signal of an object
pub record SignalTarget : Type 0 where
  pub place : ℕ
  pub which : ℕ  -- its number
  pub signal : Signal

-- the signal of an object that an id and a name name, if an event may emit it
unfoldable pub signal_target : machine.Definition → List ℕ → List ℕ → Result SignalTarget EventRefusal
signal_target d id name = do
  place ← or_refused (unknown id) (object_place d id)
  which ← or_refused (unknown name) (but_notify (signal_number d (class_at d place) name))
  s ← or_refused (unknown name) (signal_of d (class_at d place) which)
  Ok (record { place = place; which = which; signal = s })

-- how many values a list has
abbrev pub count : Items → ℕ
count no_items = 0
count (item v vs) = suc (count vs)

-- a signal has as many parameters as there are values
abbrev pub check_count : Signal → Items → Result (Unit {0}) EventRefusal
check_count s args = if nat_eq (length s.params) (count args) then Ok tt else Err shape

-- a detail goes with a signal that takes details
abbrev pub check_detail : Signal → Option (List ℕ) → Result (Unit {0}) EventRefusal
check_detail s None = Ok tt
check_detail s (Some detail) = if has_flags 16 s.flags then Ok tt else Err (unknown detail)

-- what comes of a state by values of these kinds, one after the other
unfoldable pub each_of : {S : Type 0} → (S → kinds.Kind → Data → Result S EventRefusal) → S → List kinds.Kind → Items → Result S EventRefusal
each_of step s [] vs = Ok s
each_of step s (k ∷ ks) no_items = Ok s
each_of step s (k ∷ ks) (item v vs) = do
  t ← step s k v
  each_of step t ks vs

-- the object that a value names, if it names one, is known
unfoldable pub id_known : machine.Definition → Unit {0} → kinds.Kind → Data → Result (Unit {0}) EventRefusal
id_known d so_far k v = do
  named ← object_named d (reference k (as_str v))
  Ok tt

-- the arguments so far, with one more
unfoldable pub argument : machine.Definition → List places.Given → kinds.Kind → Data → Result (List places.Given) EventRefusal
argument d so_far k v = do
  named ← object_named d (reference k (as_str v))
  given ← given_by d k v named
  Ok (so_far ++ given ∷ [])

-- ** the event

abbrev pub writable : Spec → Result (Unit {0}) EventRefusal
writable s = if is_writable s then (if is_construct_only s then Err construct_only else Ok tt) else Err not_writable

abbrev pub readable : Spec → Result (Unit {0}) EventRefusal
readable s = if is_readable s then Ok tt else Err not_readable

unfoldable pub set_event : machine.Definition → Data → Result config.Event EventRefusal
set_event d words = do
  said ← or_refused shape (option_and_then words_of_set (as_array words))
  found ← target d said.0 said.1
  named ← object_named d (reference found.spec.kind (as_str said.2))
  may ← writable found.spec
  given ← given_by d found.spec.kind said.2 named
  Ok (config.request (config.set found.place found.slot given))

unfoldable pub get_event : machine.Definition → Data → Result config.Event EventRefusal
get_event d words = do
  said ← or_refused shape (option_and_then words_of_get (as_array words))
  found ← target d said.0 said.1
  may ← readable found.spec
  Ok (config.request (config.get found.place found.slot))

unfoldable pub release_event : machine.Definition → Data → Result config.Event EventRefusal
release_event d word = do
  id ← or_refused shape (as_str word)
  place ← or_refused (unknown id) (object_place d id)
  Ok (config.request (config.release place))

-- The signal must be there, and the values as many as it has parameters. Then all ids among them are known, and the detail may be.
unfoldable pub emit_event : machine.Definition → Data → Result config.Event EventRefusal
emit_event d words = do
  said ← or_refused shape (option_and_then words_of_emit (as_array words))
  found ← signal_target d said.id said.name
  many ← check_count found.signal said.args
  ids ← each_of (id_known d) tt found.signal.params said.args
  may ← check_detail found.signal said.detail
  given ← each_of (argument d) [] found.signal.params said.args
  Ok (config.request (config.emit found.place found.which given said.detail))

-- the last moment, in milliseconds
abbrev pub most_moment : ℕ
most_moment = 9007199254740992

-- a number that is a moment
abbrev pub moment_if : Option ℕ → Result ℕ EventRefusal
moment_if None = Err value_fault
moment_if (Some moment) = if nat_le moment most_moment then Ok moment else Err value_fault

unfoldable pub turn_event : Data → Result config.Event EventRefusal
turn_event word = do
  said ← or_refused shape (as_number word)
  moment ← moment_if (as_u64 said)
  Ok (config.turn moment)

-- what the member `turn` asks for
abbrev pub turn_by : Option Data → Result config.Event EventRefusal
turn_by None = Err shape
turn_by (Some word) = turn_event word

-- what the member `emit` asks for, and where there is none what `turn` does
abbrev pub emit_by : machine.Definition → Option Data → Option Data → Result config.Event EventRefusal
emit_by d None turn = turn_by turn
emit_by d (Some words) turn = emit_event d words

-- what the member `release` asks for, and where there is none what `emit` does, or `turn`
abbrev pub release_by : machine.Definition → Option Data → Option Data → Option Data → Result config.Event EventRefusal
release_by d None emit turn = emit_by d emit turn
release_by d (Some word) emit turn = release_event d word

-- the event that the member `set` asks for, and where there is none the one that `get` asks for, or `release`, or `emit`, or `turn`
abbrev pub event_by : machine.Definition → Option Data → Option Data → Option Data → Option Data → Option Data → Result config.Event EventRefusal
event_by d None None release emit turn = release_by d release emit turn
event_by d None (Some words) release emit turn = get_event d words
event_by d (Some words) get release emit turn = set_event d words

-- the event that a value asks for
unfoldable pub event_meant : machine.Definition → Data → Result config.Event EventRefusal
event_meant d value =
    if has_one_member value then event_by d (get (codes "set") value) (get (codes "get") value) (get (codes "release") value) (get (codes "emit") value) (get (codes "turn") value) else Err shape

-- the event that a line denotes
unfoldable pub event_denoted : machine.Definition → List ℕ → Result config.Event EventRefusal
event_denoted d line = do
  value ← line_value line
  event_meant d value
