-- Channels: what may be raised at the place of an object. Two properties that are bound both ways are one node of the channels' graph, and
-- every other channel is a node by itself.
use Rattle.std.specs.Prelude.{ℕ, suc, Bool, true, false, cond, ◌&&◌, ◌||◌, nat_eq, nat_lt, List, [], ◌∷◌, ◌++◌, length, Option, None, Some, is_some}
use Rattle.std.specs.List.{flat_map, filter}
use Rattle.ui_machine.specs.Definition.Properties.{Spec, has_flags, is_readable}
use Rattle.ui_machine.specs.Definition.{Definition}
use Rattle.ui_machine.specs.Definition.Signals.{Signal}
use Rattle.ui_machine.specs.Definition.Places.{Bind}
use Rattle.ui_machine.specs.Definition.Lookups.{class_of, specs_of, spec_of}
use Rattle.ui_machine.specs.State.Tasks.{ConstructStep, sets, runs, thaws}
use Rattle.ui_machine.specs.Rules.Construction.{constructed_runs}
use Rattle.law_typing.specs.Rules.RegisterKinds.{class_at, place_numbers}

-- a property's notification, a signal, or the end of a construction
pub data Channel : Type 0 where
  constructed : (place : ℕ) → Channel
  property : (place slot : ℕ) → Channel
  signal : (place number : ℕ) → Channel

-- what makes an edge between two channels
pub data Cause : Type 0 where
  program : (number : ℕ) → Cause
  binding : Cause

-- a channel, and what leads from it to the next one
pub record Link : Type 0 where
  pub from : Channel
  pub by : Cause

-- what a dispatch begins with
pub data Entry : Type 0 where
  build : Entry
  at : Channel → Entry
  source : (program : ℕ) → Entry
  plain : Entry  -- a read, a release, or a set of a property that is not readable

abbrev pub same_channel : Channel → Channel → Bool
same_channel (constructed p) (constructed q) = nat_eq p q
same_channel (property p s) (property q t) = nat_eq p q && nat_eq s t
same_channel (signal p n) (signal q m) = nat_eq p q && nat_eq n m
same_channel _ _ = false

-- ** which there are

-- the programs that a construction runs
abbrev pub programs_of : List ConstructStep → List ℕ
programs_of [] = []
programs_of (sets slot v ∷ more) = programs_of more
programs_of (runs p ∷ more) = p ∷ programs_of more
programs_of (thaws ∷ more) = programs_of more

-- something of a place's class, or nothing where there is no such place
abbrev pub of_class : {A : Type 0} → (ℕ → List A) → Option ℕ → List A
of_class f None = []
of_class f (Some class) = f class

-- the `constructed` programs of a place's class, from the root on
abbrev pub constructed_at : Definition → ℕ → List ℕ
constructed_at d place = of_class (λ class. programs_of (constructed_runs d class)) (class_at d place)

-- whether something is there and readable
abbrev pub is_readable_one : Option Spec → Bool
is_readable_one None = false
is_readable_one (Some s) = is_readable s

-- the spec of a class's property, if there is a class
abbrev pub spec_if : Definition → ℕ → Option ℕ → Option Spec
spec_if d slot None = None
spec_if d slot (Some class) = spec_of d class slot

-- the spec of a property of a place, if it has one at the slot
abbrev pub spec_at : Definition → (place slot : ℕ) → Option Spec
spec_at d place slot = spec_if d slot (class_at d place)

-- the signals of a place, `notify` first
abbrev pub signals_at : Definition → ℕ → List Signal
signals_at d place = of_class (λ class. (class_of d class).signals) (class_at d place)

-- the readable ones of some properties, where the first has this slot
abbrev pub readable_from : (place slot : ℕ) → List Spec → List Channel
readable_from place slot [] = []
readable_from place slot (s ∷ specs) = cond (is_readable s) (property place slot ∷ []) [] ++ readable_from place (suc slot) specs

-- the readable properties of a place
abbrev pub readable_at : Definition → ℕ → List Channel
readable_at d place = readable_from place 0 (of_class (specs_of d) (class_at d place))

-- one channel for each of some signals, where the first has this number
abbrev pub signals_from : (place number : ℕ) → List Signal → List Channel
signals_from place number [] = []
signals_from place number (s ∷ signals) = signal place number ∷ signals_from place (suc number) signals

-- the signals but `notify`
abbrev pub emitted_at : ℕ → List Signal → List Channel
emitted_at place [] = []
emitted_at place (notify ∷ signals) = signals_from place 1 signals

-- whether a list has entries
abbrev pub is_filled : {A : Type 0} → List A → Bool
is_filled [] = false
is_filled (x ∷ xs) = true

-- the channels of a place: its construction where it runs a program, its readable properties, its signals
abbrev pub channels_at : Definition → ℕ → List Channel
channels_at d place =
    cond (is_filled (constructed_at d place)) (constructed place ∷ []) []
    ++ (readable_at d place ++ emitted_at place (signals_at d place))

-- all channels, in the order of the report
abbrev pub channels : Definition → List Channel
channels d = flat_map (channels_at d) (place_numbers d)

-- whether a channel is one of them
abbrev pub is_channel : Definition → Channel → Bool
is_channel d (constructed place) = is_filled (constructed_at d place)
is_channel d (property place slot) = is_readable_one (spec_at d place slot)
is_channel d (signal place number) = nat_lt 0 number && nat_lt number (length (signals_at d place))

-- those of some channels that are there
abbrev pub present : Definition → List Channel → List Channel
present d cs = filter (is_channel d) cs

-- ** pairs

-- whether a binding goes both ways
abbrev pub is_pair : Bind → Bool
is_pair b = has_flags 1 b.flags

abbrev pub source_of : Bind → Channel
source_of b = property b.source b.source_slot

abbrev pub target_of : Bind → Channel
target_of b = property b.target b.target_slot

-- the property that is bound both ways with this one, by these bindings
abbrev pub partner_in : List Bind → Channel → Option Channel
partner_in [] c = None
partner_in (b ∷ bindings) c =
    cond (is_pair b && same_channel (source_of b) c) (Some (target_of b))
    (cond (is_pair b && same_channel (target_of b) c) (Some (source_of b)) (partner_in bindings c))

-- the other end of the pair that a channel is in
abbrev pub partner : Definition → Channel → Option Channel
partner d c = partner_in d.bindings c

-- whether a channel is in a pair
abbrev pub is_paired : Definition → Channel → Bool
is_paired d c = is_some (partner d c)

-- whether there is such a channel, and it is this one
abbrev pub is_that : Channel → Option Channel → Bool
is_that c None = false
is_that c (Some other) = same_channel other c

-- whether two channels are one node: the same channel, or the ends of a pair
abbrev pub same_node : Definition → Channel → Channel → Bool
same_node d c e = same_channel c e || is_that e (partner d c)
