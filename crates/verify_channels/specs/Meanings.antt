-- What the signal and the detail of a handler mean in a class.
use Rattle.std.specs.Prelude.{ℕ, Bool, true, false, ◌&&◌, List, Option, None, Some, map, option_map}
use Rattle.std.specs.List.{filter}
use Rattle.ui_machine.specs.Definition.{Definition}
use Rattle.ui_machine.specs.Definition.Lookups.{slot_of}
use Rattle.ui_machine.specs.Definition.Places.{Attached}
use Rattle.ui_machine.specs.Rules.Connections.{signal_number}
use Rattle.ui_machine.specs.Rules.Programs.{is_number}
use Rattle.law_typing.specs.Graph.{attached_to}
use Rattle.law_typing.specs.Graph.Channels.{Channel, constructed, property, signal, of_class}
use Rattle.law_typing.specs.Rules.RegisterKinds.{class_at}
use Rattle.verify_channels.specs.declared.meanings.Detail.{Detail}
use Rattle.verify_channels.specs.declared.meanings.Detail.TheVariants as details
use Rattle.verify_channels.specs.declared.meanings.Meaning as code

-- a signal by its number, and a property by its slot, if there is a detail
pub record Meaning : Type 0 where
  pub signal : Option ℕ
  pub detail : Option (Option ℕ)

abbrev pub detail_view : Detail → Option (Option ℕ)
detail_view details.Any = None
detail_view (details.Property slot) = Some (Some slot)
detail_view details.Unknown = Some None

abbrev pub meaning_view : code.Meaning → Meaning
meaning_view m = record { signal = m.signal; detail = detail_view m.detail }

-- what a name and a detail mean in a class
abbrev pub meaning_of : Definition → ℕ → List ℕ → Option (List ℕ) → Meaning
meaning_of d class name detail = record { signal = signal_number d class name; detail = option_map (slot_of d class) detail }

-- whether a detail, if there is one, is the property
abbrev pub names : Option (Option ℕ) → ℕ → Bool
names None slot = true
names (Some detail) slot = is_number slot detail

-- whether a channel may be meant
abbrev pub is_meant : Channel → Meaning → Bool
is_meant (constructed place) m = false
is_meant (property place slot) m = is_number 0 m.signal && names m.detail slot
is_meant (signal place number) m = is_number number m.signal

-- a program or a group, and what it is for
pub record Meant : Type 0 where
  pub what : ℕ
  pub meaning : Meaning

-- those that are for a channel
abbrev pub meant : Channel → List Meant → List ℕ
meant c xs = map (λ (x : Meant). x.what) (filter (λ (x : Meant). is_meant c x.meaning) xs)

-- those that are for the signal of a number, whatever their details
abbrev pub of_signal : ℕ → List Meant → List Meant
of_signal n xs = filter (λ (x : Meant). is_number n x.meaning.signal) xs

-- the signal that a channel is of, by its number; the notifications of properties are of `notify`, which is the first
abbrev pub signal_of_channel : Channel → ℕ
signal_of_channel (constructed place) = 0
signal_of_channel (property place slot) = 0
signal_of_channel (signal place number) = number

-- the handlers that an object of a class names for itself
abbrev pub attached_in : Definition → ℕ → List Attached → List Meant
attached_in d class xs = map (λ (a : Attached). record { what = a.program; meaning = meaning_of d class a.signal a.detail }) xs

-- those of a place
abbrev pub attached_meanings : Definition → ℕ → List Meant
attached_meanings d place = of_class (λ class. attached_in d class (attached_to d place)) (class_at d place)
