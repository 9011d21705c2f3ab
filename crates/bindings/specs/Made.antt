-- What a list of bindings denotes.
use Rattle.std.specs.List.{filter}
use Rattle.std.specs.Prelude.{ℕ, ◌+◌, ◌^◌, ◌<◌, All, Bool, false, cond, not, ◌&&◌, nat_eq, nat_le, max, List, [], ◌∷◌, ◌++◌, option_map, string_bytes}
use Rattle.ui_machine.specs.Definition.Properties.{has_flags}
use Rattle.ui_machine.specs.State.Bindings.{listens, goes_back}
use Rattle.ui_machine.specs.State.Bindings as config
use Rattle.ui_machine.specs.declared.ids.ObjectId.{ObjectId}
use Rattle.bindings.specs.declared.binding.Binding.{Binding}
use Rattle.bindings.specs.declared.binding.Transfer.{Transfer}

-- the bindings that have not ended, in order of their numbers, and the number of the next one
pub record Made : Type 0 where
  pub bindings : List config.Binding
  pub next : ℕ

-- the binding under its number, setting or not
abbrev pub binding_of : ℕ → Bool → Binding → config.Binding
binding_of number setting b = record {
  number = number;
  name = option_map (λ name. string_bytes name) b.name;
  source = b.source.0;
  source_slot = b.source_slot;
  target = b.target.0;
  target_slot = b.target_slot;
  flags = b.flags.0;
  busy = setting;
}

abbrev pub identity : ℕ → ObjectId
identity number = record { 0 = number }

-- from the source to the target
abbrev pub forth : config.Binding → Transfer
forth b = record {
  number = b.number;
  source = identity b.source;
  source_slot = b.source_slot;
  target = identity b.target;
  target_slot = b.target_slot;
  invert = has_flags 4 b.flags;
}

-- from the target to the source
abbrev pub back : config.Binding → Transfer
back b = record {
  number = b.number;
  source = identity b.target;
  source_slot = b.target_slot;
  target = identity b.source;
  target_slot = b.source_slot;
  invert = has_flags 4 b.flags;
}

-- from the target to the source, or the other way
abbrev pub transfer_by : Bool → config.Binding → Transfer
transfer_by is_back b = cond is_back (back b) (forth b)

-- from the property that was notified to the other end
abbrev pub transfer_of : (object slot : ℕ) → config.Binding → Transfer
transfer_of object slot b = transfer_by (goes_back object slot b) b

-- the numbers are below the next one, which a number of 64 bits holds
abbrev pub AreNumbered : List config.Binding → ℕ → Type 0
AreNumbered bindings next = All (λ b. b.number < next) bindings × (next < 2 ^ 64)

-- whether the binding may be the next to act on a notification
abbrev pub is_next : (object slot from : ℕ) → config.Binding → Bool
is_next object slot from b = nat_le from b.number && listens object slot b && not b.busy

-- the bindings without that of a number
abbrev pub without_number : ℕ → List config.Binding → List config.Binding
without_number number bindings = filter (λ b. not (nat_eq b.number number)) bindings

-- the list with one binding more, that does not set
abbrev pub with_binding : Made → Binding → Made
with_binding made b = record { bindings = made.bindings ++ binding_of made.next false b ∷ []; next = made.next + 1 }

-- the same under a number; the numbers up to it are used up
abbrev pub with_binding_as : ℕ → Made → Binding → Made
with_binding_as number made b = record { bindings = made.bindings ++ binding_of number false b ∷ []; next = max made.next (number + 1) }
