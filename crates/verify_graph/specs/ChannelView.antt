-- Channels of the code as those of the law, and parts of a definition's list of them.
use Rattle.std.specs.Prelude.{ℕ, cond, List, [], ◌∷◌, map, Option, None, Some}
use Rattle.ui_machine.specs.declared.ids.Channel as code
use Rattle.ui_machine.specs.declared.ids.Member.{Member}
use Rattle.ui_machine.specs.declared.ids.Member.TheVariants as members
use Rattle.ui_machine.specs.Definition.{Definition}
use Rattle.ui_machine.specs.Definition.Properties.{Spec, is_readable}
use Rattle.ui_machine.specs.Rules.Construction.{constructed_runs}
use Rattle.law_typing.specs.Graph.Channels.{Channel, constructed, property, signal, is_filled, programs_of}

-- the channel of a place and a member
abbrev pub channel_at : ℕ → Member → Channel
channel_at place (members.Property slot) = property place slot
channel_at place (members.Signal number) = signal place number
channel_at place members.Constructed = constructed place

abbrev pub channel_of : code.Channel → Channel
channel_of c = channel_at c.place.0 c.member

abbrev pub channels_of : List code.Channel → List Channel
channels_of cs = map channel_of cs

-- the end of a construction of a class, where it runs a program
abbrev pub constructed_if : Definition → (place class : ℕ) → List Channel
constructed_if d place class = cond (is_filled (programs_of (constructed_runs d class))) (constructed place ∷ []) []

-- a property, where it is there and readable
abbrev pub readable_one : (place slot : ℕ) → Option Spec → List Channel
readable_one place slot None = []
readable_one place slot (Some s) = cond (is_readable s) (property place slot ∷ []) []
