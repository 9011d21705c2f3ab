-- What reading an event line takes as the detail of an emission and as the moment of a turn.
use Rattle.std.specs.Prelude.{◌≡◌, ◌≤◌, true, List, ℕ, Option, IfSome, ⊤}
use Rattle.ui_machine.specs.State.Tasks.{Event, Request}
use Rattle.ui_machine.specs.State.Tasks as config
use Rattle.definition_format.specs.Denoted.Names.{is_name}
use Rattle.definition_format.specs.EventMeaning.{most_moment}

-- a detail, if there is one, is a name of the format: 1 to 64 ASCII letters, digits, `-` or `_`
abbrev pub IsReadableDetail : Option (List ℕ) → Type 0
IsReadableDetail detail = IfSome detail (λ text. is_name text ≡ true)

-- an emission has such a detail
abbrev pub IsReadableRequest : Request → Type 0
IsReadableRequest (config.emit place signal args detail) = IsReadableDetail detail
IsReadableRequest _ = ⊤

-- and a turn is at a moment up to 2^53, in milliseconds
abbrev pub IsReadable : Event → Type 0
IsReadable (config.request r) = IsReadableRequest r
IsReadable (config.turn moment) = moment ≤ most_moment
