-- The handlers of objects, as code keeps them.
use Rattle.std.specs.Prelude.{◌≡◌, ℕ, List, length, map}
use Rattle.ui_machine.specs.Seq.{listed}
use Rattle.ui_machine.specs.Definition.{Definition}
use Rattle.verify_channels.specs.Meanings.{Meant, attached_meanings, meaning_view, of_signal}
use Rattle.verify_channels.specs.SignalLists.{list_of}
use Rattle.verify_channels.specs.declared.attached_handlers.AttachedHandler.{AttachedHandler}
use Rattle.verify_channels.specs.declared.signal_lists.SignalLists.{SignalLists}

abbrev pub handler_view : AttachedHandler → Meant
handler_view h = record { what = h.program; meaning = meaning_view h.meaning }

-- of the handlers of an object, those that are for a signal
abbrev pub handlers_for : SignalLists AttachedHandler → (number : ℕ) → List Meant
handlers_for lists number = map handler_view (list_of lists number)

-- those of all places, by the signals that they are for
abbrev pub AreAttached : Definition → List (SignalLists AttachedHandler) → Type 0
AreAttached d lists = (number : ℕ) → map (λ s. handlers_for s number) lists ≡ listed (λ place. of_signal number (attached_meanings d place)) (length d.places)
