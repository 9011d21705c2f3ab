-- The machine's rule for a connection by bytecode is the list's own.
use Rattle.std.proofs.Common.{◌≡◌, ℕ, refl}
use Rattle.std.proofs.lemmas.List.Sums.{length-filter}
use Rattle.ui_machine.specs.Definition.{Definition}
use Rattle.ui_machine.specs.Rules.Connections.{by_code_to, has_room_for_handler}
use Rattle.ui_machine.specs.State.Config.{World}
use Rattle.signal_core.specs.Connected.{has_room_for_code}

-- where the list holds the world's handlers, with its last number and the definition's limit
pub room_is : (d : Definition) (w : World) (to_come most object signal : ℕ) → d.most_handlers ≡ most →
    has_room_for_handler d w to_come object signal ≡ has_room_for_code (record { handlers = w.handlers; last = w.last_handler; to_come = to_come; most = most }) object signal
room_is d w to_come most object signal same = rw (length-filter (by_code_to object signal) w.handlers, same) refl
