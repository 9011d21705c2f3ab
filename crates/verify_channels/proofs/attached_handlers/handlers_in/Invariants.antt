use Rattle.std.proofs.Common.{◌≡◌, ℕ, map, take}
use Rattle.definition_format.specs.Meaning.{attached_view}
use Rattle.verify_channels.specs.Attached.{handlers_for}
use Rattle.verify_channels.specs.Meanings.{attached_in, of_signal}
use Rattle.verify_channels.proofs.attached_handlers.handlers_in.Given as goal

abbrev pub invariant-loop-number : goal.invariant-loop-number
invariant-loop-number l = (number : ℕ) → handlers_for l.handlers number ≡ of_signal number (attached_in l.lookups l.class (map attached_view (take l.number l.signals)))
