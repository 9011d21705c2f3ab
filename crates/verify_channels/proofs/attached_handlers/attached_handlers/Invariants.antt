use Rattle.std.proofs.Common.{◌≡◌, ℕ, map}
use Rattle.ui_machine.specs.Seq.{listed}
use Rattle.verify_channels.specs.Attached.{handlers_for}
use Rattle.verify_channels.specs.Meanings.{attached_meanings, of_signal}
use Rattle.verify_channels.proofs.attached_handlers.attached_handlers.Given as goal

abbrev pub invariant-loop-place : goal.invariant-loop-place
invariant-loop-place l = (number : ℕ) → map (λ s. handlers_for s number) l.lists.items ≡ listed (λ place. of_signal number (attached_meanings l.lookups place)) l.place
