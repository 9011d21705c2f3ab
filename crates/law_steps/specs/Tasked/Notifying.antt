-- The task that makes a notification.
use Rattle.std.specs.Prelude.{ℕ}
use Rattle.ui_machine.specs.State.Tasks.{Notifying}
use Rattle.law_steps.specs.Tasked.First.{IsFine}

-- it takes its turns, with the transfers of bindings, which are within what is due at the property, and no deeper
abbrev pub DueNotificationsAreFine : Type 0
DueNotificationsAreFine = (id slot : ℕ) → IsFine (Notifying id slot)
