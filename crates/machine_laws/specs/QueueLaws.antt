-- Laws of queued notifications.
use Rattle.std.specs.Prelude.{◌≡◌, ℕ, ◌≤◌, List, reverse}
use Rattle.ui_machine.specs.Seq.{total}
use Rattle.ui_machine.specs.State.References.{same}
use Rattle.ui_machine.specs.Rules.NotifyQueue.{queued, thawed}

-- how often a slot is in a list
abbrev pub times : ℕ → List ℕ → ℕ
times slot slots = total (same slot) slots

-- no slot is there twice
abbrev pub EachOnce : List ℕ → Type 0
EachOnce slots = (slot : ℕ) → times slot slots ≤ 1

-- a thaw notifies the slots of the queue in reverse
abbrev pub ThawsInReverse : Type 0
ThawsInReverse = (queue : List ℕ) → thawed queue ≡ reverse queue

-- a queue has each slot once, however often it is queued, and so has what a thaw notifies
abbrev pub QueuesOnce : Type 0
QueuesOnce = (queue : List ℕ) (slot : ℕ) → EachOnce queue → EachOnce (queued queue slot) × EachOnce (thawed queue)
