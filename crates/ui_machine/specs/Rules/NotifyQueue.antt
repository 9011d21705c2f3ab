-- Notifications that wait while an object is frozen (GObject manual, g_object_freeze_notify and g_object_thaw_notify).
use Rattle.std.specs.List.{list_any}
use Rattle.std.specs.Prelude.{Bool, List, Ok, [], cond, false, nat_eq, nat_lt, reverse, suc, true, zero, ℕ, ◌++◌, ◌-◌, ◌∷◌}
use Rattle.ui_machine.specs.declared.arm.Arm.TheVariants as arms
use Rattle.ui_machine.specs.Outcome.{After, Answer, only_if}
use Rattle.ui_machine.specs.State.Config.{Started, World, starts}
use Rattle.ui_machine.specs.State.Objects.{Object}
use Rattle.ui_machine.specs.State.Tasks.{Notifying, Thawing}

-- the queue with one more slot: each slot is in it once, in order of first queueing
abbrev pub queued : List ℕ → ℕ → List ℕ
queued queue slot = cond (list_any (λ s. nat_eq s slot) queue) queue (queue ++ slot ∷ [])

-- the slots in the order in which a thaw notifies: the last queued first
abbrev pub thawed : List ℕ → List ℕ
thawed queue = reverse queue

-- ** freezes (GObject manual, g_object_freeze_notify)

-- the greatest count of freezes
abbrev pub most_freezes : ℕ
most_freezes = 18446744073709551615

-- an object with one more freeze
abbrev pub frozen_more : Object → Answer (After Object (Unit {0}))
frozen_more o =
    only_if (nat_lt o.freezes most_freezes) arms.Freeze (Ok (record { state = record o { freezes = suc o.freezes }; answer = tt }))

-- an object with n freezes left of n + 1, and the notifications that are then made
abbrev pub less_frozen : ℕ → Object → After Object (List ℕ)
less_frozen zero o = record { state = record o { freezes = 0; queue = [] }; answer = thawed o.queue }
less_frozen (suc n) o = record { state = record o { freezes = suc n }; answer = [] }

-- the thaw that reaches zero takes the queue (g_object_thaw_notify)
abbrev pub frozen_less : Object → Answer (After Object (List ℕ))
frozen_less o = only_if (nat_lt 0 o.freezes) arms.Freeze (Ok (less_frozen (o.freezes - 1) o))

-- the object after a notification was raised, and whether it is made at once
abbrev pub raised : ℕ → Object → Answer (After Object Bool)
raised slot o =
    Ok (cond (nat_eq o.freezes 0) (record { state = o; answer = true })
    (record { state = record o { queue = queued o.queue slot }; answer = false }))

-- ** what is left of a thaw

-- the next of the notifications that are left of a thaw
abbrev pub thawing : World → ℕ → List ℕ → Answer Started
thawing w id [] = starts w []
thawing w id (slot ∷ slots) = starts w (Notifying id slot ∷ Thawing id slots ∷ [])
