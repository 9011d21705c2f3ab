use Rattle.std.proofs.Common.{◌-◌, ◌≤◌, vec_len, max}
use Rattle.signal_core.specs.Growing.{SameItems}
use Rattle.signal_core.proofs.growing.grow.Given as goal

abbrev pub invariant-growing : goal.invariant-growing
invariant-growing g l = SameItems (λ v. v.items) l.initial.lists.items l.lists.items × (vec_len l.lists ≤ max (vec_len l.initial.lists) l.len)

abbrev pub decreases-growing : goal.decreases-growing
decreases-growing g l = l.len - vec_len l.lists
