use Rattle.std.proofs.Common.{◌≡◌, ◌-◌, ℕ, None, vec_len}
use Rattle.ui_machine.specs.Seq.{read}
use Rattle.read_types.proofs.by_type.grow.Given as goal

abbrev pub invariant-growing : goal.invariant-growing
invariant-growing g l = (u : ℕ) → read None l.named.items u ≡ read None l.initial.named.items u

abbrev pub decreases-growing : goal.decreases-growing
decreases-growing g l = l.len - vec_len l.named
