use Rattle.std.proofs.Common.{◌≡◌, ◌||◌, ℕ}
use Rattle.std.specs.BTreeSet.{contains}
use Rattle.std.specs.Ordering.{nat_cmp}
use Rattle.ui_machine.specs.Rules.Ancestry.{is_a}
use Rattle.read_types.proofs.ancestry.heir_types.Given as goal

abbrev pub invariant-line : goal.invariant-line
invariant-line l = (t : ℕ) → (contains nat_cmp l.all t || is_a l.types l.class t) ≡ (contains nat_cmp l.initial.all t || is_a l.types l.fn.parent t)

abbrev pub decreases-line : goal.decreases-line
decreases-line l = l.class
