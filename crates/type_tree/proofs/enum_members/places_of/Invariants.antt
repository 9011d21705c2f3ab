use Rattle.std.proofs.Common.{◌≡◌, ◌≤◌, ℤ, drop, length}
use Rattle.std.specs.List.{find}
use Rattle.std.specs.Ordering.{int_eq}
use Rattle.type_tree.specs.Numbered.{at_place}
use Rattle.type_tree.proofs.enum_members.places_of.Given as goal

abbrev pub invariant-members : goal.invariant-members
invariant-members l = record {
  within : l.left ≤ length l.members;
  places : (n : ℤ) → at_place l.places l.members n ≡ find (λ m. int_eq m.number n) (drop l.left l.members);
}

abbrev pub decreases-members : goal.decreases-members
decreases-members l = l.left
