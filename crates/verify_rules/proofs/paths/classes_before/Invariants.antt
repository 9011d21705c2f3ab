use Rattle.std.proofs.Common.{◌≡◌, ◌≤◌}
use Rattle.verify_rules.specs.Places.{classes_before}
use Rattle.verify_rules.proofs.paths.classes_before.Given as goal

abbrev pub invariant-loop-number : goal.invariant-loop-number
invariant-loop-number l = record { few : l.count ≤ l.number; is : l.count ≡ classes_before l.types l.number }
