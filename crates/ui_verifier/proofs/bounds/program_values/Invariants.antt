use Rattle.std.proofs.Common.{◌≡◌, ◌≤◌, length}
use Rattle.ui_machine.specs.Seq.{listed}
use Rattle.verify_order.specs.Numbers.{of_node}
use Rattle.verify_sketches.specs.Numbered.{program}
use Rattle.verify_numbers.specs.Counts.{at}
use Rattle.ui_verifier.proofs.bounds.program_values.Given as goal

abbrev pub invariant-loop-number : goal.invariant-loop-number
invariant-loop-number l = record {
  within : l.number ≤ length l.lookups.programs;
  so_far : l.numbers.items ≡ listed (λ p. of_node l.values (at l.layout (program p))) l.number;
}
