use Rattle.std.proofs.Common.{◌≡◌, length}
use Rattle.verify_operands.specs.Ancestry.{AreRows}
use Rattle.verify_operands.proofs.lookups.rows.Given as goal

abbrev pub invariant-loop-number : goal.invariant-loop-number
invariant-loop-number l = record { count : length l.rows.items ≡ l.number; rows : AreRows l.types l.rows.items }
