use Rattle.std.proofs.Common.{◌≡◌, length}
use Rattle.verify_operands.specs.Ancestry.{IsRow}
use Rattle.verify_operands.proofs.lookups.row.Given as goal

abbrev pub invariant-loop-number : goal.invariant-loop-number
invariant-loop-number l = record { count : length l.row.items ≡ l.number; row : IsRow l.types l.t l.row.items }
