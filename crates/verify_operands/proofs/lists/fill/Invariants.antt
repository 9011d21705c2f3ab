use Rattle.std.proofs.Common.{◌≡◌, ◌++◌, ◌-◌, ◌≤◌, ◌+◌, length, replicate, vec_len}
use Rattle.verify_operands.proofs.lists.fill.Given as goal

abbrev pub invariant-items : goal.invariant-items
invariant-items g l = record {
  filled : l.items.items ≡ l.initial.items.items ++ replicate (length l.items.items - length l.initial.items.items) l.item;
  longer : length l.initial.items.items ≤ length l.items.items;
  most : (length l.items.items ≤ length l.initial.items.items + (l.count - length l.initial.items.items));
}

abbrev pub decreases-items : goal.decreases-items
decreases-items g l = l.count - vec_len l.items
